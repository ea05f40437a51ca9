-- One part after the other, and the parts of a vector in a loop.
use Rattle.std.proofs.Common.{◌≡◌, ℕ, ◌+◌, ◌-◌, ◌<◌, ◌≤◌, List, length, take, Result, Ok, Err, IfOk, sym, ap, subst, ◌∙◌}
use Rattle.std.specs.declared.vec.Vec.{Vec}
use Rattle.wasm_sections.specs.declared.fault.ModuleError.{ModuleError}
use Rattle.wasm_sections.specs.Parts.{Part, ◌>=>◌, passed, extent, number, repeated}
use Rattle.wasm_sections.proofs.RepeatedLemmas.{StepsLeft, no_step_done, step_done, all_done}
use Rattle.wasm_sections.proofs.TypeReadingLemmas.{first_gives}

-- what holds of the bytes that are written
pub bytes_then :
    {Z : Type 0} (r : Result (Vec ℕ Z) ModuleError) (bytes : List ℕ) (Q : List ℕ → Type 0) → IfOk r (λ v. v.items ≡ bytes) → Q bytes →
    IfOk r (λ v. Q v.items)
bytes_then (Ok v) bytes Q is q = subst Q (sym is) q
bytes_then (Err e) bytes Q is q = tt

pub then_read :
    {A B : Type 0} (first : Part A) (second : A → Part B) (end other : ℕ) (text mid rest : List ℕ) (x : A) (y : B) → first end text ≡ Ok (x, mid) →
    other ≡ end → second x other mid ≡ Ok (y, rest) → (first >=> second) end text ≡ Ok (y, rest)
then_read first second end other text mid rest x y e s f =
    first_gives (first end text) (λ z. second z.0 end z.1) (x, mid) e ∙ ap (λ (n : ℕ). second x n mid) (sym s) ∙ f

pub passed_read : {A : Type 0} (part : Part A) (end : ℕ) (text rest : List ℕ) (x : A) → part end text ≡ Ok (x, rest) → passed part end text ≡ Ok (tt, rest)
passed_read part end text rest x e = first_gives (part end text) (λ z. Ok (tt, z.1)) (x, rest) e

pub extent_read :
    {A : Type 0} (part : Part A) (end : ℕ) (text rest bytes : List ℕ) (x : A) → part end text ≡ Ok (x, rest) → bytes ≡ take (length text - length rest) text →
    extent part end text ≡ Ok (bytes, rest)
extent_read part end text rest bytes x e b =
    first_gives (part end text) (λ z. Ok (take (length text - length z.1) text, z.1)) (x, rest) e
    ∙ ap (λ (l : List ℕ). (let r : Result (List ℕ × List ℕ) ModuleError = Ok (l, rest) in r)) (sym b)

-- The number of the parts is read, and some of these are.
pub record PartsLeft {A : Type 0} (step : A → Part A) (count i : ℕ) (first now : A) (end : ℕ) (text rest : List ℕ) : Type 0 where
  pub begin : List ℕ
  pub read : number end text ≡ Ok (count, begin)
  pub left : StepsLeft step count i first now end begin rest

pub no_part_read :
    {A : Type 0} (step : A → Part A) (count : ℕ) (first : A) (end : ℕ) (text begin : List ℕ) → number end text ≡ Ok (count, begin) →
    PartsLeft step count 0 first first end text begin
no_part_read step count first end text begin e = record { begin = begin; read = e; left = no_step_done step count first end begin }

pub one_more_part :
    {A : Type 0} (step : A → Part A) (count i : ℕ) (first now next : A) (end other : ℕ) (text rest following : List ℕ) →
    PartsLeft step count i first now end text rest → i < count → other ≡ end → step now other rest ≡ Ok (next, following) →
    PartsLeft step count (i + 1) first next end text following
one_more_part step count i first now next end other text rest following so less same e = record {
  begin = so.begin;
  read = so.read;
  left = step_done step count i first now end so.begin rest so.left next following less (ap (λ (n : ℕ). step now n rest) (sym same) ∙ e);
}

pub all_parts_read :
    {A : Type 0} (step : A → Part A) (count i : ℕ) (first now : A) (end : ℕ) (text rest : List ℕ) → PartsLeft step count i first now end text rest → count ≤ i →
    (number >=> λ n. repeated step n first) end text ≡ Ok (now, rest)
all_parts_read step count i first now end text rest so done =
    first_gives (number end text) (λ z. repeated step z.0 first end z.1) (count, so.begin) so.read ∙ all_done step count i first now end so.begin rest so.left done
