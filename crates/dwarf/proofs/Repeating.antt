-- Parts that are replaced one after the other.
use Rattle.std.proofs.Common.{◌≡◌, ℕ, zero, suc, ◌<◌, ◌≤◌, List, [], ◌∷◌, length, Result, Ok, Err, refl, ap, ◌∙◌, arith}
use Rattle.wasm_numbers.specs.Results.{◌>>=◌}
use Rattle.dwarf_bytes.specs.declared.fault.DebugFault.{DebugFault}
use Rattle.dwarf_bytes.specs.Changes.{SectionChange}
use Rattle.dwarf.specs.Replacing.{ReplacingReader, at_most_replaced, each_replaced, section_with, section_replaced}

-- a fault of a part is one of the whole
pub bind_fault : {A B : Type 0} (r : Result A DebugFault) (f : A → Result B DebugFault) (fault : DebugFault) → r ≡ Err fault → (r >>= f) ≡ Err fault
bind_fault r f fault e = rw e refl

pub bind_value : {A B : Type 0} (r : Result A DebugFault) (f : A → Result B DebugFault) (x : A) → r ≡ Ok x → (r >>= f) ≡ f x
bind_value r f x e = rw e refl

-- From these bytes on, what is replaced comes to what all comes to.
pub record ReplacedSoFar (one : ReplacingReader) (all : List ℕ) (old : List SectionChange) (rest : List ℕ) (now : List SectionChange) : Type 0 where
  pub most : ℕ
  pub enough : length rest ≤ most
  pub same : each_replaced one all old ≡ at_most_replaced most one rest now

pub none_replaced_yet : (one : ReplacingReader) (all : List ℕ) (old : List SectionChange) → ReplacedSoFar one all old all old
none_replaced_yet one all old = record { most = length all; enough = omega arith; same = refl }

none_left : (one : ReplacingReader) (most : ℕ) (now : List SectionChange) → at_most_replaced most one [] now ≡ Ok now
unfolding at_most_replaced
none_left one most now = refl

pub all_replaced : (one : ReplacingReader) (all : List ℕ) (old : List SectionChange) (rest : List ℕ) (now : List SectionChange) → ReplacedSoFar one all old rest now → rest ≡ []
    → each_replaced one all old ≡ Ok now
all_replaced one all old rest now so none =
    so.same ∙ ap (λ (bytes : List ℕ). at_most_replaced so.most one bytes now) none ∙ none_left one so.most now

record NextReplaced (one : ReplacingReader) (most : ℕ) (rest : List ℕ) (now : List SectionChange) : Type 0 where
  n : ℕ
  enough : length rest ≤ suc n
  is : at_most_replaced most one rest now ≡ (one rest now >>= λ x. at_most_replaced n one x.1 x.0)

next_replaced : (one : ReplacingReader) (most : ℕ) (rest : List ℕ) (now : List SectionChange) → (rest ≡ [] → ⊥) → length rest ≤ most → NextReplaced one most rest now
unfolding at_most_replaced
next_replaced one most [] now some enough = absurd (some refl)
next_replaced one zero (b ∷ bytes) now some enough = absurd (omega arith)
next_replaced one (suc n) (b ∷ bytes) now some enough = record { n = n; enough = enough; is = refl }

module _ (one : ReplacingReader) (all : List ℕ) (old : List SectionChange) (rest : List ℕ) (now : List SectionChange) (so : ReplacedSoFar one all old rest now) (some : rest ≡ [] → ⊥) where
  next : NextReplaced one so.most rest now
  next = next_replaced one so.most rest now some so.enough

  pub fault_of_next : (fault : DebugFault) → one rest now ≡ Err fault → each_replaced one all old ≡ Err fault
  fault_of_next fault e = so.same ∙ next.is ∙ bind_fault (one rest now) (λ x. at_most_replaced next.n one x.1 x.0) fault e

  module _ (new : List SectionChange) (after : List ℕ) (e : one rest now ≡ Ok (new, after)) where
    pub replaced_next : length after < length rest → ReplacedSoFar one all old after new
    replaced_next less = record {
      most = next.n;
      enough = let k = next.enough in omega arith;
      same = so.same ∙ next.is ∙ bind_value (one rest now) (λ x. at_most_replaced next.n one x.1 x.0) (new, after) e;
    }

  -- the one after which nothing is read
  pub replaced_last : (new : List SectionChange) → one rest now ≡ Ok (new, []) → each_replaced one all old ≡ Ok new
  replaced_last new e =
      so.same ∙ next.is ∙ bind_value (one rest now) (λ x. at_most_replaced next.n one x.1 x.0) (new, []) e ∙ none_left one next.n new

-- ---- a section

module _ (one : ReplacingReader) (section : List ℕ) where
  pub section_is : (cs : List SectionChange) → each_replaced one section [] ≡ Ok cs → section_replaced one section ≡ section_with cs section
  section_is cs e = bind_value (each_replaced one section []) (λ ds. section_with ds section) cs e

  pub section_fault : (fault : DebugFault) → each_replaced one section [] ≡ Err fault → section_replaced one section ≡ Err fault
  section_fault fault e = bind_fault (each_replaced one section []) (λ ds. section_with ds section) fault e
