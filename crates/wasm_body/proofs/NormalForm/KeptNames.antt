-- A named operator in the tree, computed from the operator as it was read.
use Rattle.std.specs.Prelude.{◌≡◌, ℕ, ◌^◌, nat_lt, List, length, Result, Ok, Err}
use Rattle.std.proofs.Common.{refl, ap, sym, ◌∙◌}
use Rattle.wasm_operators.specs.declared.types.BlockType.{BlockType}
use Rattle.wasm_operators.specs.Operations.{RawOperation}
use Rattle.wasm_body.specs.declared.error.ParseError.{ParseError}
use Rattle.wasm_body.specs.declared.error.ParseError.TheVariants.{Index, NoSuchLabel, RethrowOutsideHandler}
use Rattle.wasm_numbers.specs.Results.{◌>>=◌, with_fault, unless}
use Rattle.wasm_body.specs.Frames.{SequenceFrame, handler_at, outside}
use Rattle.wasm_body.specs.Translation.{Translation, translate, translate_immediates}
use Rattle.wasm_body.specs.Naming.{Environment, NamedOperation, naming, id_at, open_label, handler_label, block_types}
use Rattle.wasm_body.specs.FunctionTree.{Target, Depth}
use Rattle.wasm_body.specs.NormalForm.{kept, kept_operation}
use Rattle.wasm_body.proofs.Translation.Steps.{Leads, bound, all_of, ok-infallible}
use Rattle.wasm_body.proofs.Translation.Translations.{LeadAll, lead_all, translate_leads}

-- the value, or any number if there is a fault
abbrev pub sure_number : Result ℕ ParseError → ℕ
sure_number (Ok n) = n
sure_number (Err e) = 0

-- an operator as it is read, in the tree, whether its indices have ids or not
abbrev pub kept_raw : Environment → Translation ℕ BlockType Target (Unit {0}) ⊥
kept_raw env = record {
  index = λ space n. Ok (sure_number (id_at env space n));
  local = λ n. Ok (sure_number (with_fault Index (env.local_of n)));
  label = λ n. Ok (Depth n);
  handler = λ n. Ok n;
  outer = λ n. Ok n;
  number = λ n. Ok n;
  block = λ b. Ok tt;
  alignment = λ e. 2 ^ e;
  count = λ n. Ok tt;
}

pub number_leads : (r : Result ℕ ParseError) (q : ℕ) → r ≡ Ok q → (let s : Result ℕ ⊥ = Ok q in s) ≡ Ok (sure_number r)
number_leads r q e = ap (λ t. Ok (sure_number t)) (sym e)

-- labels stay as they are
pub open_same : {A : Type 0} → (fs : List (SequenceFrame A)) (n q : ℕ) → open_label fs n ≡ Ok q → q ≡ n
open_same fs n q e = let b = bound (unless (nat_lt n (length fs)) NoSuchLabel) (λ u. Ok n) q e in let c : n ≡ q = cc b.2 in sym c

pub handler_same : {A : Type 0} → (fs : List (SequenceFrame A)) (n q : ℕ) → handler_label fs n ≡ Ok q → q ≡ n
handler_same fs n q e =
    let b = bound (open_label fs n) (λ m. unless (handler_at fs n) RethrowOutsideHandler >>= λ u. Ok n) q e in
    let d = bound (unless (handler_at fs n) RethrowOutsideHandler) (λ u. Ok n) q b.2 in
    let c : n ≡ q = cc d.2 in sym c

pub same_leads : (n q : ℕ) → q ≡ n → (let s : Result ℕ ⊥ = Ok q in s) ≡ Ok n
same_leads n q e = ap Ok e

module _ {A : Type 0} (env : Environment) (fs : List (SequenceFrame A)) where
  named_lead : LeadAll (naming env fs) kept (kept_raw env)
  named_lead = record {
    indices = λ space n q e. number_leads (id_at env space n) q e;
    locals = λ n q e. number_leads ((naming env fs).local n) q e;
    labels = λ n q e. ap (λ k. Ok (Depth k)) (open_same fs n q e);
    handlers = λ n q e. same_leads n q (handler_same fs n q e);
    outers = λ n q e. same_leads n q (open_same (outside fs) n q e);
    numbers = λ n q e. let same : n ≡ q = cc e in same_leads n q (sym same);
    alignments = λ n. refl;
    counts = λ n u e. refl;
  }

  pub record IsKeptOf (o : RawOperation) (named : NamedOperation) : Type 0 where
    pub opcode : named.opcode ≡ o.opcode
    pub kept : translate_immediates (kept_raw env) o.immediates ≡ Ok (kept_operation named).immediates

  pub kept_of : (o : RawOperation) (named : NamedOperation) → translate (naming env fs) o ≡ Ok named → IsKeptOf o named
  kept_of o named e =
      let first = bound (translate_immediates (naming env fs) o.immediates) (λ is. Ok (record { opcode = o.opcode; immediates = is })) named e in
      let is : named ≡ record { opcode = o.opcode; immediates = first.0 } = cc first.2 in
      let leads = translate_leads (naming env fs) kept (kept_raw env) o.immediates
      (lead_all (naming env fs) kept (kept_raw env) named_lead o.immediates (all_of (Leads (naming env fs).block kept.block (kept_raw env).block) (λ b d h. refl) (block_types o.immediates)))
      first.0 first.1 in
      record {
        opcode = ap (λ (n : NamedOperation). n.opcode) is;
        kept = sym leads ∙ ok-infallible (translate_immediates kept first.0) ∙ ap (λ (n : NamedOperation). Ok (kept_operation n).immediates) (sym is);
      }
