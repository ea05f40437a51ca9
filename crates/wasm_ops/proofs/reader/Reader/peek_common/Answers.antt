use Rattle.std.proofs.Common.{◌≡◌, ◌++◌, List, ℕ, Some, None, Ok, sym, subst}
use Rattle.std.specs.Prelude.{Option, IfSome}
use Rattle.wasm_operators.specs.Operations.{RawOperation}
use Rattle.wasm_operators.specs.Meaning.{meaning}
use Rattle.wasm_operators.specs.Spelling.{Spells, read_operation}
use Rattle.wasm_ops.specs.CommonOperators.{common_listed}
use Rattle.wasm_ops.specs.Position.{Position}
use Rattle.wasm_ops.proofs.reader.Reader.peek_common.Goals as goal

-- an operator that is read is spelt
spelt : {A : Type 0} (view : A → RawOperation) (after : A → List ℕ) (bytes : List ℕ) (r : Option A) → IfSome r (λ x. read_operation bytes ≡ Ok (view x, after x)) →
    ((o : RawOperation) (rest : List ℕ) → read_operation bytes ≡ Ok (o, rest) → (text : List ℕ) × (bytes ≡ text ++ rest) × Spells o text) → IfSome r (λ x. (text : List ℕ) × Spells (view x) text)
spelt view after bytes (Some x) read law = let t = law (view x) (after x) read in (t.0, t.2)
spelt view after bytes None read law = tt

pub returns-clause-spelt : goal.returns-clause-spelt
returns-clause-spelt c =
    spelt (λ x. meaning (common_listed x.0)) (λ x. x.1.now) c.self.inside.rest.now c.find_common.result
    (subst (λ (p : Position). IfSome c.find_common.result (λ x. read_operation p.rest ≡ Ok (meaning (common_listed x.0), x.1.now))) (sym c.self.view_is) c.find_common.ensures) c.law_front.ensures
