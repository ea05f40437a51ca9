use Rattle.std.proofs.Common.{◌≡◌, ◌++◌, List, ℕ, Some, None, Ok}
use Rattle.std.specs.Prelude.{Option, IfSome}
use Rattle.wasm_operators.specs.Operations.{RawOperation}
use Rattle.wasm_operators.specs.Meaning.{meaning}
use Rattle.wasm_operators.specs.Spelling.{Spells, read_operation}
use Rattle.walrus_flat.specs.Controls.{control_listed}
use Rattle.walrus_flat.proofs.cursor.Cursor.peek_control.Goals as goal

-- an operator that is read is spelt
spelt : {A : Type 0} (view : A → RawOperation) (after : A → List ℕ) (bytes : List ℕ) (r : Option A) → IfSome r (λ x. read_operation bytes ≡ Ok (view x, after x)) →
    ((o : RawOperation) (rest : List ℕ) → read_operation bytes ≡ Ok (o, rest) → (text : List ℕ) × (bytes ≡ text ++ rest) × Spells o text) → IfSome r (λ x. (text : List ℕ) × Spells (view x) text)
spelt view after bytes (Some x) read law = let t = law (view x) (after x) read in (t.0, t.2)
spelt view after bytes None read law = tt

pub returns-clause-spelt : goal.returns-clause-spelt
returns-clause-spelt c = spelt (λ x. meaning (control_listed x.0)) (λ x. x.1.now) c.self.inside.rest.now c.control_at_front.result c.control_at_front.ensures c.law_front.ensures
