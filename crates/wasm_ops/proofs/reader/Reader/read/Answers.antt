use Rattle.std.proofs.Common.{◌≡◌, ◌++◌, ℕ, List, refl, ap, subst, ◌∙◌}
use Rattle.std.specs.Prelude.{IsOkAnd}
use Rattle.wasm_operators.specs.Operations.{RawOperation}
use Rattle.wasm_operators.specs.Meaning.{meaning}
use Rattle.wasm_operators.specs.Spelling.{Spells}
use Rattle.wasm_ops.specs.Position.{Position, Moves}
use Rattle.wasm_ops.proofs.reader.Reader.read.Goals as goal

pub returns-in-Some-clause-only : goal.returns-in-Some-clause-only
returns-in-Some-clause-only c = λ o text rest spelt parts.
    let both = c.in-Some.ensures.only o text rest spelt parts in
    (ap meaning c.operator.ensures ∙ both.0, both.1)

pub returns-in-None-clause-only : goal.returns-in-None-clause-only
returns-in-None-clause-only c =
    let same = c.in-None.ensures.none refl in
    subst (λ (p : Position). (o : RawOperation) (text rest : List ℕ) → Spells o text → p.rest ≡ text ++ rest
    → IsOkAnd c.read_other.result (λ x. (meaning x ≡ o) × Moves p text c.read_other.new.self)) same c.read_other.ensures.only
