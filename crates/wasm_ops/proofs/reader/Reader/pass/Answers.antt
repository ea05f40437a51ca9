use Rattle.std.proofs.Common.{◌≡◌, ℕ, List, ◌∙◌, refl, sym, ap}
use Rattle.wasm_operators.specs.Meaning.{meaning}
use Rattle.wasm_operators.specs.Operations.{RawOperation}
use Rattle.wasm_ops.specs.Position.{Position}
use Rattle.wasm_operators.specs.Spelling.{read_operation}
use Rattle.wasm_numbers.proofs.Agreement.{ok_is}
use Rattle.wasm_ops.proofs.Fronts.{moved}
use Rattle.wasm_operators.proofs.OperationLaws.{operations_agree}
use Rattle.wasm_ops.proofs.reader.Reader.pass.Goals as goal

pub returns-clause-found : goal.returns-clause-found
returns-clause-found c =
    let bytes = c.self.inside.rest.now in
    let rest = c.args.rest.now in
    let same : bytes ≡ c.args.self.now.rest = ap (λ (p : Position). p.rest) c.self.view_is in
    let t = c.law_front.ensures (meaning c.args.operator.now) rest (ap read_operation same ∙ c.requires) in
    (t.0, moved c.args.self.now bytes c.self.inside.position rest t.0 rest c.self.view_is (sym same ∙ t.1) refl, t.2)

pub returns-clause-only : goal.returns-clause-only
returns-clause-only c = λ o text rest spelt parts.
    let after = c.args.rest.now in
    let both = ok_is (meaning c.args.operator.now, after) (o, rest) (sym c.requires ∙ ap read_operation parts ∙ operations_agree.again o text rest spelt) in
    let same = ap (λ (p : RawOperation × List ℕ). p.1) both in
    (ap (λ (p : RawOperation × List ℕ). p.0) both, moved c.args.self.now c.self.inside.rest.now c.self.inside.position after text rest c.self.view_is parts same)
