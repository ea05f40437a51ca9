use Rattle.std.proofs.Common.{ap, sym, ◌∙◌}
use Rattle.wasm_ops.specs.Position.{Position}
use Rattle.wasm_operators.specs.Spelling.{read_operation}
use Rattle.wasm_ops.proofs.Fronts.{moved}
use Rattle.wasm_ops.proofs.reader.Reader.read_any.Goals as goal

pub returns-in-Ok-clause-only : goal.returns-in-Ok-clause-only
returns-in-Ok-clause-only c = λ o text rest spelt parts.
    let taken = c.in-Ok.ensures.only o text rest spelt (ap (λ (p : Position). p.rest) c.self.view_is ∙ parts) in
    (taken.0, moved c.args.self.now c.self.inside.rest.now c.self.inside.position c.in-Ok.rest.now text rest c.self.view_is parts taken.1)

pub returns-in-Err-clause-only : goal.returns-in-Err-clause-only
returns-in-Err-clause-only c = λ o text rest spelt parts. c.in-Err.ensures.only o text rest spelt (ap (λ (p : Position). p.rest) c.self.view_is ∙ parts)

pub returns-in-Ok-clause-is_read : goal.returns-in-Ok-clause-is_read
returns-in-Ok-clause-is_read c = ap (λ (p : Position). read_operation p.rest) (sym c.self.view_is) ∙ c.in-Ok.ensures.is_read
