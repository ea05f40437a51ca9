use Rattle.std.proofs.Common.{length, sym, subst}
use Rattle.wasm_ops.specs.Position.{Position}
use Rattle.wasm_context.specs.TypeLists.{types_in}
use Rattle.wasm_context.specs.Contexts.{context_of}
use Rattle.wasm_locals.specs.LocalTypes.{types_of_locals}
use Rattle.wasm_validation.specs.BodyValidation.{BodySetting, Validates}
use Rattle.wasm_validation.proofs.code.validate_code.Goals as goal

pub returns : goal.returns
returns c =
    let a = c.args in
    let g : BodySetting = record {
      context = context_of a.context.now (types_of_locals a.locals);
      parameters = length a.locals.params.now;
      results = types_in a.context.now a.results;
    }
    in
    subst (λ (p : Position). Validates g p.place p.rest c.take_all-result.result) c.new-reader.ensures
    (c.take_all-result.ensures g (sym c.begin-validator.ensures.setting) (sym c.begin-validator.ensures.begins))
