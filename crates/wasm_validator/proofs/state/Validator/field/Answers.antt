use Rattle.std.proofs.Common.{◌≡◌, ap, ◌∙◌}
use Rattle.std.specs.Option.{option_map}
use Rattle.std.proofs.lemmas.Option.{slice_get-map}
use Rattle.wasm_body.specs.Validity.{required}
use Rattle.wasm_context.specs.Contexts.{field_of}
use Rattle.wasm_validator.proofs.PlainOperators.{bound}
use Rattle.wasm_validator.proofs.state.Validator.field.Goals as goal

pub returns-in-Some : goal.returns-in-Some
returns-in-Some c =
    bound _ _ _ c.in-Some.ensures ∙ ap required (slice_get-map field_of c.in-Some.fields.now c.args.field ∙ ap (option_map field_of) c.field_at.ensures)
