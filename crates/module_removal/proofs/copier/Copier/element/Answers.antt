use Rattle.std.proofs.Common.{[], ◌%◌, ◌==◌, Err}
use Rattle.wasm_operators.specs.declared.types.Space.TheVariants.{Tables}
use Rattle.module_removal.specs.CopiedParts.{◌>+>◌, copied_number}
use Rattle.module_removal.specs.CopiedItems.{copied_place, copied_typed_elements}
use Rattle.module_removal.proofs.CopyLemmas.{then_copies, first_stops}
use Rattle.module_removal.proofs.copier.Copier.element.Goals as goal

pub returns-clause-is : goal.returns-clause-is
returns-clause-is c =
    then_copies (λ w. copied_number) (λ w flags. copied_place w Tables ((flags % 2) == 0) ((flags % 4) == 2) >+> λ u. copied_typed_elements w flags) c.args.input.now.end c.args.input.now.rest.now c.args.self.now c.in-Ok.value c.number.new.self c.number.new.input.end c.number.new.input.rest.now c.in-Ok.ensures.is c.in-Ok.ensures.same_end
    c.typed_elements.new.self c.typed_elements.new.input.rest.now c.typed_elements.result
    (then_copies (λ w. copied_place w Tables ((c.in-Ok.value % 2) == 0) ((c.in-Ok.value % 4) == 2)) (λ w u. copied_typed_elements w c.in-Ok.value) c.number.new.input.end c.number.new.input.rest.now c.number.new.self tt c.place.new.self c.place.new.input.end c.place.new.input.rest.now c.in-Ok-place.ensures.is c.in-Ok-place.ensures.same_end
    c.typed_elements.new.self c.typed_elements.new.input.rest.now c.typed_elements.result
    (c.typed_elements.ensures.is))

pub returns-in-Err-clause-is : goal.returns-in-Err-clause-is
returns-in-Err-clause-is c =
    first_stops (λ w. copied_number) (λ w flags. copied_place w Tables ((flags % 2) == 0) ((flags % 4) == 2) >+> λ u. copied_typed_elements w flags) c.args.input.now.end c.args.input.now.rest.now c.args.self.now c.in-Err.error c.in-Err.ensures.is

pub returns-in-Err-place-clause-is : goal.returns-in-Err-place-clause-is
returns-in-Err-place-clause-is c =
    then_copies (λ w. copied_number) (λ w flags. copied_place w Tables ((flags % 2) == 0) ((flags % 4) == 2) >+> λ u. copied_typed_elements w flags) c.args.input.now.end c.args.input.now.rest.now c.args.self.now c.in-Ok.value c.number.new.self c.number.new.input.end c.number.new.input.rest.now c.in-Ok.ensures.is c.in-Ok.ensures.same_end
    c.args.self.now [] (Err c.in-Err-place.error)
    (first_stops (λ w. copied_place w Tables ((c.in-Ok.value % 2) == 0) ((c.in-Ok.value % 4) == 2)) (λ w u. copied_typed_elements w c.in-Ok.value) c.number.new.input.end c.number.new.input.rest.now c.number.new.self c.in-Err-place.error c.in-Err-place.ensures.is)
