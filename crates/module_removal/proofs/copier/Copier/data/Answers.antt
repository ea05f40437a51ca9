use Rattle.std.proofs.Common.{[], not, ◌==◌, Err}
use Rattle.wasm_operators.specs.declared.types.Space.TheVariants.{Memories}
use Rattle.module_removal.specs.CopiedParts.{◌>+>◌, copied_number, copied_bytes}
use Rattle.module_removal.specs.CopiedItems.{copied_place}
use Rattle.module_removal.proofs.CopyLemmas.{then_copies, first_stops}
use Rattle.module_removal.proofs.copier.Copier.data.Goals as goal

pub returns-clause-is : goal.returns-clause-is
returns-clause-is c =
    then_copies (λ w. copied_number) (λ w flags. copied_place w Memories (not (flags == 1)) (flags == 2) >+> λ u. copied_bytes) c.args.input.now.end c.args.input.now.rest.now c.args.self.now c.in-Ok.value c.number.new.self c.number.new.input.end c.number.new.input.rest.now c.in-Ok.ensures.is c.in-Ok.ensures.same_end
    c.bytes.new.self c.bytes.new.input.rest.now c.bytes.result
    (then_copies (λ w. copied_place w Memories (not (c.in-Ok.value == 1)) (c.in-Ok.value == 2)) (λ w u. copied_bytes) c.number.new.input.end c.number.new.input.rest.now c.number.new.self tt c.place.new.self c.place.new.input.end c.place.new.input.rest.now c.in-Ok-place.ensures.is c.in-Ok-place.ensures.same_end
    c.bytes.new.self c.bytes.new.input.rest.now c.bytes.result
    (c.bytes.ensures.is))

pub returns-in-Err-clause-is : goal.returns-in-Err-clause-is
returns-in-Err-clause-is c =
    first_stops (λ w. copied_number) (λ w flags. copied_place w Memories (not (flags == 1)) (flags == 2) >+> λ u. copied_bytes) c.args.input.now.end c.args.input.now.rest.now c.args.self.now c.in-Err.error c.in-Err.ensures.is

pub returns-in-Err-place-clause-is : goal.returns-in-Err-place-clause-is
returns-in-Err-place-clause-is c =
    then_copies (λ w. copied_number) (λ w flags. copied_place w Memories (not (flags == 1)) (flags == 2) >+> λ u. copied_bytes) c.args.input.now.end c.args.input.now.rest.now c.args.self.now c.in-Ok.value c.number.new.self c.number.new.input.end c.number.new.input.rest.now c.in-Ok.ensures.is c.in-Ok.ensures.same_end
    c.args.self.now [] (Err c.in-Err-place.error)
    (first_stops (λ w. copied_place w Memories (not (c.in-Ok.value == 1)) (c.in-Ok.value == 2)) (λ w u. copied_bytes) c.number.new.input.end c.number.new.input.rest.now c.number.new.self c.in-Err-place.error c.in-Err-place.ensures.is)
