use Rattle.wasm_operators.specs.declared.types.Space.TheVariants.{Types}
use Rattle.module_removal.specs.CopiedParts.{copied_byte, copied_index}
use Rattle.module_removal.proofs.CopyLemmas.{then_copies, first_stops}
use Rattle.module_removal.proofs.copier.Copier.tag.Goals as goal

pub returns-clause-is : goal.returns-clause-is
returns-clause-is c =
    then_copies (λ w. copied_byte) (λ w attribute. copied_index w Types) c.args.input.now.end c.args.input.now.rest.now c.args.self.now c.in-Ok.value c.byte.new.self c.byte.new.input.end c.byte.new.input.rest.now c.in-Ok.ensures.is c.in-Ok.ensures.same_end
    c.index.new.self c.index.new.input.rest.now c.index.result
    (c.index.ensures.is)

pub returns-in-Err-clause-is : goal.returns-in-Err-clause-is
returns-in-Err-clause-is c =
    first_stops (λ w. copied_byte) (λ w attribute. copied_index w Types) c.args.input.now.end c.args.input.now.rest.now c.args.self.now c.in-Err.error c.in-Err.ensures.is
