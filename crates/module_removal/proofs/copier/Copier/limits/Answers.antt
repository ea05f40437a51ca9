use Rattle.wasm_sections.specs.Parts.{extent}
use Rattle.wasm_sections.specs.Format.{limits_part}
use Rattle.module_removal.specs.CopiedParts.{writes}
use Rattle.module_removal.proofs.CopyLemmas.{extent_is, extent_fails, unread, written_copies}
use Rattle.module_removal.proofs.copier.Copier.limits.Goals as goal

pub returns-in-Ok-clause-is : goal.returns-in-Ok-clause-is
returns-in-Ok-clause-is c =
    written_copies (extent limits_part) (λ bytes. bytes) c.args.input.now.end c.args.input.now.rest.now c.args.self.now c.put.new.self c.limits.new.self.rest.now c.until.result.now c.put.result (extent_is limits_part c.args.input.now.end c.args.input.now.rest.now c.in-Ok.field-0 c.limits.new.self.rest.now c.until.result.now c.in-Ok.ensures.is c.until.ensures) c.put.ensures.ok c.put.ensures.err

pub returns-in-Err-clause-is : goal.returns-in-Err-clause-is
returns-in-Err-clause-is c =
    unread (extent limits_part) (λ bytes. (tt, writes bytes)) c.args.input.now.end c.args.input.now.rest.now c.in-Err.error (extent_fails limits_part c.args.input.now.end c.args.input.now.rest.now c.in-Err.error c.in-Err.ensures.is)
