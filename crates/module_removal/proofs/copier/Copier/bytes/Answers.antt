use Rattle.module_removal.specs.CopiedParts.{writes}
use Rattle.wasm_sections.specs.Parts.{bytes_part}
use Rattle.wasm_sections.specs.CodeSections.{entry}
use Rattle.module_removal.proofs.CopyLemmas.{unread, written_copies}
use Rattle.module_removal.proofs.copier.Copier.bytes.Goals as goal

pub returns-in-Ok-clause-is : goal.returns-in-Ok-clause-is
returns-in-Ok-clause-is c =
    written_copies bytes_part entry c.args.input.now.end c.args.input.now.rest.now c.args.self.now c.put_bytes.new.self c.bytes.new.self.rest.now c.in-Ok.bytes.now c.put_bytes.result c.in-Ok.ensures.is c.put_bytes.ensures.ok c.put_bytes.ensures.err

pub returns-in-Err-clause-is : goal.returns-in-Err-clause-is
returns-in-Err-clause-is c =
    unread bytes_part (λ bytes. (tt, writes (entry bytes))) c.args.input.now.end c.args.input.now.rest.now c.in-Err.error c.in-Err.ensures.is
