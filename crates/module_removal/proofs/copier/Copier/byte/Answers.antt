use Rattle.std.proofs.Common.{[], ◌∷◌, inl}
use Rattle.module_removal.specs.CopiedParts.{writes}
use Rattle.wasm_sections.specs.Parts.{one_byte}
use Rattle.module_removal.proofs.CopyLemmas.{read_copies, unread}
use Rattle.module_removal.proofs.copier.Copier.byte.Goals as goal

pub returns-in-Ok-put_byte-clause-is : goal.returns-in-Ok-put_byte-clause-is
returns-in-Ok-put_byte-clause-is c =
    read_copies one_byte (λ b. (b, writes (b ∷ []))) c.args.input.now.end c.args.input.now.rest.now c.args.self.now c.put_byte.new.self c.byte.new.self.rest.now c.in-Ok.byte c.in-Ok.ensures.is c.in-Ok-put_byte.ensures.ok

pub returns-in-Err-put_byte-clause-is : goal.returns-in-Err-put_byte-clause-is
returns-in-Err-put_byte-clause-is c =
    inl c.in-Err-put_byte.ensures.err

pub returns-in-Err-clause-is : goal.returns-in-Err-clause-is
returns-in-Err-clause-is c =
    unread one_byte (λ b. (b, writes (b ∷ []))) c.args.input.now.end c.args.input.now.rest.now c.in-Err.error c.in-Err.ensures.is
