use Rattle.std.proofs.Common.{inl}
use Rattle.wasm_operators.specs.Shortest.{short_number}
use Rattle.module_removal.specs.CopiedParts.{writes}
use Rattle.wasm_sections.specs.Parts.{number}
use Rattle.module_removal.proofs.CopyLemmas.{read_copies, unread}
use Rattle.module_removal.proofs.copier.Copier.number.Goals as goal

pub returns-in-Ok-put_number-clause-is : goal.returns-in-Ok-put_number-clause-is
returns-in-Ok-put_number-clause-is c =
    read_copies number (λ n. (n, writes (short_number n))) c.args.input.now.end c.args.input.now.rest.now c.args.self.now c.put_number.new.self c.number.new.self.rest.now c.in-Ok.number c.in-Ok.ensures.is c.in-Ok-put_number.ensures.ok

pub returns-in-Err-put_number-clause-is : goal.returns-in-Err-put_number-clause-is
returns-in-Err-put_number-clause-is c =
    inl c.in-Err-put_number.ensures.err

pub returns-in-Err-clause-is : goal.returns-in-Err-clause-is
returns-in-Err-clause-is c =
    unread number (λ n. (n, writes (short_number n))) c.args.input.now.end c.args.input.now.rest.now c.in-Err.error c.in-Err.ensures.is
