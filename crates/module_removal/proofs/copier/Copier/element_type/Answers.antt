use Rattle.std.proofs.Common.{ℕ, Ok, ◌==◌, nat_le, if◌then◌else◌, ap}
use Rattle.module_removal.specs.LeftSpaces.{index_written}
use Rattle.module_removal.specs.CopiedParts.{nothing}
use Rattle.module_removal.specs.CopiedItems.{copied_element_kind, copied_element_type}
use Rattle.module_removal.proofs.CopyLemmas.{copies_as, copies_nothing}
use Rattle.module_removal.proofs.copier.Copier.element_type.Goals as goal

pub returns-in-0-clause-is : goal.returns-in-0-clause-is
returns-in-0-clause-is c =
    let end = c.args.input.now.end in
    let text = c.args.input.now.rest.now in
    let w = index_written c.args.self.now.left in
    copies_as c.args.self.now c.args.self.now text (Ok tt) (nothing end text) (copied_element_type w c.args.flags end text)
    (ap (λ (n : ℕ). (if n == 0 then nothing else copied_element_kind w (nat_le 4 c.args.flags)) end text) c.in-0.is) (copies_nothing c.args.self.now end text)
