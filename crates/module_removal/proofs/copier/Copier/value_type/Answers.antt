use Rattle.wasm_numbers.specs.Results.{◌>>=◌}
use Rattle.module_removal.specs.CopiedParts.{fault_with_place, new_type, written_type}
use Rattle.module_removal.specs.LeftSpaces.{index_written}
use Rattle.wasm_sections.specs.Format.{value_part}
use Rattle.module_removal.proofs.CopyLemmas.{checked_copies, checked_fails, unchecked}
use Rattle.module_removal.proofs.ItemCopies.{puts_type, given_fails}
use Rattle.module_removal.proofs.copier.Copier.value_type.Goals as goal

pub returns-in-Ok-new_type-clause-is : goal.returns-in-Ok-new_type-clause-is
returns-in-Ok-new_type-clause-is c =
    checked_copies value_part (λ t. new_type (index_written c.args.self.now.left) t >>= written_type) c.args.input.now.end c.args.input.now.rest.now c.at-at.result c.args.self.now c.put_type.new.self c.value_type.new.self.rest.now c.in-Ok.ty c.put_type.result c.at-at.ensures.place c.in-Ok.ensures.is (puts_type (fault_with_place c.at-at.result) (index_written c.args.self.now.left) c.in-Ok.ty c.in-Ok-new_type.ty c.args.self.now c.new_type.new.self c.put_type.new.self c.put_type.result c.in-Ok-new_type.ensures c.put_type.ensures.ok c.put_type.ensures.err)

pub returns-in-Err-new_type-clause-is : goal.returns-in-Err-new_type-clause-is
returns-in-Err-new_type-clause-is c =
    checked_fails value_part (λ t. new_type (index_written c.args.self.now.left) t >>= written_type) c.args.input.now.end c.args.input.now.rest.now c.at-at.result c.value_type.new.self.rest.now c.in-Ok.ty c.in-Err-new_type.error c.at-at.ensures.place c.in-Ok.ensures.is (given_fails (fault_with_place c.at-at.result) (new_type (index_written c.args.self.now.left) c.in-Ok.ty) written_type c.in-Err-new_type.error c.in-Err-new_type.ensures)

pub returns-in-Err-clause-is : goal.returns-in-Err-clause-is
returns-in-Err-clause-is c =
    unchecked value_part (λ t. new_type (index_written c.args.self.now.left) t >>= written_type) c.args.input.now.end c.args.input.now.rest.now c.in-Err.error c.in-Err.ensures.is
