use Rattle.std.proofs.Common.{rules}
use Rattle.walrus_numbering.proofs.written_types.block_type.Goals as goal

pub returns-in_ok-get_type_index-in-MultiValue : goal.returns-in_ok-get_type_index-in-MultiValue
returns-in_ok-get_type_index-in-MultiValue c = search rules

pub returns-in_err-get_type_index-in-MultiValue : goal.returns-in_err-get_type_index-in-MultiValue
returns-in_err-get_type_index-in-MultiValue c = search rules
