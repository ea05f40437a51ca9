use Rattle.dwarf_info.proofs.OtherBytes.{other_bytes_stay}
use Rattle.dwarf_info.proofs.law.law_other_bytes.Goals as goal

pub returns : goal.returns
returns c = other_bytes_stay
