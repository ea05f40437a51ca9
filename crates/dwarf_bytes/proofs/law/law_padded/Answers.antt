use Rattle.dwarf_bytes.proofs.Padded.{padded_read, leb_width}
use Rattle.dwarf_bytes.proofs.law.law_padded.Goals as goal

pub returns-clause-read : goal.returns-clause-read
returns-clause-read c = padded_read

pub returns-clause-width : goal.returns-clause-width
returns-clause-width c = λ width value some few fits. leb_width 9 width value some few fits
