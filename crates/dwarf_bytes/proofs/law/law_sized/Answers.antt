use Rattle.dwarf_bytes.specs.Numbers.{size_in_bytes}
use Rattle.dwarf_bytes.proofs.Fixed.{fixed_read}
use Rattle.dwarf_bytes.proofs.law.law_sized.Goals as goal

pub returns : goal.returns
returns c = λ size value following h. fixed_read (size_in_bytes size) value following h
