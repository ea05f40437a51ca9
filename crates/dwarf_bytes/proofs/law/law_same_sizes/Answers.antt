use Rattle.std.proofs.Common.{◌≡◌, ◌-◌, ◌∙◌, arith}
use Rattle.dwarf_bytes.proofs.ChangeLaws.{keeps_offset}
use Rattle.dwarf_bytes.proofs.law.law_same_sizes.Goals as goal

pub returns : goal.returns
returns c = λ cs o order same. let whole : o - 0 ≡ o = omega arith in keeps_offset 0 cs o order same ∙ whole
