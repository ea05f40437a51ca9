-- The kinds of open sequences.
use Rattle.std.specs.Prelude.{Bool, true, false}
use Rattle.walrus_ir.specs.declared.control.BlockKind.{BlockKind}
use Rattle.walrus_ir.specs.declared.control.BlockKind.TheVariants as kind

-- whether a sequence is followed by an `else`, or by a `delegate`
abbrev pub has_else : BlockKind → Bool
has_else kind.If = true
has_else _ = false

abbrev pub has_delegate : BlockKind → Bool
has_delegate kind.Try = true
has_delegate _ = false
