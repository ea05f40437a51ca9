use Rattle.std.proofs.Common.{take}
use Rattle.wrewrite_c.specs.Made.{HasFunctions}
use Rattle.wrewrite_c.proofs.making.add_functions.Given as goal

abbrev pub invariant-loop-index : goal.invariant-loop-index
invariant-loop-index l = HasFunctions (take l.index-index l.indices) l.functions
