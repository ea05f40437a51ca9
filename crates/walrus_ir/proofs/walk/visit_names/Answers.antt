use Rattle.std.proofs.Common.{◌≡◌, [], rules}
use Rattle.walrus_ir.specs.Events.{names, through}
use Rattle.walrus_ir.proofs.Visiting.{visits_named}
use Rattle.walrus_ir.proofs.walk.visit_names.Goals as goal

pub returns-in-RefFunc : goal.returns-in-RefFunc
returns-in-RefFunc g c = visits_named _ _ _ _ _ _ _ _ c.visit_ref_func.ensures (search rules)

pub returns-in-LocalGet : goal.returns-in-LocalGet
returns-in-LocalGet g c = visits_named _ _ _ _ _ _ _ _ c.visit_local_id.ensures (search rules)

pub returns-in-MemoryInit : goal.returns-in-MemoryInit
returns-in-MemoryInit g c = visits_named _ _ _ _ _ _ _ _ c.visit_data_id.ensures (search rules)

pub returns-in_default : goal.returns-in_default
returns-in_default g c = let none : names c.args.instr.now ≡ [] = search rules in rw none through
