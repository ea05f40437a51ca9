use Rattle.std.proofs.Common.{refl}
use Rattle.walrus_flat.proofs.CheckedWhole.{entry_missing}
use Rattle.walrus_flat.proofs.flat_check.entry_type.Goals as goal

pub returns-in-None : goal.returns-in-None
returns-in-None c = entry_missing c.args.module.now.types c.args.ty c.results.result.now _ refl c.results.ensures c.find_for_function_entry.result c.find_for_function_entry.ensures c.in-None.is
