use Rattle.std.proofs.Common.{refl}
use Rattle.module_removal.specs.declared.followed.Part.{Part}
use Rattle.module_removal.proofs.OrderLemmas.{new_number_set}
use Rattle.module_removal.proofs.followed.Followed.set_new.Goals as goal

pub returns-then-index-len : goal.returns-then-index-len
returns-then-index-len c =
    let old = c.index_mut.result.now in
    let new : Part = record { func = old.func; old = old.old; new = c.args.new } in
    new_number_set c.args.self.now.parts.items c.args.index old new c.index_mut.ensures.value refl refl
