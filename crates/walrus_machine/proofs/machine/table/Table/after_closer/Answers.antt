use Rattle.walrus_machine.specs.Controls.{control_meaning}
use Rattle.walrus_machine.proofs.Tables.{read_ahead, past_closer, as_many}
use Rattle.walrus_machine.proofs.machine.table.Table.after_closer.Goals as goal

pub returns-in-Some : goal.returns-in-Some
returns-in-Some c =
    let inside = c.self.inside in
    (read_ahead c.args.self.now _ inside.ahead.items c.deref.result.now _ _ c.self.view_is c.self.invariant.0 c.deref.ensures.value
    c.in-Some.ensures.lookup.3.0 c.in-Some.ensures.lookup.1).following

pub returns-in-None : goal.returns-in-None
returns-in-None c =
    let inside = c.self.inside in
    past_closer c.args.self.now _ (as_many _ c.args.self.now control_meaning inside.controls.items inside.ahead.items c.deref.result.now _ c.self.view_is c.self.invariant.1 c.deref.ensures.value c.in-None.ensures.lookup.3)
