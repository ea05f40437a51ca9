-- What was said so far, and whatever is said later completes the sequence.
use Rattle.std.proofs.Common.{◌++◌, List, drop}
use Rattle.walrus_insertion.specs.declared.probe.Edit.{Edit}
use Rattle.walrus_insertion.specs.Edits.{edited}
use Rattle.walrus_insertion.specs.InsertedInstructions.{IsPushed, InsertedFrom}
use Rattle.walrus_insertion.proofs.Asking.{SaidBelow}
use Rattle.walrus_insertion.proofs.script.Script.ask_each.Given as goal

abbrev pub invariant-loop-index : goal.invariant-loop-index
invariant-loop-index g l =
    goal.F-IsAlwaysCallable g l.caller
    × SaidBelow (IsPushed (goal.F-step g) l.fn.kind l.fn.instrs) l.fn.caller l.fn.instrs l.caller l.self.edits.items l.index
