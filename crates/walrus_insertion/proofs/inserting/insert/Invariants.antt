use Rattle.std.proofs.Common.{◌≡◌}
use Rattle.walrus_insertion.proofs.Visiting.{VisitedBelow}
use Rattle.walrus_insertion.specs.InsertedInstructions.{IsPushed, IsInsertedOrPassed}
use Rattle.walrus_insertion.proofs.EditedFunctions.{AreEditedSequences}
use Rattle.walrus_insertion.proofs.inserting.insert.Given as goal

abbrev pub invariant-loop-slot : goal.invariant-loop-slot
invariant-loop-slot g l =
    goal.F-IsAlwaysCallable g l.caller
    × (l.builder.type ≡ l.fn.builder.type)
    × (l.builder.entry ≡ l.fn.builder.entry)
    × VisitedBelow (IsInsertedOrPassed (IsPushed (goal.F-step g))) l.fn.caller l.fn.builder.sequences l.caller l.builder.sequences l.slot
    × AreEditedSequences l.fn.builder.sequences l.builder.sequences
