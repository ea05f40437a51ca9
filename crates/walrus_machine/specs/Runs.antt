-- The meanings of the code's outcomes, events and runs: those of the trace machine. A set of tags is seen as the list of its
-- keys.
use Rattle.std.specs.Prelude.{ℕ, map}
use Rattle.walrus_machine.specs.declared.machine.run.Outcome.{Outcome}
use Rattle.walrus_machine.specs.declared.machine.run.Event.{Event}
use Rattle.walrus_machine.specs.declared.machine.run.Ending.{Ending}
use Rattle.walrus_machine.specs.declared.machine.run.Run.{Run}
use Rattle.wasm_body.specs.Machine as M

abbrev pub outcome_of : Outcome → M.Outcome
outcome_of Outcome.Go = M.Go
outcome_of Outcome.Trap = M.Trap
outcome_of (Outcome.Raise tags) = M.Raise tags.keys
outcome_of (Outcome.Way taken) = M.Way taken
outcome_of (Outcome.Entry k) = M.Entry k

abbrev pub event_of : Event → M.Event ℕ
event_of (Event.Op i) = M.Executed i
event_of (Event.Taken i clause tag) = M.Taken i clause tag

abbrev pub ending_of : Ending → M.Ending
ending_of Ending.Returned = M.Returned
ending_of Ending.TailCalled = M.TailCalled
ending_of Ending.Trapped = M.Trapped
ending_of (Ending.Escaped tags) = M.Escaped tags.keys
ending_of Ending.OutcomesOut = M.OutcomesOut
ending_of Ending.TurnsOut = M.TurnsOut
ending_of Ending.Mismatch = M.Mismatch

abbrev pub run_of : Run → M.Run ℕ
run_of r = record { events = map event_of r.events.items; ending = ending_of r.ending }
