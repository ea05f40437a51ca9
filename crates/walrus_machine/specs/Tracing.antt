-- The state of the machine while it runs, and where its steps lead.
use Rattle.std.specs.Prelude.{◌≡◌, ℕ, ◌+◌, List, ◌++◌, length, map, reverse, Option, option_map}
use Rattle.std.specs.Borrow.{Bor}
use Rattle.std.specs.BTreeSet.{BTreeSet}
use Rattle.wasm_body.specs.Control as C
use Rattle.wasm_body.specs.Machine as M
use Rattle.walrus_machine.specs.declared.machine.run.Event.{Event}
use Rattle.walrus_machine.specs.declared.machine.label.Label.{Label}
use Rattle.walrus_machine.specs.declared.machine.label.Response.{Response}
use Rattle.walrus_machine.specs.declared.machine.state.State.{State}
use Rattle.walrus_machine.specs.declared.machine.state.Next.{Next}
use Rattle.walrus_machine.specs.declared.machine.execution.TurnEnd.{TurnEnd}
use Rattle.walrus_machine.specs.Controls.{construct_meaning}
use Rattle.walrus_machine.specs.Runs.{outcome_of, event_of, ending_of}
use Rattle.walrus_machine.specs.Tables.{place_from}

-- ---- the state

-- the tags that a handler caught
abbrev pub caught_in : Option (Bor (BTreeSet ℕ)) → Option M.Tags
caught_in caught = option_map (λ tags. tags.now.keys) caught

abbrev pub label_of : List C.Control → Label → M.Label ℕ
label_of cs l = record { opener = l.opener; construct = construct_meaning l.construct; following = place_from cs (l.opener + 1); caught = caught_in l.caught }

-- the open labels, innermost first; the code has the innermost last
abbrev pub machine_labels : List C.Control → List Label → List (M.Label ℕ)
machine_labels cs ls = reverse (map (label_of cs) ls)

-- the label of a construct that is opened at a position
abbrev pub opened_label : List C.Control → C.Construct → ℕ → M.Label ℕ
opened_label cs construct position = M.label position construct (place_from cs (position + 1))

abbrev pub response_of : List C.Control → Response → M.Response ℕ
response_of cs Response.Passes = M.Passes
response_of cs (Response.Hands n) = M.Hands n
response_of cs (Response.Jumps clause tag n) = M.Jumps clause tag n
response_of cs (Response.Enters clause tag place) = M.Enters clause tag (place_from cs place)

-- ---- how a run continues

-- what the machine does with the labels and the outcomes of a state
abbrev pub Continuation : Type 0
Continuation = List (M.Label ℕ) → List M.Outcome → M.Run ℕ

-- a run with these events before its own
abbrev pub seen : List Event → M.Run ℕ → M.Run ℕ
seen es r = record { events = map event_of es ++ r.events; ending = r.ending }

-- the run that continues from a state in this way
abbrev pub continued_run : List C.Control → State → Continuation → M.Run ℕ
continued_run cs s continuation = seen s.events.items (continuation (machine_labels cs s.labels.items) (map outcome_of s.outcomes.now))

-- What a call does to a state: the run that continues from the old state in the way `f k` is the one that continues from the
-- new state in the way `k`.
abbrev pub Does : (State → State → (List C.Control → Continuation → Continuation) → Type 0)
Does old new f = (cs : List C.Control) (k : Continuation) → continued_run cs old (f cs k) ≡ continued_run cs new k

-- What a call finds in a state: the run that continues from the old state in the way `k` is the one that continues from the new
-- state in the way `f k`.
abbrev pub Finds : (State → State → (List C.Control → Continuation → Continuation) → Type 0)
Finds old new f = (cs : List C.Control) (k : Continuation) → continued_run cs old k ≡ continued_run cs new (f cs k)

-- continues where a step leads
abbrev pub continued_by : (again go : M.From ℕ) → List C.Control → Next → Continuation
continued_by again go cs (Next.Continue place) ls o = go (place_from cs place) ls o
continued_by again go cs (Next.Turn place) ls o = again (place_from cs place) ls o
continued_by again go cs (Next.Finished ending) ls o = M.ends (ending_of ending)

-- The step from the old state is the run that continues from the new state where the step leads.
abbrev pub ContinuesAs : List C.Control → ((again go : M.From ℕ) → Continuation) → State → Next → State → Type 0
ContinuesAs cs step old next new = (again go : M.From ℕ) → continued_run cs old (step again go) ≡ continued_run cs new (continued_by again go cs next)

-- The step of an operator at a position.
abbrev pub StepsAt : List C.Control → C.Control → (position : ℕ) → State → Next → State → Type 0
StepsAt cs control position = ContinuesAs cs (λ again go. M.step again go control position (place_from cs (position + 1)))

-- continues where the steps of a turn lead
abbrev pub continued_after : (again : M.From ℕ) → List C.Control → TurnEnd → Continuation
continued_after again cs (TurnEnd.Turn place) ls o = again (place_from cs place) ls o
continued_after again cs (TurnEnd.Finished ending) ls o = M.ends (ending_of ending)

-- The steps of a turn from a place on, from the old state, are the run that continues from the new state where they lead.
abbrev pub EndsTurnAs : List C.Control → (place : List (C.Marked ℕ)) → State → TurnEnd → State → Type 0
EndsTurnAs cs place old turn_end new = (again : M.From ℕ) → continued_run cs old (M.straight again (length place) place) ≡ continued_run cs new (continued_after again cs turn_end)
