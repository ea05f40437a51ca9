-- Runs by place, and values that are shown for the operators.
use Rattle.std.specs.Prelude.{ℕ, suc, List, [], ◌∷◌, map, Option, slice_get}
use Rattle.wasm_body.specs.Control.{Control, Marked, with_control}
use Rattle.wasm_body.specs.Machine.{Event, Executed, Taken, Run, Outcome, run}

-- the same run with other values shown for its operators
abbrev pub show_event : {A B : Type 0} → (A → B) → Event A → Event B
show_event f (Executed a) = Executed (f a)
show_event f (Taken a i t) = Taken (f a) i t

abbrev pub show_run : {A B : Type 0} → (A → B) → Run A → Run B
show_run f r = record { events = map (show_event f) r.events; ending = r.ending }

-- the operators of a list, each shown by its place in the list
abbrev pub placed_from : ℕ → List Control → List (Marked ℕ)
placed_from i [] = []
placed_from i (c ∷ cs) = with_control i c ∷ placed_from (suc i) cs

-- the run of a list, whose events name operators by their places in the list, from 0
abbrev pub run_by_place : List Control → List Outcome → (turns : ℕ) → Run ℕ
run_by_place cs outcomes turns = run (placed_from 0 cs) outcomes turns

-- a run by place, with the elements of a list at these places
abbrev pub shown_by : {B : Type 0} → List B → Run ℕ → Run (Option B)
shown_by bs r = show_run (slice_get bs) r
