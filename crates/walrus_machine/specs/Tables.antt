-- The table of a body's operators: where the parts and the closer of each construct are.
use Rattle.std.specs.Prelude.{◌≡◌, ℕ, suc, List, [], ◌∷◌, drop, reverse, Bool, true, false, not, ◌&&◌, Option, option_map, get_or}
use Rattle.std.specs.Borrow.{Bor}
use Rattle.wasm_body.specs.Control.{Marked}
use Rattle.wasm_body.specs.Control as C
use Rattle.wasm_body.specs.Machine.{Shape, Part, control_shape, tail, seek, catches, is_else}
use Rattle.wasm_body.specs.Places.{placed_from}
use Rattle.walrus_machine.specs.Controls.{control_meaning}
use Rattle.walrus_machine.specs.declared.machine.control.Control.{Control}
use Rattle.walrus_machine.specs.declared.machine.table.Ahead.{Ahead}
use Rattle.walrus_machine.specs.declared.machine.table.Levels.{Levels}
use Rattle.walrus_machine.specs.declared.machine.table.Sought.{Sought}

-- a place, from its position: the operators from it on, each with its position
abbrev pub place_from : List C.Control → ℕ → List (Marked ℕ)
place_from cs i = drop i (placed_from 0 cs)

abbrev pub control_at : Option (Bor Control) → Option C.Control
control_at c = option_map (λ x. control_meaning x.now) c

-- what is ahead of a place in a construct around it; the innermost construct has depth 0
pub record IsAhead (cs : List C.Control) (depth : ℕ) (place : ℕ) (a : Ahead) : Type 0 where
  pub part : place_from cs a.part ≡ (seek (λ c. true) depth 0 (place_from cs place)).rest
  pub following : place_from cs a.following ≡ tail (seek (λ c. false) depth 0 (place_from cs place)).rest

-- the same in each construct around a place; outside of all constructs, nothing is ahead
abbrev pub nothing_ahead : ℕ → Ahead
nothing_ahead end = record { part = end; following = end }

abbrev pub LevelsAhead : List C.Control → ℕ → Levels → Type 0
LevelsAhead cs place l = (depth : ℕ) → IsAhead cs depth place (get_or (reverse l.levels.items) depth (nothing_ahead l.end))

-- the same after each operator from a position on, in the innermost construct
abbrev pub AreAhead : List C.Control → ℕ → List Ahead → Type 0
AreAhead cs i [] = Unit {0}
AreAhead cs i (a ∷ more) = IsAhead cs 0 (suc i) a × AreAhead cs (suc i) more

-- whether this is the wanted part
abbrev pub test_of : Sought → C.Control → Bool
test_of Sought.Else c = is_else c
test_of (Sought.Clause tags) c = catches tags.now.keys c

abbrev pub parts : Shape → Bool
parts Part = true
parts _ = false

abbrev pub is_part : C.Control → Bool
is_part c = parts (control_shape c)

-- whether a search for a part that passes the test continues past this part or closer
abbrev pub passes_by : (C.Control → Bool) → C.Control → Bool
passes_by test c = is_part c && not (test c)
