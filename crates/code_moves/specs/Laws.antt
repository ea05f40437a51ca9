-- What is claimed of addresses. `a` and `c` are addresses of the source; `old` and `own` are those of an operator that is written,
-- in the source and in what is written.
use Rattle.std.specs.Prelude.{◌≡◌, ℕ, ◌+◌, ◌-◌, ◌<◌, ◌≤◌, List, [], ◌∷◌, ◌++◌, ◌⊎◌, ◌↔◌, Some, Any, map, nat_le, if◌then◌else◌, suc}
use Rattle.std.specs.List.{AllByRecursion}
use Rattle.code_moves.specs.declared.run.Run.{Run}
use Rattle.code_moves.specs.declared.body.Body.{Body}
use Rattle.code_moves.specs.OrderedBodies.{AreOrdered}
use Rattle.code_moves.specs.Moves.{first_gap, body_with_address, new_address, operator_moved, IsWrittenAt}

-- an address of some body
abbrev pub IsOfABody : List Body → (address : ℕ) → Type 0
IsOfABody bs a = (b : Body) × (body_with_address bs a ≡ Some b)

-- an operator of some body is written
abbrev pub IsWrittenIn : List Body → (old own : ℕ) → Type 0
IsWrittenIn bs old own = (b : Body) × (body_with_address bs old ≡ Some b) × IsWrittenAt b.runs.items b.new_end old own

-- The order of addresses stays.
abbrev pub Sorted : Type 0
Sorted = (bs : List Body) (a c : ℕ) → AreOrdered 0 0 bs → IsOfABody bs a → IsOfABody bs c → a ≤ c
    → new_address bs a ≤ new_address bs c

-- A range contains an operator that is written exactly if it did.
abbrev pub Ranges : Type 0
Ranges = (bs : List Body) (low high old own : ℕ) → AreOrdered 0 0 bs → IsOfABody bs low → IsOfABody bs high → IsWrittenIn bs old own
    → ((low ≤ old) × (old < high)) ↔ ((new_address bs low ≤ own) × (own < new_address bs high))

-- how many of the first rows are at this address or before it
abbrev pub rows_until : (address : ℕ) → List ℕ → ℕ
rows_until a [] = 0
rows_until a (row ∷ rows) = if nat_le row a then suc (rows_until a rows) else 0

-- Of the rows of a line table, by their addresses, the last one at an operator that is written or before it stays the last one.
abbrev pub Rows : Type 0
Rows = (bs : List Body) (rows : List ℕ) (old own : ℕ) → AreOrdered 0 0 bs → AllByRecursion (IsOfABody bs) rows → IsWrittenIn bs old own
    → rows_until own (map (new_address bs) rows) ≡ rows_until old rows

-- the beginning or the end of the body, where what is added in front of the first operator of a run begins, or an operator that is
-- written itself
abbrev pub IsPlace : Body → (address new : ℕ) → Type 0
IsPlace b a new = (new ≡ b.new_begin) ⊎ ((new ≡ b.new_end) ⊎ (Any (λ r. new ≡ r.gap) b.runs.items ⊎ IsWrittenAt b.runs.items b.new_end a new))

abbrev pub Places : Type 0
Places = (bs : List Body) (b : Body) (a : ℕ) → body_with_address bs a ≡ Some b → IsPlace b a (new_address bs a)

-- The place of an operator is told exactly if the operator is written, and is where it is written.
abbrev pub Operators : Type 0
Operators = (bs : List Body) (old own : ℕ) → IsWrittenIn bs old own ↔ (operator_moved bs old ≡ Some own)

-- The end of the last operator of a run goes to the end of what is written for it; that of another one to the operator after it.
abbrev pub Calls : Type 0
Calls = (bs : List Body) (b : Body) (front rs : List Run) (r : Run) → AreOrdered 0 0 bs → body_with_address bs r.end ≡ Some b
    → b.runs.items ≡ front ++ r ∷ rs
    → (new_address bs r.end ≡ first_gap rs b.new_end)
    × ((a : ℕ) → r.old < a → a < r.end → r.own + (a - r.old) < first_gap rs b.new_end → new_address bs a ≡ r.own + (a - r.old))
