-- Where addresses of a body go, and where its operators are: declarations at 10, operators at 11, 13, 16 and 20. The one at 13 isn't written, one
-- of a byte is added at 8, and the one at 16 is shorter by a byte.
use Rattle.std.specs.Prelude.{◌≡◌, ℕ, List, [], ◌∷◌, Option, Some, None, refl}
use Rattle.code_moves.specs.declared.run.Run.{Run}
use Rattle.code_moves.specs.Moves.{new_place, operator_place}

abbrev run : (old end gap own : ℕ) → Run
run old end gap own = record { old = old; end = end; gap = gap; own = own }

abbrev written : List Run
written = run 11 13 6 6 ∷ run 16 20 8 9 ∷ run 20 21 12 12 ∷ []

-- the first operator of a run: with what is added in front of it, and itself
with_added : new_place written 13 16 ≡ 8
with_added = refl

itself : operator_place written 13 16 ≡ Some 9
itself = refl

-- an operator that isn't written, and the end
not_written : operator_place written 13 13 ≡ None
not_written = refl

at_end : operator_place written 13 21 ≡ None
at_end = refl

-- two operators in one run
second : operator_place (run 11 16 6 7 ∷ []) 12 14 ≡ Some 10
second = refl
