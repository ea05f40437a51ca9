-- Rows whose addresses follow the code.
use Rattle.std.specs.Prelude.{List, [], ◌∷◌, map, is_some, if◌then◌else◌}
use Rattle.code_moves.specs.declared.body.Body.{Body}
use Rattle.code_moves.specs.Moves.{address_moved, new_address}
use Rattle.dwarf_line.specs.LineProgram.{LineRow}

abbrev pub moved_row : List Body → LineRow → LineRow
moved_row bodies r = record r { address = new_address bodies r.address }

-- A sequence is of code that is written if its first address is of a body. Of code that the linker has removed, the first address is
-- one that no code has; such a sequence stays as it is.
abbrev pub moved_sequence : List Body → List LineRow → List LineRow
moved_sequence bodies [] = []
moved_sequence bodies (r ∷ rs) = if is_some (address_moved bodies r.address) then map (moved_row bodies) (r ∷ rs) else r ∷ rs
