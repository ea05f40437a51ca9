-- Line tables, one after the other, are by ascending offsets.
use Rattle.std.proofs.Common.{◌≡◌, ℕ, suc, ◌+◌, ◌<◌, List, [], ◌∷◌, length, Ok, arith}
use Rattle.code_moves.specs.declared.body.Body.{Body}
use Rattle.dwarf_line.specs.declared.moved.Moved.{Moved}
use Rattle.dwarf_line.specs.LineTables.{LineTable, tables, IsTableAt, AreTablesAt}
use Rattle.dwarf_line.specs.Repeated.{at_most}
use Rattle.dwarf_info.specs.Sound.{Ascend}
use Rattle.dwarf_info.proofs.Search.{ascend_lower}

no_table_in_none : (t : LineTable) → tables [] ≡ Ok (t ∷ []) → ⊥
unfolding at_most
no_table_in_none t e = cc

takes_bytes : (text : List ℕ) (t : LineTable) → tables text ≡ Ok (t ∷ []) → 0 < length text
takes_bytes [] t e = absurd (no_table_in_none t e)
takes_bytes (b ∷ text) t e = omega arith

pub tables_ascend : (bodies : List Body) (at new_at : ℕ) (ms sequences : List Moved) (section new : List ℕ) → AreTablesAt bodies at new_at ms sequences section new → Ascend (λ (m : Moved). m.old) at ms
tables_ascend bodies at new_at [] sequences section new h = tt
tables_ascend bodies at new_at (m ∷ ms) sequences section new h =
    let own = h.0 in
    let others = h.1 in
    let text = h.2 in
    let more = h.3 in
    let new_text = h.4 in
    let new_more = h.5 in
    let table : IsTableAt bodies at new_at m own text new_text = h.9 in
    let some = takes_bytes text table.old_table table.source in
    let old_is = table.old_is in
    let rest = tables_ascend bodies (at + length text) (new_at + length new_text) ms others more new_more h.10 in
    (omega arith, ascend_lower (λ (m : Moved). m.old) (suc m.old) (at + length text) ms rest (omega arith))
