-- Fields of a section that get new values where they are; everything else is copied.
use Rattle.std.specs.Prelude.{ℕ, zero, suc, ◌-◌, ◌==◌, nat_lt, if◌then◌else◌, List, [], ◌∷◌, ◌++◌, length, Result, Ok, Err}
use Rattle.wasm_numbers.specs.Results.{◌>>=◌}
use Rattle.dwarf_bytes.specs.declared.fault.DebugFault.{DebugFault}
use Rattle.dwarf_bytes.specs.declared.fault.DebugFault.TheVariants.{Truncated, Overlap, BadOffset}
use Rattle.dwarf_bytes.specs.declared.size.Size.{Size}
use Rattle.dwarf_bytes.specs.Changes.{SectionChange, end_from, patched}
use Rattle.dwarf_bytes.specs.Numbers.{size_in_bytes, fixed_number}
use Rattle.dwarf_info.specs.Following.{offset_followed, distance_followed, sized_part}

-- the parts of a section that are replaced so far, or the first fault
abbrev pub Replacing : Type 0
Replacing = Result (List SectionChange) DebugFault

-- What is replaced after the bytes at the front are read, and the bytes that follow them; or the first fault. `cs`: what is replaced
-- before.
abbrev pub ReplacingReader : Type 0
ReplacingReader = (bytes : List ℕ) → (cs : List SectionChange) → Result (List SectionChange × List ℕ) DebugFault

-- one more part, after the others
abbrev pub part_replaced : SectionChange → List SectionChange → Replacing
part_replaced c cs = if nat_lt c.at (end_from 0 cs) then Err Overlap else Ok (cs ++ c ∷ [])

-- the number of this size at this place becomes a new one, which has as many bytes
abbrev pub number_replaced : (at : ℕ) → Size → (old new : ℕ) → List SectionChange → Replacing
number_replaced at size old new cs = if old == new then Ok cs else (sized_part at size new >>= λ c. part_replaced c cs)

-- The number of this size at this place is a distance from a place of `.debug_info`, of which these parts are replaced. It follows.
abbrev pub distance_replaced : (info : List SectionChange) → (start at : ℕ) → Size → (distance : ℕ) → List SectionChange → Replacing
distance_replaced info start at size distance cs = distance_followed info start distance >>= λ new. number_replaced at size distance new cs

-- what follows one after the other, to the last byte; each takes at least one byte: at most this many are read
unfoldable pub at_most_replaced : (most : ℕ) → (one : ReplacingReader) → List ℕ → List SectionChange → Replacing
at_most_replaced most one [] cs = Ok cs
at_most_replaced zero one (b ∷ bytes) cs = Err Truncated
at_most_replaced (suc most) one (b ∷ bytes) cs = one (b ∷ bytes) cs >>= λ x. at_most_replaced most one x.1 x.0

abbrev pub each_replaced : (one : ReplacingReader) → List ℕ → List SectionChange → Replacing
each_replaced one bytes cs = at_most_replaced (length bytes) one bytes cs

-- a section in which these parts are replaced
abbrev pub section_with : List SectionChange → (section : List ℕ) → Result (List ℕ) DebugFault
section_with cs section = if nat_lt (length section) (end_from 0 cs) then Err BadOffset else Ok (patched cs section)

-- a section of these, one after the other, in which nothing is replaced before
abbrev pub section_replaced : (one : ReplacingReader) → (section : List ℕ) → Result (List ℕ) DebugFault
section_replaced one section = each_replaced one section [] >>= λ cs. section_with cs section

-- ---- the offset of a unit

-- An offset into `.debug_info`, of which these parts are replaced, is at the front and follows. `end`: the place after the bytes.
abbrev pub unit_followed : (info : List SectionChange) → Size → (end : ℕ) → (bytes : List ℕ) → (cs : List SectionChange)
    → Result ((ℕ × List SectionChange) × List ℕ) DebugFault
unit_followed info size end bytes cs =
    fixed_number (size_in_bytes size) bytes >>= λ unit.
    number_replaced (end - length bytes) size unit.0 (offset_followed info unit.0) cs >>= λ now.
    Ok ((unit.0, now), unit.1)
