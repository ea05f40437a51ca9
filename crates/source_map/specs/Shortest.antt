-- The text that is written for mappings: each number with as few digits as possible.
use Rattle.std.specs.Prelude.{ℕ, zero, suc, ◌+◌, ◌-◌, ◌*◌, ◌/◌, ◌%◌, List, [], ◌∷◌, ◌++◌, nat_lt, if◌then◌else◌, Option, Some, None}
use Rattle.std.specs.List.{join_with_byte}
use Rattle.source_map.specs.declared.mapping.Original.{Original}
use Rattle.source_map.specs.declared.mapping.Mapping.{Mapping}
use Rattle.source_map.specs.declared.fields.Fields.{Fields}
use Rattle.source_map.specs.Spelling.{no_fields, fields_after}

-- the digit of base64 with this value
abbrev pub digit : ℕ → ℕ
digit n = if nat_lt n 26 then n + 65 else if nat_lt n 52 then n + 71 else if nat_lt n 62 then n - 4 else if nat_lt n 63 then 43 else 47

-- with at most `more` digits before the last
unfoldable pub shortest_digits : (more n : ℕ) → List ℕ
shortest_digits zero n = digit (n % 32) ∷ []
shortest_digits (suc more) n = if nat_lt n 32 then digit n ∷ [] else digit (n % 32 + 32) ∷ shortest_digits more (n / 32)

-- the number that moves one field to another; never 1, which also moves a field, down by 2^31
abbrev pub field_difference : (before field : ℕ) → ℕ
field_difference before field = if nat_lt field before then 2 * (before - field) + 1 else 2 * (field - before)

abbrev pub short_field : (before field : ℕ) → List ℕ
short_field before field = shortest_digits 6 (field_difference before field)

abbrev pub short_name : (before : ℕ) → Option ℕ → List ℕ
short_name before None = []
short_name before (Some name) = short_field before name

abbrev pub short_original : Fields → Option Original → List ℕ
short_original s None = []
short_original s (Some o) = short_field s.source o.source ++ (short_field s.line o.line ++ (short_field s.column o.column ++ short_name s.name o.name))

abbrev pub short_segment : Fields → Mapping → List ℕ
short_segment s m = short_field s.generated m.generated ++ short_original s m.original

abbrev pub short_segments : Fields → List Mapping → List (List ℕ)
short_segments s [] = []
short_segments s (m ∷ ms) = short_segment s m ∷ short_segments (fields_after s m) ms

abbrev pub spelling : List Mapping → List ℕ
spelling ms = join_with_byte 44 (short_segments no_fields ms)
