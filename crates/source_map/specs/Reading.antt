-- Reading mappings from left to right: the first part that can't be read is the fault.
use Rattle.std.specs.Prelude.{◌≡◌, ℕ, suc, ◌+◌, ◌-◌, ◌*◌, ◌/◌, ◌%◌, List, [], ◌∷◌, ◌==◌, length, nat_lt, nat_le, if◌then◌else◌, Option, Some, None, option_map, Result, Ok, Err}
use Rattle.std.specs.List.{slice_split}
use Rattle.source_map.specs.declared.mapping.Original.{Original}
use Rattle.source_map.specs.declared.mapping.Mapping.{Mapping}
use Rattle.source_map.specs.declared.fields.Fields.{Fields}
use Rattle.source_map.specs.declared.unread_segments.UnreadSegments.{UnreadSegments}
use Rattle.source_map.specs.declared.fault.MappingsFault.{MappingsFault}
use Rattle.source_map.specs.declared.fault.MappingsFault.TheVariants.{BadDigit, CutNumber, LongNumber, FieldCount, FieldOutOfRange, UnsortedColumn, SecondLine}
use Rattle.source_map.specs.declared.fault.MappingsError.{MappingsError}
use Rattle.source_map.specs.declared.fault.MappingsError.TheVariants as errors
use Rattle.wasm_numbers.specs.Results.{◌>>=◌, some_or}
use Rattle.source_map.specs.Vlq.{digit_value, max_digits, within, moved_by}
use Rattle.source_map.specs.Spelling.{no_fields, fields_after}

-- Reading ends with this fault, unless memory ran out.
abbrev pub Fails : {Y : Type 0} → MappingsError → Result Y MappingsFault → Type 0
Fails errors.Memory read = Unit {0}
Fails (errors.Fault f) read = read ≡ Err f

abbrev pub ReadsOrMemory : {X Y : Type 0} → (X → Y) → Result X MappingsError → Result Y MappingsFault → Type 0
ReadsOrMemory view (Ok x) read = read ≡ Ok (view x)
ReadsOrMemory view (Err e) read = Fails e read

-- ---- numbers and fields

-- a semicolon ends a line
abbrev pub digit_at : ℕ → Result ℕ MappingsFault
digit_at c = if c == 59 then Err SecondLine else some_or (digit_value c) BadDigit

unfoldable pub number_at : (most : ℕ) → List ℕ → Result (ℕ × List ℕ) MappingsFault
number_at most [] = Err CutNumber
number_at most (c ∷ cs) = digit_at c >>= λ d.
    if nat_lt d 32 then Ok (d, cs)
    else if nat_le most 1 then Err LongNumber
    else (number_at (most - 1) cs >>= λ high. Ok (d - 32 + 32 * high.0, high.1))

-- the next number of a segment, if the segment has one
unfoldable pub next_at : List ℕ → Result (ℕ × List ℕ) MappingsFault
next_at [] = Err FieldCount
next_at (c ∷ cs) = number_at max_digits (c ∷ cs)

unfoldable pub field_at : (before : ℕ) → List ℕ → Result (ℕ × List ℕ) MappingsFault
field_at before text = next_at text >>= λ n. some_or (moved_by n.0 before) FieldOutOfRange >>= λ field. Ok (field, n.1)

abbrev pub column_after : (n before : ℕ) → Result ℕ MappingsFault
column_after n before = if n % 2 == 0 then some_or (within (before + n / 2)) FieldOutOfRange else Err UnsortedColumn

unfoldable pub column_at : (before : ℕ) → List ℕ → Result (ℕ × List ℕ) MappingsFault
column_at before text = next_at text >>= λ n. column_after n.0 before >>= λ field. Ok (field, n.1)

-- ---- segments

-- nothing may follow the last field
abbrev pub last_field : ℕ × List ℕ → Result (Option ℕ) MappingsFault
last_field (field, []) = Ok (Some field)
last_field (field, c ∷ cs) = Err FieldCount

unfoldable pub original_name_at : (before : ℕ) → List ℕ → Result (Option ℕ) MappingsFault
original_name_at before [] = Ok None
original_name_at before (c ∷ cs) = field_at before (c ∷ cs) >>= last_field

unfoldable pub original_at : Fields → List ℕ → Result Original MappingsFault
original_at s text = do
  source ← field_at s.source text
  line ← field_at s.line source.1
  column ← field_at s.column line.1
  name ← original_name_at s.name column.1
  Ok (record { source = source.0; line = line.0; column = column.0; name = name })

unfoldable pub original_or_none_at : Fields → List ℕ → Result (Option Original) MappingsFault
original_or_none_at s [] = Ok None
original_or_none_at s (c ∷ cs) = original_at s (c ∷ cs) >>= λ o. Ok (Some o)

unfoldable pub segment_at : Fields → List ℕ → Result Mapping MappingsFault
segment_at s text = do
  column ← column_at s.generated text
  original ← original_or_none_at s column.1
  Ok (record { generated = column.0; original = original })

unfoldable pub segments_at : Fields → List (List ℕ) → Result (List Mapping) MappingsFault
segments_at s [] = Ok []
segments_at s (t ∷ ts) = segment_at s t >>= λ m. segments_at (fields_after s m) ts >>= λ ms. Ok (m ∷ ms)

-- the parts of a text between commas
abbrev pub comma_parts : Option (List ℕ) → List (List ℕ)
comma_parts None = []
comma_parts (Some text) = slice_split (λ b. b == 44) text

-- an empty text has none
abbrev pub some_text : List ℕ → Option (List ℕ)
some_text [] = None
some_text (c ∷ cs) = Some (c ∷ cs)

unfoldable pub mappings_at : List ℕ → Result (List Mapping) MappingsFault
mappings_at text = segments_at no_fields (comma_parts (some_text text))

-- ---- the segments that aren't read yet

abbrev pub mappings_left : UnreadSegments → Result (List Mapping) MappingsFault
mappings_left s = segments_at s.fields (comma_parts (option_map (λ x. x.now) s.left))

-- the mapping that was found, before others; or nothing
abbrev pub before_others : Option Mapping → Result (List Mapping) MappingsFault → Result (List Mapping) MappingsFault
before_others None others = Ok []
before_others (Some m) others = others >>= λ ms. Ok (m ∷ ms)

-- how much of a text is left, if anything is
abbrev pub some_length : Option (List ℕ) → ℕ
some_length None = 0
some_length (Some text) = suc (length text)

abbrev pub length_left : UnreadSegments → ℕ
length_left s = some_length (option_map (λ x. x.now) s.left)
