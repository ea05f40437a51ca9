-- The text of a source map whose mappings move along with the operators of the program, as far as these are named.
use Rattle.std.specs.Prelude.{◌≡◌, ℕ, suc, List, [], ◌∷◌, ◌++◌, Option, Some, None, Result, Ok}
use Rattle.source_map.specs.declared.fault.MappingsFault.{MappingsFault}
use Rattle.source_map.specs.declared.fields.Fields.{Fields}
use Rattle.source_map.specs.declared.mapping.Mapping.{Mapping}
use Rattle.source_map.specs.declared.moving.Move.{Move}
use Rattle.source_map.specs.declared.moving_text.MovingSourceMap.{MovingSourceMap}
use Rattle.source_map.specs.Moving.{moved_all}
use Rattle.source_map.specs.Reading.{mappings_left, before_others, length_left}
use Rattle.source_map.specs.Shortest.{short_segment, short_segments, spelling}
use Rattle.source_map.specs.Spelling.{no_fields, fields_after, AscendFrom}

-- the fields that the next mapping is relative to
abbrev pub fields_before : Option Fields → Fields
fields_before None = no_fields
fields_before (Some s) = s

abbrev pub fields_written : Option Fields → Mapping → Fields
fields_written last m = fields_after (fields_before last) m

-- the text of a mapping after others: with a comma, unless it is the first
abbrev pub written_after : Option Fields → Mapping → List ℕ
written_after None m = short_segment no_fields m
written_after (Some s) m = 44 ∷ short_segment s m

-- the texts of mappings after others, each after a comma
abbrev pub after_commas : List (List ℕ) → List ℕ
after_commas [] = []
after_commas (t ∷ ts) = 44 ∷ (t ++ after_commas ts)

abbrev pub all_written_after : Option Fields → List Mapping → List ℕ
all_written_after None ms = spelling ms
all_written_after (Some s) ms = after_commas (short_segments s ms)

-- the mappings that aren't written yet
abbrev pub mappings_to_come : MovingSourceMap → Result (List Mapping) MappingsFault
mappings_to_come s = before_others s.next (mappings_left s.segments)

-- how much of a source map isn't written yet
abbrev pub some_left : Option Mapping → ℕ → ℕ
some_left None more = 0
some_left (Some m) more = suc more

abbrev pub length_to_come : MovingSourceMap → ℕ
length_to_come s = some_left s.next (length_left s.segments)

-- The first operators that were named are these, and those ahead are named next. What is written, and what is to come of the mappings,
-- is the text of all of them at their new places, whatever operators follow.
pub record MovedSoFar (ahead : List Move) (all : List Mapping) (moves : List Move) (s : MovingSourceMap) : Type 0 where
  pub left : List Mapping
  pub are_left : mappings_to_come s ≡ Ok left
  pub ascend : AscendFrom 0 left
  pub text :
      (more : List Move) →
      s.text.items ++ all_written_after s.last (moved_all (ahead ++ more) left) ≡ s.map.now.front.items ++ spelling (moved_all (moves ++ (ahead ++ more)) all)

-- The operators that were named are these; all is written of the mappings that can be moved by them.
abbrev pub HasMoved : (all : List Mapping) → (moves : List Move) → MovingSourceMap → Type 0
HasMoved all moves s = MovedSoFar [] all moves s
