-- Mappings as they are encoded (ECMA-426, Source map format specification, mappings structure), for a program of one line, such
-- as a WebAssembly module: segments between commas, each of one, four or five fields.
use Rattle.std.specs.Prelude.{◌≡◌, ℕ, ◌≤◌, ◌<◌, ◌^◌, List, [], ◌∷◌, ◌++◌, Option, Some, None, IfSome}
use Rattle.std.specs.Option.{unwrap_or}
use Rattle.std.specs.List.{join_with_byte}
use Rattle.source_map.specs.declared.mapping.Original.{Original}
use Rattle.source_map.specs.declared.mapping.Mapping.{Mapping}
use Rattle.source_map.specs.declared.fields.Fields.{Fields}
use Rattle.source_map.specs.Vlq.{IsField}

-- the fields before the first mapping
abbrev pub no_fields : Fields
no_fields = record { generated = 0; source = 0; line = 0; column = 0; name = 0 }

-- the fields after a mapping: those that it doesn't have are unchanged
abbrev pub after_original : Fields → (generated : ℕ) → Option Original → Fields
after_original s g None = record s { generated = g }
after_original s g (Some o) = record { generated = g; source = o.source; line = o.line; column = o.column; name = unwrap_or o.name s.name }

abbrev pub fields_after : Fields → Mapping → Fields
fields_after s m = after_original s m.generated m.original

-- ---- one segment

abbrev pub IsName : (before : ℕ) → Option ℕ → List ℕ → Type 0
IsName before None text = text ≡ []
IsName before (Some name) text = IsField before name text

pub record IsOriginal (s : Fields) (o : Original) (text : List ℕ) : Type 0 where
  pub source : List ℕ
  pub line : List ℕ
  pub column : List ℕ
  pub name : List ℕ
  pub text_is : text ≡ source ++ (line ++ (column ++ name))
  pub is_source : IsField s.source o.source source
  pub is_line : IsField s.line o.line line
  pub is_column : IsField s.column o.column column
  pub is_name : IsName s.name o.name name

abbrev pub IsOriginalOrNone : Fields → Option Original → List ℕ → Type 0
IsOriginalOrNone s None text = text ≡ []
IsOriginalOrNone s (Some o) text = IsOriginal s o text

-- the text encodes a mapping after others: its column isn't less than theirs
pub record IsSegment (s : Fields) (m : Mapping) (text : List ℕ) : Type 0 where
  pub generated : List ℕ
  pub original : List ℕ
  pub text_is : text ≡ generated ++ original
  pub ascends : s.generated ≤ m.generated
  pub is_generated : IsField s.generated m.generated generated
  pub is_original : IsOriginalOrNone s m.original original

-- ---- all of them

abbrev pub AreSegments : Fields → List Mapping → (segments : List (List ℕ)) → Type 0
AreSegments s [] [] = Unit {0}
AreSegments s (m ∷ ms) (t ∷ ts) = IsSegment s m t × AreSegments (fields_after s m) ms ts
AreSegments s _ _ = ⊥

-- the text encodes these mappings
abbrev pub SpellsMappings : List Mapping → (text : List ℕ) → Type 0
SpellsMappings ms text = (segments : List (List ℕ)) × (text ≡ join_with_byte 44 segments) × AreSegments no_fields ms segments

-- the columns of mappings don't descend, and none is less than this one
abbrev pub AscendFrom : ℕ → List Mapping → Type 0
AscendFrom least [] = Unit {0}
AscendFrom least (m ∷ ms) = (least ≤ m.generated) × AscendFrom m.generated ms

-- all fields are less than 2^32
pub record FitsOriginal (o : Original) : Type 0 where
  pub source : o.source < 2 ^ 32
  pub line : o.line < 2 ^ 32
  pub column : o.column < 2 ^ 32
  pub name : IfSome o.name (λ n. n < 2 ^ 32)

abbrev pub FitsMapping : Mapping → Type 0
FitsMapping m = (m.generated < 2 ^ 32) × IfSome m.original FitsOriginal
