-- Why a text isn't read as a source map.
use Rattle.std.specs.Prelude.{◌≡◌, ◌≢◌, ℕ, List, Some, None, Err, IsSome, IsUtf8, codes}
use Rattle.json.specs.Json.{Json, number, string, document}
use Rattle.json.specs.Find.{get, as_object}
use Rattle.source_map.specs.declared.json_text.fault.SourceMapFault.{SourceMapFault}
use Rattle.source_map.specs.declared.json_text.fault.SourceMapFault.TheVariants.{NotJson, NotASourceMap, BadSourceMapVersion, NoMappings, Mappings}
use Rattle.source_map.specs.declared.json_text.fault.SourceMapError.{SourceMapError}
use Rattle.source_map.specs.declared.json_text.fault.SourceMapError.TheVariants.{Memory, Fault}
use Rattle.source_map.specs.Reading.{mappings_at}

-- the value has the version 3
abbrev pub HasVersion3 : Json → Type 0
HasVersion3 value = get (codes "version") value ≡ Some (number (codes "3"))

-- What each fault says of the text: it is no JSON text in UTF-8; or it is the text of a value that is no object, that has not the
-- version 3, that has no text of mappings, or one with this fault.
abbrev pub IsFaultOf : List ℕ → SourceMapFault → Type 0
IsFaultOf source (NotJson line column) = IsUtf8 source → document source ≡ None
IsFaultOf source NotASourceMap = (value : Json) × (document source ≡ Some value) × (as_object value ≡ None)
IsFaultOf source BadSourceMapVersion = (value : Json) × (document source ≡ Some value) × IsSome (as_object value) × (HasVersion3 value → ⊥)
IsFaultOf source NoMappings = (value : Json) × (document source ≡ Some value) × HasVersion3 value × ((text : List ℕ) → get (codes "mappings") value ≢ Some (string text))
IsFaultOf source (Mappings fault) = (value : Json) × (text : List ℕ) × (document source ≡ Some value) × HasVersion3 value × (get (codes "mappings") value ≡ Some (string text)) × (mappings_at text ≡ Err fault)

-- memory ran out, or the text has this fault
abbrev pub IsErrorOf : List ℕ → SourceMapError → Type 0
IsErrorOf source Memory = Unit {0}
IsErrorOf source (Fault fault) = IsFaultOf source fault
