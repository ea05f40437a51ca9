-- The JSON text of a source map with other mappings: which members it has, and in which order.
use Rattle.std.specs.Prelude.{◌≡◌, ℕ, List, [], ◌∷◌, ◌++◌, Bool, ◌||◌, false, if◌then◌else◌, Option, Some, None, IsUtf8, codes}
use Rattle.std.specs.Str.{bytes_eq}
use Rattle.json.specs.Json.{Json, string, object, Members, no_members, member}
use Rattle.json.specs.Find.{get_member}
use Rattle.json.specs.Print.{print, escape}
use Rattle.json.specs.Tree.{json_tokens}
use Rattle.source_map.specs.declared.json_text.source_map.SourceMap.{SourceMap}
use Rattle.source_map.specs.declared.mapping.Mapping.{Mapping}
use Rattle.source_map.specs.Spelling.{SpellsMappings}
use Rattle.source_map.specs.SourceMaps.{IsSourceMap}

-- the names that come before the mappings, in their order
abbrev pub order : List (List ℕ)
order = codes "version" ∷ codes "file" ∷ codes "sourceRoot" ∷ codes "sources" ∷ codes "sourcesContent" ∷ codes "names" ∷ []

abbrev pub is_one_of : List (List ℕ) → List ℕ → Bool
is_one_of [] name = false
is_one_of (n ∷ names) name = bytes_eq name n || is_one_of names name

-- the name has a place in the order
abbrev pub is_ordered : List ℕ → Bool
is_ordered name = is_one_of order name || bytes_eq name (codes "mappings")

-- a member of this name before others, if it has a value
abbrev pub put_before : (name : List ℕ) → Option Json → Members → Members
put_before name None more = more
put_before name (Some value) more = member name value more

-- the members of these names, in the order of the names, before others
abbrev pub ordered : (names : List (List ℕ)) → Members → (more : Members) → Members
ordered [] _ more = more
ordered (name ∷ names) members more = put_before name (get_member name members) (ordered names members more)

-- the members whose names have no place in the order, in the order that they have
abbrev pub others : Members → Members
others no_members = no_members
others (member name value members) = if is_ordered name then others members else member name value (others members)

-- The members with another text of mappings: those that the specification names in its order, then all others.
abbrev pub with_mappings : Members → (mappings : List ℕ) → Members
with_mappings members mappings = ordered order members (member (codes "mappings") (string mappings) (others members))

-- the JSON text of an object, with no space
abbrev pub object_text : Members → List ℕ
object_text members = print (json_tokens (object members))

-- What a source map keeps of a text that it was read from: its mappings, and what is before and after their text in the texts that
-- are written.
pub record IsReadFrom (source : List ℕ) (members : Members) (map : SourceMap) : Type 0 where
  pub is_source_map : IsSourceMap source members map.mappings.items
  pub all : List Mapping
  pub spells : SpellsMappings all map.mappings.items
  pub front_is_utf8 : IsUtf8 map.front.items
  pub back_is_utf8 : IsUtf8 map.back.items
  pub parts : (text : List ℕ) → escape text ≡ text → map.front.items ++ (text ++ map.back.items) ≡ object_text (with_mappings members text)

-- The text is that of an object with the members of the source, and with these mappings; and it reads back as a source map with
-- these members and mappings.
pub record IsTextWith (members : Members) (mappings : List ℕ) (text : List ℕ) : Type 0 where
  pub text_is : text ≡ object_text (with_mappings members mappings)
  pub is_utf8 : IsUtf8 text
  pub reads_back : IsSourceMap text (with_mappings members mappings) mappings
