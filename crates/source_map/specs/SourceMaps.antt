-- Source maps (ECMA-426, Source map format specification, source map format): a JSON text of an object, whose version is 3 and
-- which has the text of its mappings.
use Rattle.std.specs.Prelude.{◌≡◌, ℕ, List, Some, codes}
use Rattle.json.specs.Json.{number, string, object, Members, document}
use Rattle.json.specs.Find.{get_member}

-- The text is that of an object with these members, in their order: each with its name and its value, in which each number has the
-- text that it had. Of several members with one name, the last is the one that counts.
pub record IsSourceMap (source : List ℕ) (members : Members) (mappings : List ℕ) : Type 0 where
  pub is_object : document source ≡ Some (object members)
  pub version_is : get_member (codes "version") members ≡ Some (number (codes "3"))
  pub mappings_are : get_member (codes "mappings") members ≡ Some (string mappings)
