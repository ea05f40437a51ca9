-- The tokens that are written for members of a source map.
use Rattle.std.specs.Prelude.{◌≡◌, ℕ, List, [], ◌∷◌, ◌++◌, if◌then◌else◌, Option, Some, None}
use Rattle.json.specs.Token.{Token, key}
use Rattle.json.specs.Json.{Json, Members, no_members, member}
use Rattle.json.specs.Find.{get}
use Rattle.json.specs.Tree.{json_tokens}
use Rattle.json.specs.Written.{Written}
use Rattle.source_map.specs.WrittenSourceMaps.{is_ordered}

-- these tokens are written after those before
pub record AddsTokens (old new : Written) (tokens : List Token) : Type 0 where
  pub same_before : new.before ≡ old.before
  pub tokens_are : new.tokens ≡ old.tokens ++ tokens

-- a member of this name, if it has a value
abbrev pub named_tokens : (name : List ℕ) → Option Json → List Token
named_tokens name None = []
named_tokens name (Some value) = key name ∷ json_tokens value

-- the members of these names that a value has
abbrev pub ordered_tokens : (names : List (List ℕ)) → Json → List Token
ordered_tokens [] value = []
ordered_tokens (name ∷ names) value = named_tokens name (get name value) ++ ordered_tokens names value

-- the members whose names have no place in the order
abbrev pub other_tokens : Members → List Token
other_tokens no_members = []
other_tokens (member name value members) = if is_ordered name then other_tokens members else key name ∷ (json_tokens value ++ other_tokens members)
