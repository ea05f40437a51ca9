-- What the builder of a module's types has.
use Rattle.std.specs.Prelude.{◌≡◌, ℕ, List, map, true, nat_eq, find, option_map}
use Rattle.std.specs.List.{flat_map}
use Rattle.std.specs.Cmp.Lexicographic.{pointwise}
use Rattle.wasm_typing.specs.RecursiveTypes.{Group}
use Rattle.wasm_context.specs.declared.definitions.Definitions.{Definitions}
use Rattle.wasm_context.specs.Contexts.{without_locals}
use Rattle.wasm_context.specs.Declarations.{at_key, group_places_from, placed_key, closed_from}
use Rattle.wasm_context.specs.ValidTypes.{types_alone}

-- The types are those of these groups, with whether each is final, and each key has the place of the first group with it.
pub record IsDefining (d : Definitions) (groups : List Group) : Type 0 where
  pub context_is : without_locals d.context ≡ types_alone groups
  pub finals_are : d.finals.items ≡ map (λ t. t.final) (flat_map (λ g. g) groups)
  pub closed : closed_from 0 groups ≡ true
  pub places_are : (key : List ℕ) → at_key d.places key ≡ option_map (λ p. p.0) (find (λ p. pointwise nat_eq key (placed_key groups p)) (group_places_from 0 groups))
