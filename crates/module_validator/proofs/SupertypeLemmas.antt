-- Supertypes, one after the other.
use Rattle.std.proofs.Common.{◌≡◌, ℕ, zero, suc, ◌+◌, ◌-◌, ◌<◌, ◌≤◌, List, Bool, true, false, Option, Some, None, refl, ap, ◌∙◌, arith}
use Rattle.std.specs.Prelude.{option_map, unwrap_or}
use Rattle.wasm_typing.specs.Contexts.{DefinedType}
use Rattle.module_validator.specs.EngineLimits.{supertype_in, has_fewer}

abbrev above : (count : ℕ) → List DefinedType → Option DefinedType → Bool
above count types found = unwrap_or (option_map (λ t. has_fewer count types t.supertype) found) true

none_left : (types : List DefinedType) (declared : Option ℕ) → has_fewer zero types declared ≡ false
unfolding has_fewer
none_left types declared = refl

unfolded : (count : ℕ) (types : List DefinedType) (declared : Option ℕ) → has_fewer (suc count) types declared ≡ above count types (supertype_in types declared)
unfolding has_fewer
unfolded count types declared = refl

next_is : (most i : ℕ) (types : List DefinedType) (declared : Option ℕ) (found : Option DefinedType) → i < most → supertype_in types declared ≡ found →
    has_fewer (most - i) types declared ≡ above (most - (i + 1)) types found
next_is most i types declared found less e =
    let left : most - i ≡ suc (most - (i + 1)) = omega arith in
    ap (λ (n : ℕ). has_fewer n types declared) left ∙ unfolded (most - (i + 1)) types declared ∙ ap (λ (o : Option DefinedType). above (most - (i + 1)) types o) e

pub one_above : (most i : ℕ) (types : List DefinedType) (declared : Option ℕ) (t : DefinedType) → i < most → supertype_in types declared ≡ Some t →
    has_fewer (most - i) types declared ≡ has_fewer (most - (i + 1)) types t.supertype
one_above most i types declared t less e = next_is most i types declared (Some t) less e

pub none_above : (most i : ℕ) (types : List DefinedType) (declared : Option ℕ) → i < most → supertype_in types declared ≡ None → has_fewer (most - i) types declared ≡ true
none_above most i types declared less e = next_is most i types declared None less e

pub all_above : (most i : ℕ) (types : List DefinedType) (declared : Option ℕ) → most ≤ i → has_fewer (most - i) types declared ≡ false
all_above most i types declared enough =
    let left : most - i ≡ zero = omega arith in
    ap (λ (n : ℕ). has_fewer n types declared) left ∙ none_left types declared
