-- The first position that passes a test, and an `Option`, under a map; the pick, where it is a type of the module.
use Rattle.std.proofs.Common.{◌≡◌, ℕ, ◌+◌, ◌<◌, List, [], ◌∷◌, length, Bool, Option, Some, None, cond, map, ◌⊎◌, ⊎_elim, arith, refl, ap, not}
use Rattle.std.specs.Prelude.{position, MatchOption, IsSomeAnd}
use Rattle.std.specs.Option.{option_map}
use Rattle.std.specs.List.{prefix_len}
use Rattle.std.proofs.lemmas.List.{length-map}
use Rattle.wasm_types.specs.declared.val_type.ValType.{ValType}
use Rattle.walrus_ir.specs.declared.val_type.InstrSeqType.TheVariants.{MultiValue}
use Rattle.walrus_ir.specs.Types.{ModuleType, find, existing}

prefix_len-map : {X Y : Type 0} (p : Y → Bool) (f : X → Y) (xs : List X) → prefix_len p (map f xs) ≡ prefix_len (λ x. p (f x)) xs
prefix_len-map p f [] = refl
prefix_len-map p f (x ∷ xs) = ap (λ n. cond (p (f x)) (1 + n) 0) (prefix_len-map p f xs)

pub position-map : {X Y : Type 0} (p : Y → Bool) (f : X → Y) (xs : List X) → position p (map f xs) ≡ position (λ x. p (f x)) xs
position-map p f xs = rw (prefix_len-map (λ y. not (p y)) f xs, length-map) refl

-- the result of `map`
pub option_map_is : {X Y : Type 0} (f : X → Y) (o : Option X) (r : Option Y) → MatchOption o (r ≡ None) (λ x. IsSomeAnd r (λ y. y ≡ f x)) → r ≡ option_map f o
option_map_is f None r h = h
option_map_is f (Some x) None h = absurd h
option_map_is f (Some x) (Some y) h = ap Some h

-- the same, for the identity on numbers
pub same_number : (o r : Option ℕ) → MatchOption o (r ≡ None) (λ x. IsSomeAnd r (λ y. y ≡ x)) → r ≡ o
same_number None r h = option_map_is (λ x. x) None r h
same_number (Some x) r h = option_map_is (λ x. x) (Some x) r h

-- if there are parameters or more than one result, the type is one of the module
pub needs_type : (types : List ModuleType) (parameters results : List (ValType ℕ)) → (0 < length parameters) ⊎ (1 < length results)
    → option_map MultiValue (find types parameters results) ≡ existing types parameters results
needs_type types [] [] h = absurd (⊎_elim (λ n. omega arith) (λ n. omega arith) h)
needs_type types [] (t ∷ []) h = absurd (⊎_elim (λ n. omega arith) (λ n. omega arith) h)
needs_type types [] (t ∷ u ∷ ts) h = refl
needs_type types (p ∷ ps) results h = refl
