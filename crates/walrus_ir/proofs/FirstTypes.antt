-- Function types with the first function type that has their lists, as types are added.
use Rattle.std.proofs.Common.{◌≡◌, ℕ, zero, suc, List, [], ◌∷◌, ◌++◌, length, true, ◌&&◌, cond, Some, None, refl, ap, ◌∙◌, arith}
use Rattle.std.specs.Prelude.{All}
use Rattle.std.specs.Option.{option_or}
use Rattle.std.proofs.lemmas.List.Elements.{All-append, All-weaker}
use Rattle.walrus_ir.specs.declared.module_types.TypeEntry.{TypeEntry}
use Rattle.walrus_ir.specs.declared.module_types.TypeEntry.TheVariants as entries
use Rattle.wasm_types.specs.declared.val_type.ValType.{ValType}
use Rattle.walrus_ir.specs.Types.{ModuleType, Func, same_types, is_function, find}
use Rattle.walrus_ir.specs.TypeEntries.{KnowsFirst}
use Rattle.walrus_ir.proofs.SameTypes.{same_types-Decides}
use Rattle.walrus_ir.proofs.TypeIndex.{position-push}

-- it stays the first with one type more
knows-more : (types : List ModuleType) (t : ModuleType) (e : TypeEntry) → KnowsFirst types e → KnowsFirst (types ++ t ∷ []) e
knows-more types t (entries.Func params results first) known =
    position-push (is_function params.items results.items) types t ∙ ap (λ o. option_or o (cond (is_function params.items results.items t) (Some (length types)) None)) known
knows-more types t (entries.Entry results) known = tt
knows-more types t entries.Other known = tt

all-one : {X : Type 0} (P : X → Type 0) (x : X) → P x → All P (x ∷ [])
all-one P x p zero d less = p
all-one P x p (suc k) d less = absurd (omega arith)

-- one entry more
pub knows-pushed : (types : List ModuleType) (t : ModuleType) (es : List TypeEntry) (e : TypeEntry) → All (KnowsFirst types) es → KnowsFirst (types ++ t ∷ []) e
    → All (KnowsFirst (types ++ t ∷ [])) (es ++ e ∷ [])
knows-pushed types t es e known last =
    All-append (KnowsFirst (types ++ t ∷ [])) es (e ∷ []) (All-weaker (KnowsFirst types) (KnowsFirst (types ++ t ∷ [])) (knows-more types t) es known)
    (all-one (KnowsFirst (types ++ t ∷ [])) e last)

module _ (types : List ModuleType) (params results : List (ValType ℕ)) where
  -- a function type that is there stays the first with its lists
  pub found-again : (first : ℕ) → find types params results ≡ Some first → find (types ++ Func params results ∷ []) params results ≡ Some first
  found-again first there =
      position-push (is_function params results) types (Func params results)
      ∙ ap (λ o. option_or o (cond (is_function params results (Func params results)) (Some (length types)) None)) there

  -- a function type that isn't there is the first with its lists
  pub found-new : find types params results ≡ None → find (types ++ Func params results ∷ []) params results ≡ Some (length types)
  found-new none =
      let same : (same_types params params && same_types results results) ≡ true = ap (λ b. b && same_types results results) ((same_types-Decides params params).1 refl) ∙ (same_types-Decides results results).1 refl in
      position-push (is_function params results) types (Func params results)
      ∙ (ap (λ o. option_or o (cond (is_function params results (Func params results)) (Some (length types)) None)) none ∙ ap (λ b. cond b (Some (length types)) None) same)
