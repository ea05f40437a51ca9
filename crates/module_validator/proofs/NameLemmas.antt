-- The names of exports in a map, and one more.
use Rattle.std.proofs.Common.{◌≡◌, ℕ, List, [], ◌∷◌, Bool, true, false, not, ◌||◌, cond, Option, Some, None, refl, sym, ap, ◌∙◌}
use Rattle.std.specs.Prelude.{bytes_eq, is_some}
use Rattle.std.specs.BTreeMap.{get_by, IsEmpty, is_at}
use Rattle.std.specs.Map.{lookup}
use Rattle.std.specs.Cmp.Lexicographic.{slice_cmp}
use Rattle.std.specs.Ordering.{nat_cmp}
use Rattle.std.proofs.lemmas.Slice.Eq.{bytes_eq-Decides}
use Rattle.module_validator.specs.Checks.{NameMap, has_export_name, HasExportNames}
use Rattle.module_validator.specs.ModuleRules.{is_name_among}

abbrev pub found : NameMap → List ℕ → Option (Unit {0})
found m name = get_by (λ k. slice_cmp nat_cmp name k.now) m

flipped : (a b : List ℕ) → bytes_eq a b ≡ bytes_eq b a
flipped a b = by (bytes_eq a b) (bytes_eq b a) refl refl
  where
    by : (x y : Bool) → bytes_eq a b ≡ x → bytes_eq b a ≡ y → bytes_eq a b ≡ bytes_eq b a
    by true y e f = e ∙ sym ((bytes_eq-Decides b a).1 (sym ((bytes_eq-Decides a b).0 e)))
    by false true e f = (bytes_eq-Decides a b).1 (sym ((bytes_eq-Decides b a).0 f)) ∙ sym f
    by false false e f = e ∙ sym f

some_if : (b : Bool) (o : Option (Unit {0})) → is_some (cond b (Some (tt {0})) o) ≡ (b || is_some o)
some_if true o = refl
some_if false o = refl

pub one_more_name : (old new : NameMap) (name : List ℕ) → ((other : List ℕ) → found new other ≡ cond (bytes_eq name other) (Some tt) (found old other)) →
    (all : List (List ℕ)) → HasExportNames old all → HasExportNames new (name ∷ all)
one_more_name old new name more all has other =
    ap is_some (more other) ∙ some_if (bytes_eq name other) (found old other) ∙ ap (λ (b : Bool). b || has_export_name old other) (flipped name other)
    ∙ ap (λ (b : Bool). bytes_eq other name || b) (has other)

pub is_new_name : (old : NameMap) (name : List ℕ) (before : Option (Unit {0})) (is_new : Bool) → before ≡ found old name → is_new ≡ not (is_some before) →
    (all : List (List ℕ)) → HasExportNames old all → not (is_name_among all name) ≡ is_new
is_new_name old name before is_new e n all has = ap not (sym (has name)) ∙ ap (λ (o : Option (Unit {0})). not (is_some o)) (sym e) ∙ sym n

pub none_not_some : (o : Option (Unit {0})) (b : Bool) → (o ≡ None → b ≡ true) → ((u : Unit {0}) → o ≡ Some u → b ≡ false) → b ≡ not (is_some o)
none_not_some None b n s = n refl
none_not_some (Some u) b n s = s u refl

-- a map without entries
pub none_found : (m : NameMap) → IsEmpty m → HasExportNames m []
none_found m none name = ap (λ es. is_some (lookup (is_at (λ k. slice_cmp nat_cmp name k.now)) es)) none
