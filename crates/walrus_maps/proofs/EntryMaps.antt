-- A hash map from ids, as the finite map of its entries.
use Rattle.std.proofs.Common.{◌≡◌, ℕ, ◌+◌, List, [], ◌∷◌, length, Bool, true, false, ◌&&◌, cond, Option, Some, None, is_some, nat_eq, refl, sym, ap, ◌∙◌, arith}
use Rattle.std.specs.List.{IsDistinct, AllByRecursion}
use Rattle.std.specs.Map.{lookup, keys_of}
use Rattle.std.specs.Ordering.{nat_cmp, eq_by_cmp}
use Rattle.std.specs.Cmp.{nat_cmp_total, unsigned_tied, nat_eq_equiv}
use Rattle.std.specs.FinMap.{FinMap, get, insert, len, from_entries, find, get-from_entries, get-insert, len-insert, len-empty, same_map, nat_cmp-IsAntisymmetric}
use Rattle.std.proofs.lemmas.Bool.{eqb-true}
use Rattle.std.proofs.lemmas.Map.{lookup-none}
use Rattle.std.proofs.lemmas.Map.Keys.{IsDistinct-head, IsDistinct-tail}

-- the equality of ids: by number, and by kind, of which there is only one
abbrev pub same_id : ℕ → ℕ → Bool
same_id a b = nat_eq a b && true

-- the kind never decides
and_true : (b : Bool) → (b && true) ≡ b
and_true true = refl
and_true false = refl

-- ids are the same if the order doesn't distinguish them
tied : (a b : ℕ) → eq_by_cmp nat_cmp a b ≡ same_id a b
tied a b = unsigned_tied a b ∙ sym (and_true (nat_eq a b))

-- the test is symmetric
flipped : (a b : ℕ) → same_id a b ≡ same_id b a
flipped a b = ap (λ t. t && true) (nat_eq_equiv.symm a b)

module _ {X : Type 0} where
  -- the first entry of an id, found by the order or by `==`
  find-lookup : (es : List (ℕ × X)) (q : ℕ) → find nat_cmp q es ≡ lookup (same_id q) es
  find-lookup [] q = refl
  find-lookup (e ∷ es) q = λ i. cond (tied q e.0 i) (Some e.1) (find-lookup es q i)

  -- the finite map has the same value at an id as the hash map
  pub get-entries : (es : List (ℕ × X)) (q : ℕ) → get (from_entries {R = nat_cmp} es) q ≡ lookup (same_id q) es
  get-entries es q = get-from_entries nat_cmp_total es q ∙ find-lookup es q

  -- an id that no entry has
  none_of : (o : Option X) → is_some o ≡ false → o ≡ None
  none_of None h = refl
  none_of (Some x) h = absurd cc

  pub absent : (es : List (ℕ × X)) (q : ℕ) → is_some (lookup (same_id q) es) ≡ false → get (from_entries {R = nat_cmp} es) q ≡ None
  absent es q h = get-entries es q ∙ none_of (lookup (same_id q) es) h

  -- the maps of entries that differ only at one id differ only there
  pub one_put : (es fs : List (ℕ × X)) (k : ℕ) (v : X) → ((q : ℕ) → lookup (same_id q) fs ≡ cond (same_id k q) (Some v) (lookup (same_id q) es)) → from_entries {R = nat_cmp} fs ≡ insert (from_entries es) k v
  one_put es fs k v h = same_map nat_cmp_total nat_cmp-IsAntisymmetric _ _ (λ q.
      get-entries fs q ∙ h q
      ∙ (λ i. cond ((flipped k q ∙ sym (tied q k)) i) (Some v) (sym (get-entries es q) i))
      ∙ sym (get-insert nat_cmp_total (from_entries es) k v q))

  -- an entry that is inserted again
  kept : (b : Bool) (o : Option X) (v : X) → (b ≡ true → o ≡ Some v) → cond b (Some v) o ≡ o
  kept true o v h = sym (h refl)
  kept false o v h = refl

  -- inserting the value that a map has at a key changes nothing
  pub insert-same : (m : FinMap nat_cmp X) (k : ℕ) (v : X) → get m k ≡ Some v → insert m k v ≡ m
  insert-same m k v has = same_map nat_cmp_total nat_cmp-IsAntisymmetric _ _ (λ q.
      get-insert nat_cmp_total m k v q
      ∙ kept (eq_by_cmp nat_cmp q k) (get m q) v (λ e. ap (get m) (eqb-true q k (sym (unsigned_tied q k) ∙ e)) ∙ has))

  -- a property of each key is a property of the key of each entry
  all_keys : (P : ℕ → Type 0) (es : List (ℕ × X)) → AllByRecursion P (keys_of es) → AllByRecursion (λ e. P e.0) es
  all_keys P [] h = tt
  all_keys P (e ∷ es) h = (h.0, all_keys P es h.1)

  -- the number of entries is the number of distinct ids
  pub len-entries : (es : List (ℕ × X)) → IsDistinct same_id (keys_of es) → len (from_entries {R = nat_cmp} es) ≡ length es
  len-entries [] d = len-empty nat_cmp X
  len-entries (e ∷ es) d =
      let apart = all_keys (λ y. same_id e.0 y ≡ false) es (IsDistinct-head same_id e.0 (keys_of es) d) in
      let new : get (from_entries {R = nat_cmp} es) e.0 ≡ None = get-entries es e.0 ∙ lookup-none (same_id e.0) es apart in
      len-insert nat_cmp_total (from_entries es) e.0 e.1
      ∙ ap (λ (o : Option X). cond (is_some o) (len (from_entries {R = nat_cmp} es)) (len (from_entries {R = nat_cmp} es) + 1)) new
      ∙ omega (arith, len-entries es (IsDistinct-tail same_id e.0 (keys_of es) d))
