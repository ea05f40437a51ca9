-- Places in a map by the keys of groups.
use Rattle.std.proofs.Common.{◌≡◌, ℕ, List, [], ◌∷◌, Bool, true, false, cond, Option, Some, None, refl, sym, ap, ◌∙◌}
use Rattle.std.specs.Prelude.{nat_eq}
use Rattle.std.specs.Option.{option_or}
use Rattle.std.specs.Ordering.{is_eq, match_ordering, nat_cmp}
use Rattle.std.specs.declared.cmp.Ordering.{Ordering}
use Rattle.std.specs.declared.cmp.Ordering.TheVariants.{Less, Equal, Greater}
use Rattle.std.specs.declared.vec.Vec.{Vec}
use Rattle.std.specs.Cmp.Lexicographic.{pointwise, slice_cmp}
use Rattle.std.specs.Map.{lookup}
use Rattle.std.specs.BTreeMap.{insert_entry, is_at}
use Rattle.std.proofs.lemmas.Map.Text.{is_eq-slice_cmp}
use Rattle.std.proofs.lemmas.Slice.Eq.{bytes_eq-Decides}
use Rattle.wasm_context.specs.Declarations.{ByKey, at_key, listed_keys, TakesPlace}

abbrev same : List ℕ → List ℕ → Bool
same = pointwise nat_eq

same_flipped : (j k : List ℕ) → same j k ≡ same k j
same_flipped j k = by (same j k) (same k j) refl refl
  where
    by : (a b : Bool) → same j k ≡ a → same k j ≡ b → same j k ≡ same k j
    by true b e f = e ∙ sym ((bytes_eq-Decides k j).1 (sym ((bytes_eq-Decides j k).0 e)))
    by false true e f = (bytes_eq-Decides j k).1 (sym ((bytes_eq-Decides k j).0 f)) ∙ sym f
    by false false e f = e ∙ sym f

twice : {A : Type 0} (b : Bool) (x y o : A) → cond b x (cond b y o) ≡ cond b x o
twice true x y o = refl
twice false x y o = refl

turned : {A : Type 0} (b d : Bool) (x y o : A) → (b ≡ true → d ≡ false) → cond d y (cond b x o) ≡ cond b x (cond d y o)
turned true d x y o h = ap (λ e. cond e y x) (h refl)
turned false d x y o h = refl

module _ {Z : Type 0} where
  -- a lookup in the map finds the place of the key
  pub lookup-at_key : (key : List ℕ) (es : List (Vec ℕ Z × ℕ)) → lookup (is_at (λ k. slice_cmp nat_cmp key k.items)) es ≡ at_key (listed_keys es) key
  lookup-at_key key [] = refl
  lookup-at_key key (e ∷ es) = λ i. cond (is_eq-slice_cmp key e.0.items i) (Some e.1) (lookup-at_key key es i)

  -- the first entry gets the place if its key is the one; otherwise one of the entries after it does
  first_entry : (key other : List ℕ) (e : Vec ℕ Z × ℕ) (es rest : List (Vec ℕ Z × ℕ)) (place : ℕ) (b : Bool) → same key e.0.items ≡ b
      → (b ≡ false → at_key (listed_keys rest) other ≡ cond (same other key) (Some place) (at_key (listed_keys es) other))
      → at_key (listed_keys (cond b ((e.0, place) ∷ es) (e ∷ rest))) other ≡ cond (same other key) (Some place) (at_key (listed_keys (e ∷ es)) other)
  first_entry key other e es rest place true here after =
      let both : same other key ≡ same other e.0.items = ap (same other) ((bytes_eq-Decides key e.0.items).0 here) in
      sym (ap (λ s. cond s (Some place) (at_key (listed_keys (e ∷ es)) other)) both ∙ twice (same other e.0.items) (Some place) (Some e.1) (at_key (listed_keys es) other))
  first_entry key other e es rest place false here after =
      ap (λ o. cond (same other e.0.items) (Some e.1) o) (after refl)
      ∙ turned (same other key) (same other e.0.items) (Some place) (Some e.1) (at_key (listed_keys es) other)
      (λ is. ap (λ k. same k e.0.items) ((bytes_eq-Decides other key).0 is) ∙ here)

  insert_first : (r : Ordering) (k : Vec ℕ Z) (v : ℕ) (e : Vec ℕ Z × ℕ) (es rest : List (Vec ℕ Z × ℕ)) (other : List ℕ)
      → is_eq r ≡ same k.items e.0.items → at_key (listed_keys rest) other ≡ cond (same other k.items) (Some v) (at_key (listed_keys es) other)
      → at_key (listed_keys (match_ordering r ((k, v) ∷ e ∷ es) ((e.0, v) ∷ es) (e ∷ rest))) other ≡ cond (same other k.items) (Some v) (at_key (listed_keys (e ∷ es)) other)
  insert_first Less k v e es rest other tie after = refl
  insert_first Equal k v e es rest other tie after = first_entry k.items other e es rest v true (sym tie) (λ no. absurd cc)
  insert_first Greater k v e es rest other tie after = first_entry k.items other e es rest v false (sym tie) (λ no. after)

  -- an entry that is inserted
  pub at_key-insert : (k : Vec ℕ Z) (v : ℕ) (es : List (Vec ℕ Z × ℕ)) (other : List ℕ)
      → at_key (listed_keys (insert_entry (λ x y. slice_cmp nat_cmp x.items y.items) es k v)) other ≡ cond (same other k.items) (Some v) (at_key (listed_keys es) other)
  at_key-insert k v [] other = refl
  at_key-insert k v (e ∷ es) other =
      insert_first (slice_cmp nat_cmp k.items e.0.items) k v e es (insert_entry (λ x y. slice_cmp nat_cmp x.items y.items) es k v) other
      (is_eq-slice_cmp k.items e.0.items) (at_key-insert k v es other)

-- a key that has a place keeps it
kept : (b : Bool) (o : Option ℕ) (x next : ℕ) → (b ≡ true → o ≡ Some x) → o ≡ option_or o (cond b (Some next) None)
kept true None x next h = let no = h refl in absurd cc
kept true (Some y) x next h = refl
kept false None x next h = refl
kept false (Some y) x next h = refl

pub takes-kept : (m : ByKey) (key : List ℕ) (x next : ℕ) → at_key m key ≡ Some x → TakesPlace key next m m
takes-kept m key x next there other = kept (same other key) (at_key m other) x next (λ is. ap (at_key m) ((bytes_eq-Decides other key).0 is) ∙ there)

-- a key that has none gets it
put : (b : Bool) (o : Option ℕ) (next : ℕ) → (b ≡ true → o ≡ None) → cond b (Some next) o ≡ option_or o (cond b (Some next) None)
put true None next h = refl
put true (Some y) next h = let no = h refl in absurd cc
put false None next h = refl
put false (Some y) next h = refl

pub takes-put : (m n : ByKey) (key : List ℕ) (next : ℕ) → at_key m key ≡ None
    → ((other : List ℕ) → at_key n other ≡ cond (same other key) (Some next) (at_key m other)) → TakesPlace key next m n
takes-put m n key next missing more other =
    more other ∙ put (same other key) (at_key m other) next (λ is. ap (at_key m) ((bytes_eq-Decides other key).0 is) ∙ missing)
