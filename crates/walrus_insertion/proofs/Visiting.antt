-- Sequences that are visited one after the other.
use Rattle.std.proofs.Common.{◌≡◌, ℕ, ◌+◌, ◌<◌, ◌≤◌, List, [], ◌∷◌, ◌++◌, length, get_or, set, take, drop, refl, sym, ap, ◌∙◌, append_assoc, arith}
use Rattle.std.proofs.lemmas.List.{length-set, append-nil, take_all, take_more_set, drop_all, drop_more, drop-set-lt}
use Rattle.walrus_facts.specs.Mapping.{EachChanges}

module _ {F X : Type 0} (changes : F → X → X → F → Type 0) where
  -- The items before `index` were visited: those from it on are as they were, and whatever becomes of them completes the list.
  abbrev pub VisitedBelow : F → List X → F → List X → ℕ → Type 0
  VisitedBelow first old f now index =
      (length now ≡ length old)
      × (drop index now ≡ drop index old)
      × ((later : List X) (last : F) → EachChanges changes f (drop index old) later last → EachChanges changes first old (take index now ++ later) last)

  pub none_visited : (first : F) (old : List X) → VisitedBelow first old first old 0
  none_visited first old = (refl, refl, λ later last h. h)

  pub one_visited : (first : F) (old now : List X) (f g : F) (index : ℕ) (d y : X) → index < length now → changes f (get_or now index d) y g
      → VisitedBelow first old f now index → VisitedBelow first old g (set now index y) (index + 1)
  one_visited first old now f g index d y within changed kept =
      let x = get_or now index d in
      let head : drop index now ≡ x ∷ drop (index + 1) now = drop_more now index d within in
      let other = drop_more old index d (omega (arith, kept.0)) in
      let both = sym head ∙ kept.1 ∙ other in
      let tails : drop (index + 1) now ≡ drop (index + 1) old = cc in
      let rest : drop index old ≡ x ∷ drop (index + 1) old = sym kept.1 ∙ head ∙ ap (λ xs. x ∷ xs) tails in (
        length-set now index y ∙ kept.0,
        drop-set-lt (index + 1) now index y (omega arith) ∙ tails,
        λ later last more. rw (take_more_set now index y within, append_assoc) (kept.2 (y ∷ later) last (rw rest (y, g, changed, later, refl, more))),
      )

  pub all_visited : (first : F) (old now : List X) (f : F) (index : ℕ) → length old ≤ index → VisitedBelow first old f now index → EachChanges changes first old now f
  all_visited first old now f index past kept =
      let whole : take index now ++ [] ≡ now = append-nil _ ∙ take_all index now (omega (arith, kept.0)) in
      rw whole at (kept.2 [] f (rw (drop_all index old past) (refl, refl)))
