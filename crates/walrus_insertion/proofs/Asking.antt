-- A sequence whose places are asked for one after the other.
use Rattle.std.proofs.Common.{◌≡◌, ℕ, ◌+◌, ◌<◌, ◌≤◌, List, [], ◌∷◌, ◌++◌, Bool, true, false, map, length, drop, get_or, refl, sym, ap, ◌∙◌, append_assoc, subst, arith}
use Rattle.std.proofs.lemmas.List.{append-nil, drop_all, drop_more}
use Rattle.walrus_ir.specs.Unfolding.{LocatedInstr}
use Rattle.walrus_insertion.specs.declared.plain_instr.PlainInstr.{PlainInstr}
use Rattle.walrus_insertion.specs.declared.probe.Edit.{Edit}
use Rattle.walrus_insertion.specs.declared.probe.Edit.TheVariants.{Keep, Insert}
use Rattle.walrus_insertion.specs.Edits.{added, edited}
use Rattle.walrus_insertion.specs.InsertedInstructions.{ends_code, InsertedFrom, at_end, before_last, before_next}
use Rattle.walrus_insertion.proofs.Editing.{edited_inserts, edited_alone}

module _ {F : Type 0} (gives : F → ℕ → List PlainInstr → F → Type 0) where
  -- The places before `index` were asked for: whatever steps are said for those from it on complete the sequence.
  abbrev pub SaidBelow : F → List LocatedInstr → F → List Edit → ℕ → Type 0
  SaidBelow first all f said index =
      (later : List Edit) (last : F) → InsertedFrom gives f index (drop index all) (edited later (drop index all)) last
      → InsertedFrom gives first 0 all (edited (said ++ later) all) last

  pub none_said : (first : F) (all : List LocatedInstr) → SaidBelow first all first [] 0
  none_said first all later last h = h

  -- one more place, before an instruction after which there are others
  pub one_said : (first : F) (all : List LocatedInstr) (f g : F) (said : List Edit) (index : ℕ) (ps : List PlainInstr) (d : LocatedInstr) → index < length all
      → gives f index ps g → ends_code (get_or all index d) ≡ false → SaidBelow first all f said index
      → SaidBelow first all g (said ++ map Insert ps ++ Keep ∷ []) (index + 1)
  one_said first all f g said index ps d within given goes kept later last h =
      let x = get_or all index d in
      let xs = drop (index + 1) all in
      let whole : drop index all ≡ x ∷ xs = drop_more all index d within in
      let more : InsertedFrom gives f index (x ∷ xs) (edited (map Insert ps ++ Keep ∷ later) (x ∷ xs)) last =
      subst (λ ys. InsertedFrom gives f index (x ∷ xs) ys last) (sym (edited_inserts ps (Keep ∷ later) (x ∷ xs))) (before_next ps goes given h) in
      let all_of = kept (map Insert ps ++ Keep ∷ later) last (subst (λ l. InsertedFrom gives f index l (edited (map Insert ps ++ Keep ∷ later) l) last) (sym whole) more) in
      subst (λ es. InsertedFrom gives first 0 all (edited es all) last) (regrouped said (map Insert ps) later) all_of
    where
      regrouped : (ks ls ms : List Edit) → ks ++ (ls ++ Keep ∷ ms) ≡ (ks ++ ls ++ Keep ∷ []) ++ ms
      regrouped ks ls ms = sym (append_assoc (ks ++ ls) (Keep ∷ []) ms ∙ append_assoc ks ls (Keep ∷ ms))

  -- the last place, before an instruction that never goes on
  pub last_said : (first : F) (all : List LocatedInstr) (f g : F) (said : List Edit) (index : ℕ) (ps : List PlainInstr) (d : LocatedInstr) → index < length all
      → gives f index ps g → ends_code (get_or all index d) ≡ true → SaidBelow first all f said index
      → InsertedFrom gives first 0 all (edited (said ++ map Insert ps ++ Keep ∷ []) all) g
  last_said first all f g said index ps d within given never kept =
      let x = get_or all index d in
      let xs = drop (index + 1) all in
      let whole : drop index all ≡ x ∷ xs = drop_more all index d within in
      let more : InsertedFrom gives f index (x ∷ xs) (edited (map Insert ps ++ Keep ∷ []) (x ∷ xs)) g =
      subst (λ ys. InsertedFrom gives f index (x ∷ xs) ys g) (sym (edited_inserts ps (Keep ∷ []) (x ∷ xs))) (before_last ps never given) in
      let all_of = kept (map Insert ps ++ Keep ∷ []) g (subst (λ l. InsertedFrom gives f index l (edited (map Insert ps ++ Keep ∷ []) l) g) (sym whole) more) in
      subst (λ es. InsertedFrom gives first 0 all (edited es all) g) (sym (append_assoc said (map Insert ps) (Keep ∷ []))) all_of

  -- the end
  pub end_said : (first : F) (all : List LocatedInstr) (f g : F) (said : List Edit) (index : ℕ) (ps : List PlainInstr) → length all ≤ index
      → gives f (length all) ps g → index ≤ length all → SaidBelow first all f said index
      → InsertedFrom gives first 0 all (edited (said ++ map Insert ps) all) g
  end_said first all f g said index ps past given at kept =
      let same : length all ≡ index = omega (arith, past, at) in
      let none : drop index all ≡ [] = drop_all index all past in
      let more : InsertedFrom gives f index [] (edited (map Insert ps) []) g =
      subst (λ ys. InsertedFrom gives f index [] ys g) (sym (edited_alone ps)) (at_end ps (subst (λ n. gives f n ps g) same given)) in
      kept (map Insert ps) g (subst (λ l. InsertedFrom gives f index l (edited (map Insert ps) l) g) (sym none) more)
