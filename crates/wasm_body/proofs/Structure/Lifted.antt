-- Operators that do the same to the control flow, one by one, as those of a tree form a tree of the same shape.
use Rattle.std.proofs.Common.{◌≡◌, ℕ, List, [], ◌∷◌, map, refl, sym, ap, ◌∙◌}
use Rattle.wasm_body.specs.Control.{Action, Construct, Control, Does, Opens, Else, Catch, CatchAll, End, Delegate, If, Try, Marked, with_control}
use Rattle.wasm_body.specs.SourceTree.{Sequence, Empty, Single, Wrapped, IfThen, IfElse, TryCatch, TryDelegate, Clauses, Ended, Catches, CatchesAll, construct_of, text, clauses_text, Body, body_text}

-- what each operator does to the control flow
abbrev pub controls_of : {A : Type 0} → List (Marked A) → List Control
controls_of xs = map (λ x. x.control) xs

-- the first operator, which does this to the control flow, and the others
record Split {B : Type 0} (c : Control) (cs : List Control) (ys : List (Marked B)) : Type 0 where
  first : B
  others : List (Marked B)
  is : with_control first c ∷ others ≡ ys
  controls : controls_of others ≡ cs

split : {B : Type 0} → (ys : List (Marked B)) (c : Control) (cs : List Control) → controls_of ys ≡ c ∷ cs → Split c cs ys
split [] c cs e = absurd cc
split (y ∷ ys) c cs e =
    let here : y.control ≡ c = cc in
    record { first = y.shown; others = ys; is = ap (λ d. with_control y.shown d ∷ ys) (sym here); controls = cc }

-- a tree whose text is the front of these operators; the rest has these controls
record LiftedTree {B : Type 0} (cs : List Control) (ys : List (Marked B)) : Type 0 where
  tree : Sequence B
  rest : List (Marked B)
  is : text tree rest ≡ ys
  controls : controls_of rest ≡ cs

-- the same of clauses
record LiftedClauses {B : Type 0} (cs : List Control) (ys : List (Marked B)) : Type 0 where
  clauses : Clauses B
  rest : List (Marked B)
  is : clauses_text clauses rest ≡ ys
  controls : controls_of rest ≡ cs

-- ---- an item, from its lifted parts

-- a construct of one sequence, by the tree that it is and its closer
abbrev IsOneSequence : {B : Type 0} → Construct → Control → (B → Sequence B → B → Sequence B → Sequence B) → Type 0
IsOneSequence {B = B} opens closes make =
    (a : B) (b : Sequence B) (e : B) (r : Sequence B) (l : List (Marked B))
    → text (make a b e r) l ≡ with_control a (Opens opens) ∷ text b (with_control e closes ∷ text r l)

module _ {B : Type 0} {ys : List (Marked B)} where
  with_single : (action : Action) {cs ds : List Control} (o : Split (Does action) ds ys) (t : LiftedTree cs o.others) → LiftedTree cs ys
  with_single action o t = record {
    tree = Single o.first action t.tree;
    rest = t.rest;
    is = ap (λ l. with_control o.first (Does action) ∷ l) t.is ∙ o.is;
    controls = t.controls;
  }

  with_one : (opens : Construct) (closes : Control) (make : B → Sequence B → B → Sequence B → Sequence B) → IsOneSequence opens closes make
      → {cs ds es fs : List Control} (o : Split (Opens opens) ds ys) (i : LiftedTree es o.others) (c : Split closes fs i.rest) (t : LiftedTree cs c.others) → LiftedTree cs ys
  with_one opens closes make made o i c t = record {
    tree = make o.first i.tree c.first t.tree;
    rest = t.rest;
    is =
        made o.first i.tree c.first t.tree t.rest
        ∙ (ap (λ l. with_control o.first (Opens opens) ∷ text i.tree (with_control c.first closes ∷ l)) t.is
        ∙ (ap (λ l. with_control o.first (Opens opens) ∷ text i.tree l) c.is ∙ (ap (λ l. with_control o.first (Opens opens) ∷ l) i.is ∙ o.is)));
    controls = t.controls;
  }

  with_two : {cs ds es fs gs hs : List Control} (o : Split (Opens If) ds ys) (i : LiftedTree es o.others) (m : Split Else fs i.rest)
      → (j : LiftedTree gs m.others) (c : Split End hs j.rest) (t : LiftedTree cs c.others) → LiftedTree cs ys
  with_two o i m j c t = record {
    tree = IfElse o.first i.tree m.first j.tree c.first t.tree;
    rest = t.rest;
    is =
        ap (λ x. with_control o.first (Opens If) ∷ text i.tree (with_control m.first Else ∷ text j.tree (with_control c.first End ∷ x))) t.is
        ∙ (ap (λ x. with_control o.first (Opens If) ∷ text i.tree (with_control m.first Else ∷ text j.tree x)) c.is
        ∙ (ap (λ x. with_control o.first (Opens If) ∷ text i.tree (with_control m.first Else ∷ x)) j.is
        ∙ (ap (λ x. with_control o.first (Opens If) ∷ text i.tree x) m.is ∙ (ap (λ x. with_control o.first (Opens If) ∷ x) i.is ∙ o.is))));
    controls = t.controls;
  }

  with_clauses : {cs ds es fs : List Control} (o : Split (Opens Try) ds ys) (i : LiftedTree es o.others) (c : LiftedClauses fs i.rest) (t : LiftedTree cs c.rest) → LiftedTree cs ys
  with_clauses o i c t = record {
    tree = TryCatch o.first i.tree c.clauses t.tree;
    rest = t.rest;
    is =
        ap (λ l. with_control o.first (Opens Try) ∷ text i.tree (clauses_text c.clauses l)) t.is
        ∙ (ap (λ l. with_control o.first (Opens Try) ∷ text i.tree l) c.is ∙ (ap (λ l. with_control o.first (Opens Try) ∷ l) i.is ∙ o.is));
    controls = t.controls;
  }

  with_catch : (tag : ℕ) {cs ds es : List Control} (o : Split (Catch tag) ds ys) (i : LiftedTree es o.others) (c : LiftedClauses cs i.rest) → LiftedClauses cs ys
  with_catch tag o i c = record {
    clauses = Catches o.first tag i.tree c.clauses;
    rest = c.rest;
    is = ap (λ l. with_control o.first (Catch tag) ∷ text i.tree l) c.is ∙ (ap (λ l. with_control o.first (Catch tag) ∷ l) i.is ∙ o.is);
    controls = c.controls;
  }

  with_catch_all : {cs ds es : List Control} (o : Split CatchAll ds ys) (i : LiftedTree es o.others) (c : Split End cs i.rest) → LiftedClauses cs ys
  with_catch_all o i c = record {
    clauses = CatchesAll o.first i.tree c.first;
    rest = c.others;
    is = ap (λ l. with_control o.first CatchAll ∷ text i.tree l) c.is ∙ (ap (λ l. with_control o.first CatchAll ∷ l) i.is ∙ o.is);
    controls = c.controls;
  }

-- ---- a tree

mutual
  lifted : {A B : Type 0} → (s : Sequence A) (k : List (Marked A)) (ys : List (Marked B)) → controls_of ys ≡ controls_of (text s k)
      → LiftedTree (controls_of k) ys
  lifted Empty k ys e = record { tree = Empty; rest = ys; is = refl; controls = e }
  lifted (Single a action r) k ys h =
      let o = split ys (Does action) _ h in
      with_single action o (lifted r k o.others o.controls)
  lifted (Wrapped a w b e r) k ys h =
      let o = split ys (Opens (construct_of w)) _ h in
      let i = lifted b (with_control e End ∷ text r k) o.others o.controls in
      let c = split i.rest End _ i.controls in
      with_one (construct_of w) End (λ x t y. Wrapped x w t y) (λ x t y r l. refl) o i c (lifted r k c.others c.controls)
  lifted (IfThen a b e r) k ys h =
      let o = split ys (Opens If) _ h in
      let i = lifted b (with_control e End ∷ text r k) o.others o.controls in
      let c = split i.rest End _ i.controls in
      with_one If End IfThen (λ x t y r l. refl) o i c (lifted r k c.others c.controls)
  lifted (IfElse a b l c e r) k ys h =
      let o = split ys (Opens If) _ h in
      let i = lifted b (with_control l Else ∷ text c (with_control e End ∷ text r k)) o.others o.controls in
      let m = split i.rest Else _ i.controls in
      let j = lifted c (with_control e End ∷ text r k) m.others m.controls in
      let d = split j.rest End _ j.controls in
      with_two o i m j d (lifted r k d.others d.controls)
  lifted (TryCatch a b cs r) k ys h =
      let o = split ys (Opens Try) _ h in
      let i = lifted b (clauses_text cs (text r k)) o.others o.controls in
      let c = lifted_clauses cs (text r k) i.rest i.controls in
      with_clauses o i c (lifted r k c.rest c.controls)
  lifted (TryDelegate a b e n r) k ys h =
      let o = split ys (Opens Try) _ h in
      let i = lifted b (with_control e (Delegate n) ∷ text r k) o.others o.controls in
      let c = split i.rest (Delegate n) _ i.controls in
      with_one Try (Delegate n) (λ x t y r. TryDelegate x t y n r) (λ x t y r l. refl) o i c (lifted r k c.others c.controls)

  lifted_clauses : {A B : Type 0} → (cs : Clauses A) (k : List (Marked A)) (ys : List (Marked B)) → controls_of ys ≡ controls_of (clauses_text cs k)
      → LiftedClauses (controls_of k) ys
  lifted_clauses (Ended e) k ys h =
      let o = split ys End _ h in record { clauses = Ended o.first; rest = o.others; is = o.is; controls = o.controls }
  lifted_clauses (Catches a t b cs) k ys h =
      let o = split ys (Catch t) _ h in
      let i = lifted b (clauses_text cs k) o.others o.controls in
      with_catch t o i (lifted_clauses cs k i.rest i.controls)
  lifted_clauses (CatchesAll a b e) k ys h =
      let o = split ys CatchAll _ h in
      let i = lifted b (with_control e End ∷ k) o.others o.controls in
      with_catch_all o i (split i.rest End _ i.controls)

none_left : {B : Type 0} → (ys : List (Marked B)) → controls_of ys ≡ [] → ys ≡ []
none_left [] e = refl
none_left (y ∷ ys) e = absurd cc

-- Operators that have the same controls as those of a body form a body.
pub lifted_body : {A B : Type 0} → (b : Body A) (ys : List (Marked B)) → controls_of ys ≡ controls_of (body_text b)
    → (c : Body B) × (body_text c ≡ ys)
lifted_body b ys e =
    let t = lifted b.sequence (with_control b.close End ∷ []) ys e in
    let last = split t.rest End [] t.controls in (
      record { sequence = t.tree; close = last.first },
      ap (λ l. text t.tree (with_control last.first End ∷ l)) (sym (none_left last.others last.controls)) ∙ (ap (text t.tree) last.is ∙ t.is),
    )
