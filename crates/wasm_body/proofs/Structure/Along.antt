-- A condition on each operator of a source tree and on what it does to the control flow: it is the same on each of its text.
use Rattle.std.proofs.Common.{◌≡◌, List, [], ◌∷◌, map, refl, ap, ◌∙◌, subst}
use Rattle.std.specs.List.{AllByRecursion}
use Rattle.wasm_body.specs.Control.{Control, Does, Opens, Else, Catch, CatchAll, End, Delegate, If, Try, Marked, with_control, control_of}
use Rattle.wasm_body.specs.SourceTree.{Sequence, Empty, Single, Wrapped, IfThen, IfElse, TryCatch, TryDelegate, Clauses, Ended, Catches, CatchesAll, construct_of, text, clauses_text, Body, body_text, map_sequence, map_clauses}
use Rattle.wasm_body.specs.Translation.{Located}
use Rattle.wasm_body.specs.Naming.{NamedOperation}
use Rattle.wasm_body.specs.TextLaws.{mark_named, IsNamedBody}

abbrev mutual
  pub Each : {A : Type 0} → (A → Control → Type 0) → Sequence A → Type 0
  Each P Empty = Unit {0}
  Each P (Single a action r) = P a (Does action) × Each P r
  Each P (Wrapped a w b e r) = P a (Opens (construct_of w)) × Each P b × P e End × Each P r
  Each P (IfThen a b e r) = P a (Opens If) × Each P b × P e End × Each P r
  Each P (IfElse a b l c e r) = P a (Opens If) × Each P b × P l Else × Each P c × P e End × Each P r
  Each P (TryCatch a b cs r) = P a (Opens Try) × Each P b × EachIn P cs × Each P r
  Each P (TryDelegate a b e n r) = P a (Opens Try) × Each P b × P e (Delegate n) × Each P r

  pub EachIn : {A : Type 0} → (A → Control → Type 0) → Clauses A → Type 0
  EachIn P (Ended e) = P e End
  EachIn P (Catches a t b cs) = P a (Catch t) × Each P b × EachIn P cs
  EachIn P (CatchesAll a b e) = P a CatchAll × Each P b × P e End

abbrev pub AllMarked : {A : Type 0} → (A → Control → Type 0) → List (Marked A) → Type 0
AllMarked P xs = AllByRecursion (λ x. P x.shown x.control) xs

mutual
  pub each_of : {A : Type 0} → (P : A → Control → Type 0) (s : Sequence A) (k : List (Marked A)) → AllMarked P (text s k)
      → Each P s × AllMarked P k
  each_of P Empty k h = (tt, h)
  each_of P (Single a action r) k h = let x = each_of P r k h.1 in ((h.0, x.0), x.1)
  each_of P (Wrapped a w b e r) k h =
      let x = each_of P b (with_control e End ∷ text r k) h.1 in
      let y = each_of P r k x.1.1 in ((h.0, x.0, x.1.0, y.0), y.1)
  each_of P (IfThen a b e r) k h =
      let x = each_of P b (with_control e End ∷ text r k) h.1 in
      let y = each_of P r k x.1.1 in ((h.0, x.0, x.1.0, y.0), y.1)
  each_of P (IfElse a b l c e r) k h =
      let x = each_of P b (with_control l Else ∷ text c (with_control e End ∷ text r k)) h.1 in
      let z = each_of P c (with_control e End ∷ text r k) x.1.1 in
      let y = each_of P r k z.1.1 in ((h.0, x.0, x.1.0, z.0, z.1.0, y.0), y.1)
  each_of P (TryCatch a b cs r) k h =
      let x = each_of P b (clauses_text cs (text r k)) h.1 in
      let z = each_in P cs (text r k) x.1 in
      let y = each_of P r k z.1 in ((h.0, x.0, z.0, y.0), y.1)
  each_of P (TryDelegate a b e n r) k h =
      let x = each_of P b (with_control e (Delegate n) ∷ text r k) h.1 in
      let y = each_of P r k x.1.1 in ((h.0, x.0, x.1.0, y.0), y.1)

  each_in : {A : Type 0} → (P : A → Control → Type 0) (cs : Clauses A) (k : List (Marked A)) → AllMarked P (clauses_text cs k)
      → EachIn P cs × AllMarked P k
  each_in P (Ended e) k h = h
  each_in P (Catches a t b cs) k h =
      let x = each_of P b (clauses_text cs k) h.1 in
      let y = each_in P cs k x.1 in ((h.0, x.0, y.0), y.1)
  each_in P (CatchesAll a b e) k h = let x = each_of P b (with_control e End ∷ k) h.1 in ((h.0, x.0, x.1.0), x.1.1)

mutual
  pub all_of_each : {A : Type 0} → (P : A → Control → Type 0) (s : Sequence A) (k : List (Marked A)) → Each P s → AllMarked P k
      → AllMarked P (text s k)
  all_of_each P Empty k h g = g
  all_of_each P (Single a action r) k h g = (h.0, all_of_each P r k h.1 g)
  all_of_each P (Wrapped a w b e r) k h g = (h.0, all_of_each P b _ h.1 (h.2, all_of_each P r k h.3 g))
  all_of_each P (IfThen a b e r) k h g = (h.0, all_of_each P b _ h.1 (h.2, all_of_each P r k h.3 g))
  all_of_each P (IfElse a b l c e r) k h g = (h.0, all_of_each P b _ h.1 (h.2, all_of_each P c _ h.3 (h.4, all_of_each P r k h.5 g)))
  all_of_each P (TryCatch a b cs r) k h g = (h.0, all_of_each P b _ h.1 (all_of_clauses P cs _ h.2 (all_of_each P r k h.3 g)))
  all_of_each P (TryDelegate a b e n r) k h g = (h.0, all_of_each P b _ h.1 (h.2, all_of_each P r k h.3 g))

  all_of_clauses : {A : Type 0} → (P : A → Control → Type 0) (cs : Clauses A) (k : List (Marked A)) → EachIn P cs → AllMarked P k
      → AllMarked P (clauses_text cs k)
  all_of_clauses P (Ended e) k h g = (h, g)
  all_of_clauses P (Catches a t b cs) k h g = (h.0, all_of_each P b _ h.1 (all_of_clauses P cs k h.2 g))
  all_of_clauses P (CatchesAll a b e) k h g = (h.0, all_of_each P b _ h.1 (h.2, g))

-- ---- consequences at each operator

mutual
  pub weaker : {A : Type 0} → (P Q : A → Control → Type 0) → ((a : A) (c : Control) → P a c → Q a c) → (s : Sequence A) → Each P s → Each Q s
  weaker P Q f Empty h = tt
  weaker P Q f (Single a action r) h = (f a _ h.0, weaker P Q f r h.1)
  weaker P Q f (Wrapped a w b e r) h = (f a _ h.0, weaker P Q f b h.1, f e _ h.2, weaker P Q f r h.3)
  weaker P Q f (IfThen a b e r) h = (f a _ h.0, weaker P Q f b h.1, f e _ h.2, weaker P Q f r h.3)
  weaker P Q f (IfElse a b l c e r) h = (f a _ h.0, weaker P Q f b h.1, f l _ h.2, weaker P Q f c h.3, f e _ h.4, weaker P Q f r h.5)
  weaker P Q f (TryCatch a b cs r) h = (f a _ h.0, weaker P Q f b h.1, weaker_in P Q f cs h.2, weaker P Q f r h.3)
  weaker P Q f (TryDelegate a b e n r) h = (f a _ h.0, weaker P Q f b h.1, f e _ h.2, weaker P Q f r h.3)

  weaker_in : {A : Type 0} → (P Q : A → Control → Type 0) → ((a : A) (c : Control) → P a c → Q a c) → (cs : Clauses A) → EachIn P cs → EachIn Q cs
  weaker_in P Q f (Ended e) h = f e _ h
  weaker_in P Q f (Catches a t b cs) h = (f a _ h.0, weaker P Q f b h.1, weaker_in P Q f cs h.2)
  weaker_in P Q f (CatchesAll a b e) h = (f a _ h.0, weaker P Q f b h.1, f e _ h.2)

-- ---- the same of a tree with other values shown

mutual
  pub each_mapped : {A B : Type 0} → (P : B → Control → Type 0) (g : A → B) (s : Sequence A) → Each (λ a c. P (g a) c) s → Each P (map_sequence g s)
  each_mapped P g Empty h = tt
  each_mapped P g (Single a action r) h = (h.0, each_mapped P g r h.1)
  each_mapped P g (Wrapped a w b e r) h = (h.0, each_mapped P g b h.1, h.2, each_mapped P g r h.3)
  each_mapped P g (IfThen a b e r) h = (h.0, each_mapped P g b h.1, h.2, each_mapped P g r h.3)
  each_mapped P g (IfElse a b l c e r) h = (h.0, each_mapped P g b h.1, h.2, each_mapped P g c h.3, h.4, each_mapped P g r h.5)
  each_mapped P g (TryCatch a b cs r) h = (h.0, each_mapped P g b h.1, each_in_mapped P g cs h.2, each_mapped P g r h.3)
  each_mapped P g (TryDelegate a b e n r) h = (h.0, each_mapped P g b h.1, h.2, each_mapped P g r h.3)

  each_in_mapped : {A B : Type 0} → (P : B → Control → Type 0) (g : A → B) (cs : Clauses A) → EachIn (λ a c. P (g a) c) cs → EachIn P (map_clauses g cs)
  each_in_mapped P g (Ended e) h = h
  each_in_mapped P g (Catches a t b cs) h = (h.0, each_mapped P g b h.1, each_in_mapped P g cs h.2)
  each_in_mapped P g (CatchesAll a b e) h = (h.0, each_mapped P g b h.1, h.2)

-- ---- operators whose control is the one that the tree gives

abbrev pub HasControl : Located NamedOperation → Control → Type 0
HasControl a c = control_of a.op ≡ c

marks_named : (xs : List (Marked (Located NamedOperation))) → AllMarked HasControl xs → map mark_named (map (λ x. x.shown) xs) ≡ xs
marks_named [] h = refl
marks_named (x ∷ xs) h = ap (λ c. with_control x.shown c ∷ map mark_named (map (λ y. y.shown) xs)) h.0 ∙ ap (λ l. x ∷ l) (marks_named xs h.1)

-- a body of such operators is the body of its text
pub is_body : (b : Body (Located NamedOperation)) → Each HasControl b.sequence → HasControl b.close End
    → IsNamedBody (map (λ x. x.shown) (body_text b)) b
is_body b h e = marks_named (body_text b) (all_of_each HasControl b.sequence (with_control b.close End ∷ []) h (e, tt))

has_control : (P : Located NamedOperation → Type 0) (xs : List (Located NamedOperation)) → AllByRecursion P xs
    → AllMarked (λ a c. HasControl a c × P a) (map mark_named xs)
has_control P [] h = tt
has_control P (x ∷ xs) h = ((refl, h.0), has_control P xs h.1)

-- along the tree of a body each operator is such an operator, and fulfils the condition that each operator of the list does
pub along : (P : Located NamedOperation → Type 0) (xs : List (Located NamedOperation)) (b : Body (Located NamedOperation))
    → IsNamedBody xs b → AllByRecursion P xs
    → Each (λ a c. HasControl a c × P a) b.sequence
along P xs b e h =
    (each_of (λ a c. HasControl a c × P a) b.sequence (with_control b.close End ∷ []) (subst (AllMarked (λ a c. HasControl a c × P a)) e (has_control P xs h))).0
