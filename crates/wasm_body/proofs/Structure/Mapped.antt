-- The text of a tree with other values shown is its text with these values shown.
use Rattle.std.proofs.Common.{◌≡◌, List, [], ◌∷◌, map, refl, sym, ap, ◌∙◌}
use Rattle.wasm_body.specs.Control.{Does, Opens, Else, Catch, CatchAll, End, Delegate, If, Try, Marked, with_control}
use Rattle.wasm_body.specs.SourceTree.{Sequence, Empty, Single, Wrapped, IfThen, IfElse, TryCatch, TryDelegate, Clauses, Ended, Catches, CatchesAll, construct_of, text, clauses_text, Body, map_sequence, map_clauses}
use Rattle.wasm_body.specs.Naming.{Occurrence}
use Rattle.wasm_body.specs.Parsing.Accepted.{mark, IsBody}
use Rattle.wasm_body.specs.NormalForm.{name_at, named_body}
use Rattle.wasm_body.specs.TextLaws.{mark_named, IsNamedBody}

abbrev pub map_mark : {A B : Type 0} → (A → B) → Marked A → Marked B
map_mark f x = with_control (f x.shown) x.control

mutual
  pub text_mapped : {A B : Type 0} → (g : A → B) (s : Sequence A) (k : List (Marked A))
      → text (map_sequence g s) (map (map_mark g) k) ≡ map (map_mark g) (text s k)
  text_mapped g Empty k = refl
  text_mapped g (Single a action r) k = ap (λ l. with_control (g a) (Does action) ∷ l) (text_mapped g r k)
  text_mapped g (Wrapped a w b e r) k =
      ap (λ l. with_control (g a) (Opens (construct_of w)) ∷ text (map_sequence g b) (with_control (g e) End ∷ l)) (text_mapped g r k)
      ∙ ap (λ l. with_control (g a) (Opens (construct_of w)) ∷ l) (text_mapped g b (with_control e End ∷ text r k))
  text_mapped g (IfThen a b e r) k =
      ap (λ l. with_control (g a) (Opens If) ∷ text (map_sequence g b) (with_control (g e) End ∷ l)) (text_mapped g r k)
      ∙ ap (λ l. with_control (g a) (Opens If) ∷ l) (text_mapped g b (with_control e End ∷ text r k))
  text_mapped g (IfElse a b l c e r) k =
      ap (λ x. with_control (g a) (Opens If) ∷ text (map_sequence g b) (with_control (g l) Else ∷ text (map_sequence g c) (with_control (g e) End ∷ x))) (text_mapped g r k)
      ∙ (ap (λ x. with_control (g a) (Opens If) ∷ text (map_sequence g b) (with_control (g l) Else ∷ x)) (text_mapped g c (with_control e End ∷ text r k))
      ∙ ap (λ x. with_control (g a) (Opens If) ∷ x) (text_mapped g b (with_control l Else ∷ text c (with_control e End ∷ text r k))))
  text_mapped g (TryCatch a b cs r) k =
      ap (λ l. with_control (g a) (Opens Try) ∷ text (map_sequence g b) (clauses_text (map_clauses g cs) l)) (text_mapped g r k)
      ∙ (ap (λ l. with_control (g a) (Opens Try) ∷ text (map_sequence g b) l) (clauses_mapped g cs (text r k))
      ∙ ap (λ l. with_control (g a) (Opens Try) ∷ l) (text_mapped g b (clauses_text cs (text r k))))
  text_mapped g (TryDelegate a b e n r) k =
      ap (λ l. with_control (g a) (Opens Try) ∷ text (map_sequence g b) (with_control (g e) (Delegate n) ∷ l)) (text_mapped g r k)
      ∙ ap (λ l. with_control (g a) (Opens Try) ∷ l) (text_mapped g b (with_control e (Delegate n) ∷ text r k))

  clauses_mapped : {A B : Type 0} → (g : A → B) (cs : Clauses A) (k : List (Marked A))
      → clauses_text (map_clauses g cs) (map (map_mark g) k) ≡ map (map_mark g) (clauses_text cs k)
  clauses_mapped g (Ended e) k = refl
  clauses_mapped g (Catches a t b cs) k =
      ap (λ l. with_control (g a) (Catch t) ∷ text (map_sequence g b) l) (clauses_mapped g cs k)
      ∙ ap (λ l. with_control (g a) (Catch t) ∷ l) (text_mapped g b (clauses_text cs k))
  clauses_mapped g (CatchesAll a b e) k = ap (λ l. with_control (g a) CatchAll ∷ l) (text_mapped g b (with_control e End ∷ k))

marks_named : (xs : List Occurrence) → map mark_named (map name_at xs) ≡ map (map_mark name_at) (map mark xs)
marks_named [] = refl
marks_named (x ∷ xs) = ap (λ l. mark_named (name_at x) ∷ l) (marks_named xs)

-- operators that form a body also form it by their names
pub is_named_body : (xs : List Occurrence) (b : Body Occurrence) → IsBody xs b → IsNamedBody (map name_at xs) (named_body b)
is_named_body xs b h = marks_named xs ∙ (ap (map (map_mark name_at)) h ∙ sym (text_mapped name_at b.sequence (with_control b.close End ∷ [])))
