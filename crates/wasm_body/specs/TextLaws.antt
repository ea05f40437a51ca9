-- Laws of trees and texts.
use Rattle.std.specs.Prelude.{◌≡◌, ℕ, List, ◌∷◌, map, Result, Ok}
use Rattle.std.specs.List.{AllByRecursion}
use Rattle.wasm_body.specs.declared.error.EmitError.{EmitError}
use Rattle.wasm_numbers.specs.Results.{◌>>=◌}
use Rattle.wasm_body.specs.Control.{Marked, with_control, Control, Else, Catch, CatchAll, End, Delegate, control_of}
use Rattle.wasm_body.specs.SourceTree.{Sequence, text, Body, body_text}
use Rattle.wasm_body.specs.Translation.{Located}
use Rattle.wasm_body.specs.Naming.{Environment, NamedOperation, Occurrence}
use Rattle.wasm_body.specs.Parsing.Accepted.{HasSpelling, Lawful}
use Rattle.wasm_body.specs.FunctionTree.{FunctionTree, IsSameTree}
use Rattle.wasm_body.specs.NormalForm.{Typing, typing_of, normal_form, name_at, named_body}
use Rattle.wasm_body.specs.FlatText.{Writing, exponent_of, IsExponentOf, with_names, tree_text}
use Rattle.wasm_body.specs.Typed.{AreTyped}

-- ---- reading a tree is unique

-- an operator that ends the sequence before it
abbrev pub EndsSequence : Control → Type 0
EndsSequence Else = Unit {0}
EndsSequence (Catch t) = Unit {0}
EndsSequence CatchAll = Unit {0}
EndsSequence End = Unit {0}
EndsSequence (Delegate n) = Unit {0}
EndsSequence _ = ⊥

-- A list is the text of at most one body.
abbrev pub OneBody : Type 0 → Type 0
OneBody A = (b c : Body A) → body_text b ≡ body_text c → b ≡ c

-- There is at most one way in which a list begins with a sequence and an operator that ends it.
abbrev pub OneSequence : Type 0 → Type 0
OneSequence A =
    (s t : Sequence A) (x y : Marked A) (k l : List (Marked A)) → EndsSequence x.control → EndsSequence y.control →
    text s (x ∷ k) ≡ text t (y ∷ l) → (s ≡ t) × (x ≡ y) × (k ≡ l)

-- ---- the text of a normal form

abbrev pub mark_named : Located NamedOperation → Marked (Located NamedOperation)
mark_named x = with_control x (control_of x.op)

-- The named operators form this body.
abbrev pub IsNamedBody : List (Located NamedOperation) → Body (Located NamedOperation) → Type 0
IsNamedBody xs b = map mark_named xs ≡ body_text b

-- The list is the text of the tree, with names.
abbrev pub IsTextOf : Typing → FunctionTree → List (Located NamedOperation) → Type 0
IsTextOf m t ys = tree_text (with_names m) t ≡ Ok ys

-- Operators that have encodings and form a lawful body also form this body by their names, and they are typed. So the laws
-- below hold for every accepted body.
abbrev pub LawfulAreTyped : Type 0
LawfulAreTyped =
    (env : Environment) (xs : List Occurrence) (b : Body Occurrence) → AllByRecursion HasSpelling xs → Lawful env xs b →
    IsNamedBody (map name_at xs) (named_body b) × AreTyped (typing_of env) (map name_at xs)

-- The tree has a text, and the text forms a body again.
pub record HasBodyText (m : Typing) (tree : FunctionTree) : Type 0 where
  pub text : List (Located NamedOperation)
  pub body : Body (Located NamedOperation)
  pub is_text : IsTextOf m tree text
  pub is_body : IsNamedBody text body

-- The normal form of a typed body has a text, and the text forms a body again.
abbrev pub HaveTexts : Type 0
HaveTexts =
    (m : Typing) (xs : List (Located NamedOperation)) (b : Body (Located NamedOperation)) → IsNamedBody xs b → AreTyped m xs →
    HasBodyText m (normal_form m b)

-- The text, read as a body again, has a normal form that is the same tree.
abbrev pub NormalAgain : Type 0
NormalAgain =
    (m : Typing) (xs ys : List (Located NamedOperation)) (b c : Body (Located NamedOperation)) → IsNamedBody xs b → AreTyped m xs →
    IsTextOf m (normal_form m b) ys → IsNamedBody ys c → IsSameTree (normal_form m c) (normal_form m b)

-- ---- alignments

-- Each alignment but 0 is written as its exponent.
abbrev pub ExponentsAreWritten : Type 0
ExponentsAreWritten = (n e : ℕ) → IsExponentOf n e → exponent_of n ≡ e

-- ---- trees that are the same

abbrev pub without_locations : {X : Type 0} → Result (List (Located X)) EmitError → Result (List X) EmitError
without_locations r = r >>= λ xs. Ok (map (λ x. x.op) xs)

-- In every way of writing they have the same operators, locations aside, or the same fault. `M` and `C` are the types of a
-- written label and a written block type.
abbrev pub SameTexts : (M C : Type 0) → Type 0
SameTexts M C =
    (w : Writing M C) (t u : FunctionTree) → IsSameTree t u → without_locations (tree_text w t) ≡ without_locations (tree_text w u)
