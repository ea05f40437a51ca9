-- Expressions in a body that keeps no locals.
use Rattle.std.proofs.Common.{◌≡◌, ℕ, length, Bool, true, false, ◌||◌, ltb, eqb, List, [], ◌∷◌, Option, Some, None, refl, sym, ap, subst, ◌∙◌, arith}
use Rattle.std.specs.List.{list_any}
use Rattle.std.proofs.lemmas.Bool.{le-ltb, eqb-true, false≢true}
use Rattle.code_moves.specs.declared.body.Body.{Body}
use Rattle.code_moves.specs.Moves.{new_local_in}
use Rattle.dwarf_expressions.specs.declared.encoding.Encoding.{Encoding}
use Rattle.dwarf_expressions.specs.Expressions.{Simple, ExpressionOperation, local, other, simple, entry_value, IsExpression, Begins, simple_operation}
use Rattle.dwarf_expressions.specs.Moving.{expression_all_of, moved_simple, moved_operation, expression_moved, IsAppendedOfExpression}
use Rattle.dwarf_info.specs.Taken.{is_local, expression_names_local, names_a_local}

-- what is turned into nothing where the test passes, and stays elsewhere
abbrev IsNoneIf : {A : Type 0} → Bool → A → Option A → Type 0
IsNoneIf true x o = o ≡ None
IsNoneIf false x o = o ≡ Some x

none_if_all : {A : Type 0} (p : A → Bool) (f : A → Option A) → ((x : A) → IsNoneIf (p x) x (f x)) → (xs : List A) → IsNoneIf (list_any p xs) xs (expression_all_of f xs)
none_if_all p f h [] = refl
none_if_all {A} p f h (x ∷ xs) =
    let first = h x in
    let others = none_if_all p f h xs in
    elim (p x) as (λ b. IsNoneIf b x (f x) → IsNoneIf (b || list_any p xs) (x ∷ xs) (expression_all_of f (x ∷ xs))) [
      | true ↦ λ e. rw e refl
      | false ↦ λ e.
          elim (list_any p xs) as (λ b. IsNoneIf b xs (expression_all_of f xs) → IsNoneIf b (x ∷ xs) (expression_all_of f (x ∷ xs))) [
            | true ↦ λ g. rw (e, g) refl
            | false ↦ λ g. rw (e, g) refl
          ] others
    ] first

-- what a test for no bytes says
pub no_bytes : (xs : List ℕ) (r : Bool) → r ≡ eqb (length xs) 0 → r ≡ true → xs ≡ []
no_bytes [] r e t = refl
no_bytes (x ∷ xs) r e t = let none = eqb-true (length (x ∷ xs)) 0 (sym e ∙ t) in absurd (omega arith)

pub some_bytes : (xs : List ℕ) (r : Bool) → r ≡ eqb (length xs) 0 → r ≡ false → xs ≡ [] → ⊥
some_bytes xs r e f none = false≢true (sym f ∙ (e ∙ ap (λ (ys : List ℕ). eqb (length ys) 0) none))

module _ (b : Body) (no_locals : b.locals.items ≡ []) (no_parameters : b.parameters ≡ 0) where
  no_index : (index : ℕ) → new_local_in b index ≡ None
  no_index index =
      let low : ltb index b.parameters ≡ false = le-ltb index b.parameters (omega (arith, no_parameters)) in
      rw (low, no_locals) refl

  simple_without : (s : Simple) → IsNoneIf (is_local s) s (moved_simple b s)
  simple_without (local index) = rw (no_index index) refl
  simple_without (other code bytes) = refl

  operation_without : (o : ExpressionOperation) → IsNoneIf (expression_names_local o) o (moved_operation b o)
  operation_without (simple (local index)) = rw (no_index index) refl
  operation_without (simple (other code bytes)) = refl
  operation_without (entry_value code ss) =
      elim (list_any is_local ss) as (λ t. IsNoneIf t ss (expression_all_of (moved_simple b) ss) → IsNoneIf t (entry_value code ss) (moved_operation b (entry_value code ss))) [
        | true ↦ λ g. rw g refl
        | false ↦ λ g. rw g refl
      ] (none_if_all is_local (moved_simple b) simple_without ss)

  expression_without : (os : List ExpressionOperation) → IsNoneIf (names_a_local os) os (expression_moved b os)
  expression_without os = none_if_all expression_names_local (moved_operation b) operation_without os

  -- no bytes are no operations
  nothing_begins : (e : Encoding) (o : ExpressionOperation) (rest : List ℕ) → Begins e [] o rest → ⊥
  unfolding simple_operation
  nothing_begins e (simple s) rest h = cc
  nothing_begins e (entry_value code ss) rest h = let k = h.1 in cc

  no_operations : (e : Encoding) (os : List ExpressionOperation) → IsExpression e [] os → os ≡ []
  no_operations e [] h = refl
  no_operations e (o ∷ os) h = absurd (nothing_begins e o h.0 h.1)

  module _ (e : Encoding) (bytes : List ℕ) (os : List ExpressionOperation) (added : List ℕ) (names : Bool)
      (is : IsExpression e bytes os) (appended : IsAppendedOfExpression e (Some b) bytes os added names) where
    -- unless only what is appended has no bytes, no local is named
    pub names_no_local : (added ≡ [] → bytes ≡ []) → names_a_local os ≡ false
    names_no_local kept =
        elim (names_a_local os) as (λ t. names_a_local os ≡ t → IsNoneIf t os (expression_moved b os) → t ≡ false) [
          | true ↦ λ t g.
              let empty : added ≡ [] = (rw g at appended).0 in
              let none = no_operations e os (subst (λ bs. IsExpression e bs os) (kept empty) is) in
              sym t ∙ ap names_a_local none
          | false ↦ λ t g. refl
        ] refl (expression_without os)

    pub names_local : added ≡ [] → (bytes ≡ [] → ⊥) → names_a_local os ≡ true
    names_local empty some =
        elim (names_a_local os) as (λ t. names_a_local os ≡ t → IsNoneIf t os (expression_moved b os) → t ≡ true) [
          | true ↦ λ t g. refl
          | false ↦ λ t g.
              let same = (rw g at appended).0 in
              let none = no_operations e os (subst (λ bs. IsExpression e bs os) empty same) in
              absurd (some (subst (IsExpression e bytes) none is))
        ] refl (expression_without os)
