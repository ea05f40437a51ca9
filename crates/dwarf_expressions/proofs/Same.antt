-- An expression with new indices of locals has the operands that it had.
use Rattle.std.proofs.Common.{◌≡◌, ℕ, Bool, true, false, ◌||◌, List, [], ◌∷◌, length, MatchOption, Option, Some, None, option_map, option_and_then, refl, sym, ap, ◌∙◌, subst}
use Rattle.std.specs.List.{list_any}
use Rattle.std.proofs.lemmas.Option.{same_Some}
use Rattle.code_moves.specs.declared.body.Body.{Body}
use Rattle.code_moves.specs.Moves.{new_local_in}
use Rattle.dwarf_expressions.specs.declared.encoding.Encoding.{Encoding}
use Rattle.dwarf_expressions.specs.declared.operand.Operand.{Operand}
use Rattle.dwarf_expressions.specs.Expressions.{Simple, ExpressionOperation, local, other, simple, entry_value, simple_has, expression_has, is_branch, expression_is_entry, IsExpression}
use Rattle.dwarf_expressions.specs.Moving.{expression_all_of, moved_simple, moved_operation, expression_moved, IsAppendedOfExpression}

-- what a value that is turned into another one comes from
map_some : {A C : Type 0} (f : A → C) (o : Option A) (y : C) → option_map f o ≡ Some y → (x : A) × (o ≡ Some x) × (f x ≡ y)
map_some f None y e = absurd cc
map_some f (Some x) y e = (x, refl, same_Some (f x) y e)

then_some : {A C : Type 0} (f : A → Option C) (o : Option A) (y : C) → option_and_then f o ≡ Some y → (x : A) × (o ≡ Some x) × (f x ≡ Some y)
then_some f None y e = absurd cc
then_some f (Some x) y e = (x, refl, e)

same_any : {A C : Type 0} (f : A → Option C) (p : A → Bool) (q : C → Bool) → ((x : A) (y : C) → f x ≡ Some y → p x ≡ q y) → (xs : List A) (ys : List C) → expression_all_of f xs ≡ Some ys → list_any p xs ≡ list_any q ys
same_any f p q each [] ys e = ap (list_any q) (same_Some [] ys e)
same_any f p q each (x ∷ xs) ys e =
    let first = then_some (λ y. option_map (λ bs. y ∷ bs) (expression_all_of f xs)) (f x) ys e in
    let others = map_some (λ bs. first.0 ∷ bs) (expression_all_of f xs) ys first.2 in
    let one = each x first.0 first.1 in
    let more = same_any f p q each xs others.0 others.1 in
    ap (λ (b : Bool). b || list_any p xs) one ∙ (ap (λ (b : Bool). q first.0 || b) more ∙ ap (list_any q) others.2)

same_simple : (b : Body) (test : Operand → Bool) (s new : Simple) → moved_simple b s ≡ Some new → simple_has test s ≡ simple_has test new
same_simple b test (local index) new e = ap (simple_has test) (map_some local (new_local_in b index) new e).2
same_simple b test (other code bytes) new e = ap (simple_has test) (same_Some (other code bytes) new e)

same_operation : (b : Body) (test : Operand → Bool) (o new : ExpressionOperation) → moved_operation b o ≡ Some new → expression_has test o ≡ expression_has test new
same_operation b test (simple s) new e =
    let x = map_some simple (moved_simple b s) new e in
    same_simple b test s x.0 x.1 ∙ ap (expression_has test) x.2
same_operation b test (entry_value code ss) new e =
    let x = map_some (entry_value code) (expression_all_of (moved_simple b) ss) new e in
    same_any (moved_simple b) (simple_has test) (simple_has test) (same_simple b test) ss x.0 x.1 ∙ ap (expression_has test) x.2

pub same_operands : (b : Body) (test : Operand → Bool) (os news : List ExpressionOperation) → expression_moved b os ≡ Some news → list_any (expression_has test) os ≡ list_any (expression_has test) news
same_operands b test os news e = same_any (moved_operation b) (expression_has test) (expression_has test) (same_operation b test) os news e

-- ---- what is appended

pub is_appended : (e : Encoding) (b : Body) (old added : List ℕ) (os news : List ExpressionOperation) (names : Bool) → IsExpression e added news → expression_moved b os ≡ Some news → names ≡ list_any (expression_has expression_is_entry) os
    → (list_any (expression_has is_branch) os ≡ true → length added ≡ length old) → IsAppendedOfExpression e (Some b) old os added names
is_appended e b old added os news names read m n len =
    let P = λ (ns : List ExpressionOperation). IsExpression e added ns × (names ≡ list_any (expression_has expression_is_entry) ns) × (list_any (expression_has is_branch) os ≡ true → length added ≡ length old) in
    subst (λ (o : Option (List ExpressionOperation)). MatchOption o ((added ≡ []) × (names ≡ false)) P) (sym m) (read, n ∙ same_operands b expression_is_entry os news m, len)
