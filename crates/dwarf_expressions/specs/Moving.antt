-- Expressions of a function whose locals have new indices.
use Rattle.std.specs.Prelude.{◌≡◌, ⊤, ◌⊎◌, MatchOption, ℕ, ◌^◌, ◌<◌, Bool, true, false, List, [], ◌∷◌, ◌++◌, length, Option, Some, None, option_map, option_and_then}
use Rattle.std.specs.List.{list_any}
use Rattle.code_moves.specs.declared.body.Body.{Body}
use Rattle.code_moves.specs.Moves.{new_local_in}
use Rattle.dwarf_bytes.specs.declared.fault.DebugFault.{DebugFault}
use Rattle.dwarf_bytes.specs.declared.fault.DebugFault.TheVariants as faults
use Rattle.dwarf_bytes.specs.Writing.{padded}
use Rattle.dwarf_expressions.specs.declared.encoding.Encoding.{Encoding}
use Rattle.dwarf_expressions.specs.Expressions.{Simple, ExpressionOperation, local, other, simple, entry_value, BeginWith, IsExpression, IsFaultOfOfExpression, expression_has, is_branch, expression_is_entry}

-- all of them, each turned into another one, or nothing if one can't be
abbrev pub expression_all_of : {A B : Type 0} → (A → Option B) → List A → Option (List B)
expression_all_of f [] = Some []
expression_all_of f (x ∷ xs) = option_and_then (λ y. option_map (λ ys. y ∷ ys) (expression_all_of f xs)) (f x)

-- A local has its new index; if it isn't kept, there is none.
abbrev pub moved_simple : Body → Simple → Option Simple
moved_simple b (local index) = option_map local (new_local_in b index)
moved_simple b (other code bytes) = Some (other code bytes)

abbrev pub moved_operation : Body → ExpressionOperation → Option ExpressionOperation
moved_operation b (simple s) = option_map simple (moved_simple b s)
moved_operation b (entry_value code ss) = option_map (entry_value code) (expression_all_of (moved_simple b) ss)

abbrev pub expression_moved : Body → List ExpressionOperation → Option (List ExpressionOperation)
expression_moved b = expression_all_of (moved_operation b)

-- ---- what is written

abbrev pub HasIndex : Simple → Type 0
HasIndex (local index) = index < 2 ^ 64
HasIndex (other code operands) = ⊤

-- an operation, with the index of a local in this many bytes, or in as many as it needs, if these are more
abbrev pub expression_written : (width : ℕ) → Simple → List ℕ
expression_written width (local index) = 0xed ∷ 0 ∷ padded width index
expression_written width (other code operands) = code ∷ operands

-- the text is read as these, whatever follows
abbrev pub WritesOfExpression : {A : Type 0} → (Begins : List ℕ → A → List ℕ → Type 0) → (text : List ℕ) → List A → Type 0
WritesOfExpression Begins text xs = (following : List ℕ) → BeginWith Begins (text ++ following) xs following

-- What is appended of an expression of these operations, and whether an operation that is appended names an entry by its offset. With
-- no body the expression is appended as it is. If a local isn't kept, nothing is appended: the empty expression says that there is no
-- location. An operation that goes forward or back in the expression is appended only if the expression keeps its length.
abbrev pub IsAppendedOfExpression : Encoding → (body : Option Body) → (old : List ℕ) → List ExpressionOperation → (added : List ℕ) (names_entries : Bool) → Type 0
IsAppendedOfExpression e None old os added names = (added ≡ old) × (names ≡ list_any (expression_has expression_is_entry) os)
IsAppendedOfExpression e (Some b) old os added names =
    MatchOption (expression_moved b os)
    ((added ≡ []) × (names ≡ false))
    (λ news. IsExpression e added news × (names ≡ list_any (expression_has expression_is_entry) news) × (list_any (expression_has is_branch) os ≡ true → length added ≡ length old))

-- Why nothing is appended: the expression can't be read; or it has an operation that goes forward or back, and has other lengths of
-- operations when it is moved.
abbrev pub IsRefusedOfExpression : Encoding → (body : Option Body) → (old : List ℕ) → DebugFault → Type 0
IsRefusedOfExpression e None old fault = IsFaultOfOfExpression e old fault
IsRefusedOfExpression e (Some b) old fault =
    IsFaultOfOfExpression e old fault
    ⊎ ((fault ≡ faults.Unsupported) × (os news : List ExpressionOperation) × IsExpression e old os × (list_any (expression_has is_branch) os ≡ true) × (expression_moved b os ≡ Some news))
