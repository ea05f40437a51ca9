-- The operators that are written for a body: the source tree, rewritten sequence by sequence, and the text of the result
-- (WebAssembly core specification 3.0, control instructions; legacy exception handling). For each operator that is written, the
-- tree shows which operator of the source it is, or takes the place of, and so which location it has.
use Rattle.std.specs.Prelude.{ℕ, List, [], ◌∷◌, map, Bool, true, false, ◌&&◌}
use Rattle.walrus_ir.specs.Locations.{default_location}
use Rattle.wasm_operators.specs.declared.types.Space.TheVariants.{Tags}
use Rattle.wasm_operators.specs.Operations.{index, operation}
use Rattle.wasm_body.specs.Control.{Action, Marked, end_operation, else_operation, catch_opcode, catch_all_operation, delegate_operation}
use Rattle.wasm_body.specs.SourceTree.{Sequence, Empty, Single, Wrapped, IfThen, IfElse, TryCatch, TryDelegate, Clauses, Ended, Catches, CatchesAll, Body, body_text}
use Rattle.wasm_body.specs.Translation.{Located, at_location}
use Rattle.wasm_body.specs.Naming.{NamedOperation}
use Rattle.wasm_body.specs.FunctionTree.{last_location}
use Rattle.wasm_body.specs.NormalForm.{Typing, balances, construct_type, Fate, Drops, Stays, MakesUnreachable, fate}

-- ---- the operators that part and close constructs, each made anew, with this location

abbrev pub end_at : (location : ℕ) → Located NamedOperation
end_at l = at_location end_operation l

abbrev pub else_at : (location : ℕ) → Located NamedOperation
else_at l = at_location else_operation l

abbrev pub catch_at : (tag location : ℕ) → Located NamedOperation
catch_at t l = at_location (operation catch_opcode (index Tags t ∷ [])) l

abbrev pub catch_all_at : (location : ℕ) → Located NamedOperation
catch_all_at l = at_location catch_all_operation l

abbrev pub delegate_at : (depth location : ℕ) → Located NamedOperation
delegate_at n l = at_location (delegate_operation n) l

-- ---- the tree

-- An instruction that is not a construct, before the rest of its sequence. A `nop` isn't written. After an instruction that
-- never goes on to the next one, nothing more of its sequence is written. Every other is written as it is, at its location.
abbrev pub single_with_fate : Fate → Located NamedOperation → Action → Sequence (Located NamedOperation) → Sequence (Located NamedOperation)
single_with_fate Drops a action rest = rest
single_with_fate Stays a action rest = Single a action rest
single_with_fate MakesUnreachable a action rest = Single a action Empty

-- whether nothing of a sequence is written
abbrev pub is_empty_sequence : Sequence (Located NamedOperation) → Bool
is_empty_sequence Empty = true
is_empty_sequence (Single a action r) = false
is_empty_sequence (Wrapped a w b e r) = false
is_empty_sequence (IfThen a b e r) = false
is_empty_sequence (IfElse a b l c e r) = false
is_empty_sequence (TryCatch a b cs r) = false
is_empty_sequence (TryDelegate a b e n r) = false

-- An `if` whose consequent is closed at the first of two locations, and its alternative at the second. A short one is written
-- without `else`: its `end` has the second location, and the first only if the second is the default location. Any other is
-- written with `else` and `end` at the two locations.
abbrev pub written_if : (is_short : Bool) → Located NamedOperation → Sequence (Located NamedOperation) → (first : ℕ) → Sequence (Located NamedOperation) → (second : ℕ) → Sequence (Located NamedOperation) → Sequence (Located NamedOperation)
written_if true a b l c m rest = IfThen a b (end_at (last_location l m)) rest
written_if false a b l c m rest = IfElse a b (else_at l) c (end_at m) rest

-- Sequence by sequence, in this order of clauses; `balanced` says of an operator that opens a construct whether the type of its
-- sequences is balanced: An empty sequence stays empty. An instruction that is not a construct is written, or isn't, as above.
-- A `block`, `loop` or `try_table` is written as it is, and its `end` at the location of the source's `end`. An `if` without
-- `else` is written as it is. If it is balanced its `end` has the location of the source's `end`. If it isn't, it gets an empty
-- `else`: that has the location of the source's `end`, and the `end` after it has the default location. An `if` with `else` is
-- written as it is, its `else` and its `end` at the locations of the source's. But if it is balanced, and nothing of its
-- alternative is written, it is written without `else`, its `end` at the location of the source's `end`; only if that is the
-- default location, at the location of the source's `else`. A `try` with handlers is written as it is, and then its clauses. A
-- `try` with `delegate` is written as it is, and its `delegate`, of the same depth, at the default location. Clauses end with
-- an `end`, at the location of the source's; a `catch` of a tag and a `catch_all` are written at theirs.
abbrev mutual
  pub rewritten : (NamedOperation → Bool) → Sequence (Located NamedOperation) → Sequence (Located NamedOperation)
  rewritten balanced Empty = Empty
  rewritten balanced (Single a action r) = single_with_fate (fate action) a action (rewritten balanced r)
  rewritten balanced (Wrapped a w b e r) = Wrapped a w (rewritten balanced b) (end_at e.location) (rewritten balanced r)
  rewritten balanced (IfThen a b e r) =
      written_if (balanced a.op) a (rewritten balanced b) e.location Empty default_location (rewritten balanced r)
  rewritten balanced (IfElse a b l c e r) =
      written_if (balanced a.op && is_empty_sequence (rewritten balanced c)) a (rewritten balanced b) l.location (rewritten balanced c) e.location (rewritten balanced r)
  rewritten balanced (TryCatch a b cs r) = TryCatch a (rewritten balanced b) (rewritten_clauses balanced cs) (rewritten balanced r)
  rewritten balanced (TryDelegate a b e n r) =
      TryDelegate a (rewritten balanced b) (delegate_at n default_location) n (rewritten balanced r)

  pub rewritten_clauses : (NamedOperation → Bool) → Clauses (Located NamedOperation) → Clauses (Located NamedOperation)
  rewritten_clauses balanced (Ended e) = Ended (end_at e.location)
  rewritten_clauses balanced (Catches a t b cs) = Catches (catch_at t a.location) t (rewritten balanced b) (rewritten_clauses balanced cs)
  rewritten_clauses balanced (CatchesAll a b e) = CatchesAll (catch_all_at a.location) (rewritten balanced b) (end_at e.location)

-- and the function's own `end` at its location
abbrev pub rewritten_body_by : (NamedOperation → Bool) → Body (Located NamedOperation) → Body (Located NamedOperation)
rewritten_body_by balanced b = record { sequence = rewritten balanced b.sequence; close = end_at b.close.location }

-- with the types of a module
abbrev pub rewritten_body : Typing → Body (Located NamedOperation) → Body (Located NamedOperation)
rewritten_body m b = rewritten_body_by (λ o. balances m (construct_type m o)) b

-- the operators that are written, in order, each at its location
abbrev pub rewritten_text : Typing → Body (Located NamedOperation) → List (Located NamedOperation)
rewritten_text m b = map (λ (x : Marked (Located NamedOperation)). x.shown) (body_text (rewritten_body m b))
