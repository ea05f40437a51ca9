-- The flat text: the operators of a function's tree as a list, in the order of writing, each at its location. A way of writing
-- says how they are written: with ids, with numbers, or with names.
use Rattle.std.specs.Prelude.{ℕ, zero, suc, ◌/◌, ◌^◌, ◌<◌, ◌≤◌, nat_lt, if◌then◌else◌, List, [], ◌∷◌, Bool, true, false, ◌&&◌, None, Result, Ok, Err}
use Rattle.walrus_ir.specs.declared.val_type.InstrSeqType.{InstrSeqType}
use Rattle.walrus_ir.specs.declared.val_type.InstrSeqType.TheVariants.{Simple}
use Rattle.walrus_ir.specs.Types.{Signature}
use Rattle.walrus_ir.specs.Tree.{Items, no_items, item, Sequences, no_sequences, sequence, alone}
use Rattle.wasm_operators.specs.declared.types.Space.TheVariants.{Types, Tags}
use Rattle.wasm_operators.specs.Operations.{index, Operation, operation}
use Rattle.wasm_body.specs.declared.error.EmitError.{EmitError}
use Rattle.wasm_body.specs.declared.error.EmitError.TheVariants.{Index, BranchOutside, BadClauses}
use Rattle.wasm_body.specs.declared.error.IndexError.TheVariants.{Unnumbered}
use Rattle.wasm_numbers.specs.Results.{◌>>=◌, some_or, gather}
use Rattle.wasm_body.specs.Control.{Role, an_if, a_try, a_block, a_loop, a_try_table, role_of, end_operation, else_operation, catch_opcode, catch_all_operation, delegate_operation}
use Rattle.wasm_body.specs.Translation.{Translation, keeping_numbers, relabelled, translate, Located, at_location}
use Rattle.wasm_body.specs.FunctionTree.{Target, Depth, Outside, Head, LegacyClause, handles, handles_all, delegates, Instruction, FunctionTree, last_location}
use Rattle.wasm_body.specs.NormalForm.{Typing, balances}

-- an operator of the text, before it is written: an operator that opens a construct has the type of its first sequence
abbrev pub TextOperation : Type 0
TextOperation = Operation Target InstrSeqType

-- how each operator of the text is written
abbrev pub TextTranslation : Type 0 → Type 0 → Type 0
TextTranslation M C = Translation Target InstrSeqType M C EmitError

-- A way of writing: how each operator is written, and which types of sequences are balanced (their results are their
-- parameters), so that an `else` may be left out.
pub record Writing (M C : Type 0) : Type 0 where
  pub translation : TextTranslation M C
  pub balanced : InstrSeqType → Bool

-- ---- an `else` that is left out

abbrev pub has_none : {S I : Type 0} → Items S I → Bool
has_none no_items = true
has_none (item i ss r) = false

-- The head of the consequent, if one `end` closes both sequences of an `if`: the `end` has the location of the alternative's
-- end, and that of the consequent's only if the alternative's is the default location.
abbrev pub closed_once : Head → Head → Head
closed_once h g = record { type = h.type; end_location = last_location h.end_location g.end_location }

abbrev pub one_or_both : (is_short : Bool) → Head → Items Head Instruction → Head → Items Head Instruction → Sequences Head Instruction → Sequences Head Instruction
one_or_both true h is g js r = sequence (closed_once h g) is r
one_or_both false h is g js r = sequence h is (sequence g js r)

-- An `if` is short if its type is balanced and its alternative has no instruction. It is written without an `else`: the
-- alternative says nothing.
abbrev pub written_in_if : (InstrSeqType → Bool) → Sequences Head Instruction → Sequences Head Instruction
written_in_if balanced no_sequences = no_sequences
written_in_if balanced (sequence h is no_sequences) = sequence h is no_sequences
written_in_if balanced (sequence h is (sequence g js r)) = one_or_both (balanced h.type && has_none js) h is g js r

abbrev pub written_inside : (InstrSeqType → Bool) → Role → Sequences Head Instruction → Sequences Head Instruction
written_inside balanced an_if ss = written_in_if balanced ss
written_inside balanced _ ss = ss

-- the tree as it is written: each short `if` has only its consequent
abbrev mutual
  pub written_items : (InstrSeqType → Bool) → Items Head Instruction → Items Head Instruction
  written_items balanced no_items = no_items
  written_items balanced (item i ss r) =
      item i (written_inside balanced (role_of i.op.opcode) (written_sequences balanced ss)) (written_items balanced r)

  pub written_sequences : (InstrSeqType → Bool) → Sequences Head Instruction → Sequences Head Instruction
  written_sequences balanced no_sequences = no_sequences
  written_sequences balanced (sequence h is r) = sequence h (written_items balanced is) (written_sequences balanced r)

-- ---- the operators that close the sequences of an instruction

-- lawful clauses of a `try`: any number of handlers by tag, then at most one of all tags; or one delegate alone
abbrev pub has_no_clauses : List LegacyClause → Bool
has_no_clauses [] = true
has_no_clauses (c ∷ cs) = false

abbrev pub are_handlers : List LegacyClause → Bool
are_handlers [] = true
are_handlers (handles t ∷ cs) = are_handlers cs
are_handlers (handles_all ∷ cs) = has_no_clauses cs
are_handlers (delegates n ∷ cs) = false

abbrev pub are_lawful : List LegacyClause → Bool
are_lawful [] = true
are_lawful (handles t ∷ cs) = are_handlers cs
are_lawful (handles_all ∷ cs) = has_no_clauses cs
are_lawful (delegates n ∷ cs) = has_no_clauses cs

-- the body of a `try` and each handler end where the next clause begins, and the last one ends at the `end`
abbrev pub try_closers : List LegacyClause → List TextOperation
try_closers [] = end_operation ∷ []
try_closers (handles t ∷ cs) = operation catch_opcode (index Tags t ∷ []) ∷ try_closers cs
try_closers (handles_all ∷ cs) = catch_all_operation ∷ try_closers cs
try_closers (delegates n ∷ cs) = delegate_operation n ∷ []

-- a consequent without an alternative ends at the `end`
abbrev pub if_closers : {S I : Type 0} → Sequences S I → List TextOperation
if_closers no_sequences = []
if_closers (sequence h is no_sequences) = end_operation ∷ []
if_closers (sequence h is (sequence g js r)) = else_operation ∷ end_operation ∷ []

abbrev pub closers : {S I : Type 0} → Role → List LegacyClause → Sequences S I → List TextOperation
closers a_block cs ss = end_operation ∷ []
closers a_loop cs ss = end_operation ∷ []
closers a_try_table cs ss = end_operation ∷ []
closers an_if cs ss = if_closers ss
closers a_try cs ss = try_closers cs
closers _ cs ss = []

-- ---- the text

abbrev pub written : {M C : Type 0} → TextTranslation M C → TextOperation → ℕ → Result (Located (Operation M C)) EmitError
written w o l = translate w o >>= λ x. Ok (at_location x l)

-- the same translation, with this block type for each
abbrev pub with_block_type : {M C : Type 0} → TextTranslation M C → InstrSeqType → Translation Target (Unit {0}) M C EmitError
with_block_type w t = relabelled w w.label (λ b. w.block t) w.alignment

abbrev pub first_type : Sequences Head Instruction → InstrSeqType
first_type no_sequences = Simple None
first_type (sequence h is r) = h.type

-- an instruction's own operator
abbrev pub opener_text : {M C : Type 0} → TextTranslation M C → Instruction → InstrSeqType → Result (Located (Operation M C)) EmitError
opener_text w i t = if are_lawful i.clauses then (translate (with_block_type w t) i.op >>= λ x. Ok (at_location x i.location)) else Err BadClauses

-- each sequence, and after it the operator that closes it, at the location of its end
abbrev mutual
  pub items_text : {M C : Type 0} → TextTranslation M C → Items Head Instruction → List (Result (Located (Operation M C)) EmitError) → List (Result (Located (Operation M C)) EmitError)
  items_text w no_items k = k
  items_text w (item i ss r) k = opener_text w i (first_type ss) ∷ sequences_text w (closers (role_of i.op.opcode) i.clauses ss) ss (items_text w r k)

  pub sequences_text : {M C : Type 0} → TextTranslation M C → List TextOperation → Sequences Head Instruction → List (Result (Located (Operation M C)) EmitError) → List (Result (Located (Operation M C)) EmitError)
  sequences_text w cs no_sequences k = k
  sequences_text w [] (sequence h is r) k = k
  sequences_text w (c ∷ cs) (sequence h is r) k = items_text w is (written w c h.end_location ∷ sequences_text w cs r k)

-- the operators of the tree, or the first fault in the order of writing
abbrev pub tree_text : {M C : Type 0} → Writing M C → FunctionTree → Result (List (Located (Operation M C))) EmitError
tree_text w t = gather (sequences_text w.translation (end_operation ∷ []) (written_sequences w.balanced (alone t)) [])

-- ---- ways of writing

abbrev pub halvings : ℕ → ℕ → ℕ
halvings zero n = zero
halvings (suc f) n = if nat_lt n 2 then zero else suc (halvings f (n / 2))

-- the exponent of the greatest power of two that is at most the alignment
abbrev pub exponent_of : ℕ → ℕ
exponent_of n = halvings n n

-- Two to this power is at most the alignment, and two to the next power is more. It is a law that such an exponent is the one.
abbrev pub IsExponentOf : (alignment e : ℕ) → Type 0
IsExponentOf n e = (2 ^ e ≤ n) × (n < 2 ^ suc e)

abbrev pub depth_of : Target → Result ℕ EmitError
depth_of (Depth n) = Ok n
depth_of Outside = Err BranchOutside

-- to ids, and the types of sequences
abbrev pub to_ids : TextTranslation ℕ InstrSeqType
to_ids = keeping_numbers depth_of (λ t. Ok t) exponent_of

-- With ids, and the types of sequences. It knows no type, and leaves out no `else` (which has no ids).
abbrev pub with_ids : Writing ℕ InstrSeqType
with_ids = record { translation = to_ids; balanced = λ t. false }

-- first to ids and types of sequences, and then by another translation
abbrev pub then_by : {M C : Type 0} → Translation ℕ InstrSeqType M C EmitError → TextTranslation M C
then_by f = relabelled f (λ t. depth_of t >>= λ n. f.label n) f.block (λ n. f.alignment (exponent_of n))

-- from ids and types of sequences to names, if the module has the types
abbrev pub naming_translation : Typing → Translation ℕ InstrSeqType ℕ Signature EmitError
naming_translation m = keeping_numbers (λ n. Ok n) (λ t. some_or (m.signature_of t) (Index (Unnumbered Types))) (λ e. e)

-- with ids, and parameters and results
abbrev pub with_names : Typing → Writing ℕ Signature
with_names m = record { translation = then_by (naming_translation m); balanced = balances m }
