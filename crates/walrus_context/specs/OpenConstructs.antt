-- The normal form of an open construct: its opener, its clauses so far, and its closed sequences. The open sequence has a type,
-- and its end location is that of the operator that closes it.
use Rattle.std.specs.Prelude.{ℕ, List, [], ◌∷◌}
use Rattle.walrus_ir.specs.declared.val_type.InstrSeqType.{InstrSeqType}
use Rattle.walrus_ir.specs.declared.control.BlockKind.{BlockKind}
use Rattle.walrus_ir.specs.declared.control.BlockKind.TheVariants as kind
use Rattle.walrus_ir.specs.Tree.{Items, no_items, Sequences, no_sequences, sequence}
use Rattle.walrus_ir.specs.Locations.{default_location}
use Rattle.wasm_body.specs.SourceTree.{Sequence, Wrapper, OfBlock, OfLoop, OfTryTable, map_sequence}
use Rattle.wasm_body.specs.Translation.{Located}
use Rattle.wasm_body.specs.FunctionTree.{Head, LegacyClause, handles, handles_all, Instruction}
use Rattle.wasm_body.specs.Naming.{NamedOperation}
use Rattle.wasm_body.specs.Flat.{Named}
use Rattle.wasm_body.specs.NormalForm.{Typing, construct_type, handler_type, head, normal}
use Rattle.wasm_body.specs.Parsing.Progress.{ClosedClause, closed_clause, OpenConstruct, InWrapper, InThen, InElse, InTry, InCatch, InCatchAll}

-- the operator that opened it
abbrev pub opener_in : {A : Type 0} → OpenConstruct A → A
opener_in (InWrapper a w) = a
opener_in (InThen a) = a
opener_in (InElse a b l) = a
opener_in (InTry a) = a
opener_in (InCatch a b gs h t) = a
opener_in (InCatchAll a b gs h) = a

-- the kind of the open sequence in its construct
abbrev pub wrapper_kind : Wrapper → BlockKind
wrapper_kind OfBlock = kind.Block
wrapper_kind OfLoop = kind.Loop
wrapper_kind (OfTryTable cs) = kind.TryTable

abbrev pub kind_in : {A : Type 0} → OpenConstruct A → BlockKind
kind_in (InWrapper a w) = wrapper_kind w
kind_in (InThen a) = kind.If
kind_in (InElse a b l) = kind.Else
kind_in (InTry a) = kind.Try
kind_in (InCatch a b gs h t) = kind.Catch
kind_in (InCatchAll a b gs h) = kind.CatchAll

-- ---- the clauses of a legacy `try`, with that of the open handler

abbrev pub clauses_after : {A : Type 0} → List (ClosedClause A) → List LegacyClause → List LegacyClause
clauses_after [] cs = cs
clauses_after (g ∷ gs) cs = clauses_after gs (handles g.tag ∷ cs)

abbrev pub clauses_in : {A : Type 0} → OpenConstruct A → List LegacyClause
clauses_in (InWrapper a w) = []
clauses_in (InThen a) = []
clauses_in (InElse a b l) = []
clauses_in (InTry a) = []
clauses_in (InCatch a b gs h t) = clauses_after gs (handles t ∷ [])
clauses_in (InCatchAll a b gs h) = clauses_after gs (handles_all ∷ [])

-- ---- the closed sequences

-- sequences followed by others
abbrev pub sequences_joined : {S I : Type 0} → Sequences S I → Sequences S I → Sequences S I
sequences_joined no_sequences rs = rs
sequences_joined (sequence h is r) rs = sequence h is (sequences_joined r rs)

-- The handlers of closed clauses, given last first, and then the rest. Each ends where the next clause begins, and the last at
-- this location.
abbrev pub handlers_after : Typing → NamedOperation → (end_location : ℕ) → List (ClosedClause Named) → Sequences Head Instruction → Sequences Head Instruction
handlers_after m o end_location [] rest = rest
handlers_after m o end_location (g ∷ gs) rest =
    handlers_after m o g.mark.location gs (sequence (head (handler_type m o (m.tag_parameters g.tag)) end_location) (normal m g.body) rest)

-- the location of the first clause
abbrev pub first_clause_at : (location : ℕ) → List (ClosedClause Named) → ℕ
first_clause_at location [] = location
first_clause_at location (g ∷ gs) = first_clause_at g.mark.location gs

abbrev pub try_sequences : Typing → NamedOperation → Sequence Named → List (ClosedClause Named) → (location : ℕ) → Sequences Head Instruction
try_sequences m o b gs location = sequence (head (construct_type m o) (first_clause_at location gs)) (normal m b) (handlers_after m o location gs no_sequences)

abbrev pub closed_in : Typing → OpenConstruct Named → Sequences Head Instruction
closed_in m (InWrapper a w) = no_sequences
closed_in m (InThen a) = no_sequences
closed_in m (InElse a b l) = sequence (head (construct_type m a.op) l.location) (normal m b) no_sequences
closed_in m (InTry a) = no_sequences
closed_in m (InCatch a b gs h t) = try_sequences m a.op b gs h.location
closed_in m (InCatchAll a b gs h) = try_sequences m a.op b gs h.location

-- ---- the open sequence

abbrev pub type_in : Typing → OpenConstruct Named → InstrSeqType
type_in m (InCatch a b gs h t) = handler_type m a.op (m.tag_parameters t)
type_in m (InCatchAll a b gs h) = handler_type m a.op []
type_in m p = construct_type m (opener_in p).op

-- the sequence after an open one that `end` closes: an empty alternative after a consequent
abbrev pub added_in : Typing → OpenConstruct Named → Sequences Head Instruction
added_in m (InThen a) = sequence (head (construct_type m a.op) default_location) no_items no_sequences
added_in m _ = no_sequences

-- the sequences when the open one has these items and ends at this location
abbrev pub sequences_closed : Typing → OpenConstruct Named → Items Head Instruction → (location : ℕ) → Sequences Head Instruction → Sequences Head Instruction
sequences_closed m p items location rest = sequences_joined (closed_in m p) (sequence (head (type_in m p) location) items rest)

-- ---- the same, where other items are shown

abbrev pub map_closed_clause : {A B : Type 0} → (A → B) → ClosedClause A → ClosedClause B
map_closed_clause f g = closed_clause (f g.mark) g.tag (map_sequence f g.body)

abbrev pub map_closed : {A B : Type 0} → (A → B) → List (ClosedClause A) → List (ClosedClause B)
map_closed f [] = []
map_closed f (g ∷ gs) = map_closed_clause f g ∷ map_closed f gs

abbrev pub map_open_construct : {A B : Type 0} → (A → B) → OpenConstruct A → OpenConstruct B
map_open_construct f (InWrapper a w) = InWrapper (f a) w
map_open_construct f (InThen a) = InThen (f a)
map_open_construct f (InElse a b l) = InElse (f a) (map_sequence f b) (f l)
map_open_construct f (InTry a) = InTry (f a)
map_open_construct f (InCatch a b gs h t) = InCatch (f a) (map_sequence f b) (map_closed f gs) (f h) t
map_open_construct f (InCatchAll a b gs h) = InCatchAll (f a) (map_sequence f b) (map_closed f gs) (f h)
