-- The normal form of a construct whose open sequence is closed, in terms of its closed sequences.
use Rattle.std.specs.Prelude.{◌≡◌, ℕ, List, [], ◌∷◌, ◌++◌}
use Rattle.std.proofs.Common.{refl, sym, ap, ◌∙◌}
use Rattle.walrus_ir.specs.Tree.{no_items, item, Sequences, no_sequences, sequence}
use Rattle.wasm_body.specs.SourceTree.{Sequence, Empty, TryCatch, Clauses, Ended, Catches, CatchesAll, map_sequence, map_clauses}
use Rattle.wasm_body.specs.FunctionTree.{Head, LegacyClause, handles, handles_all, Instruction}
use Rattle.wasm_body.specs.Naming.{NamedOperation, Occurrence}
use Rattle.wasm_body.specs.NormalForm.{Typing, construct_type, handler_type, instruction, head, legacy_clauses, closed_at, normal, handler_sequences, name_at}
use Rattle.wasm_body.specs.Parsing.Progress.{ClosedClause, closed_clause, after_closed, OpenConstruct, InWrapper, InThen, InElse, InTry, InCatch, InCatchAll, closed}
use Rattle.walrus_context.specs.OpenConstructs.{opener_in, clauses_after, clauses_in, sequences_joined, handlers_after, first_clause_at, try_sequences, closed_in, added_in, sequences_closed, map_closed, map_open_construct}
use Rattle.wasm_body.specs.Flat.{Named}

-- ---- clauses after closed ones

clauses_closed : {A : Type 0} → (gs : List (ClosedClause A)) (cs : Clauses A) → legacy_clauses (after_closed gs cs) ≡ clauses_after gs (legacy_clauses cs)
clauses_closed [] cs = refl
clauses_closed (g ∷ gs) cs = clauses_closed gs (Catches g.mark g.tag g.body cs)

first_closed : (gs : List (ClosedClause Named)) (cs : Clauses Named) → closed_at (after_closed gs cs) ≡ first_clause_at (closed_at cs) gs
first_closed [] cs = refl
first_closed (g ∷ gs) cs = first_closed gs (Catches g.mark g.tag g.body cs)

handlers_closed : (m : Typing) (o : NamedOperation) (gs : List (ClosedClause Named)) (cs : Clauses Named) → handler_sequences m o (after_closed gs cs) ≡ handlers_after m o (closed_at cs) gs (handler_sequences m o cs)
handlers_closed m o [] cs = refl
handlers_closed m o (g ∷ gs) cs = handlers_closed m o gs (Catches g.mark g.tag g.body cs)

handlers_joined : (m : Typing) (o : NamedOperation) (location : ℕ) (gs : List (ClosedClause Named)) (rest more : Sequences Head Instruction) →
    handlers_after m o location gs (sequences_joined rest more) ≡ sequences_joined (handlers_after m o location gs rest) more
handlers_joined m o location [] rest more = refl
handlers_joined m o location (g ∷ gs) rest more = handlers_joined m o g.mark.location gs (sequence (head (handler_type m o (m.tag_parameters g.tag)) location) (normal m g.body) rest) more

pub clauses_more : {A : Type 0} → (gs : List (ClosedClause A)) (cs ds : List LegacyClause) → clauses_after gs (cs ++ ds) ≡ clauses_after gs cs ++ ds
clauses_more [] cs ds = refl
clauses_more (g ∷ gs) cs ds = clauses_more gs (handles g.tag ∷ cs) ds

-- ---- the open sequence is closed by `end`, or by `delegate`

-- a legacy `try` with these clauses after closed ones
try_closed : (m : Typing) (a : Named) (b : Sequence Named) (gs : List (ClosedClause Named)) (cs : Clauses Named) →
    normal m (TryCatch a b (after_closed gs cs) Empty)
    ≡ item (instruction a (clauses_after gs (legacy_clauses cs))) (sequences_joined (try_sequences m a.op b gs (closed_at cs)) (handler_sequences m a.op cs)) no_items
try_closed m a b gs cs = λ i.
    item (instruction a (clauses_closed gs cs i))
    (sequence (head (construct_type m a.op) (first_closed gs cs i)) (normal m b) ((handlers_closed m a.op gs cs ∙ handlers_joined m a.op (closed_at cs) gs no_sequences (handler_sequences m a.op cs)) i))
    no_items

pub normal_closed : (m : Typing) (p : OpenConstruct Named) (s : Sequence Named) (e : Named) →
    normal m (closed p s e) ≡ item (instruction (opener_in p) (clauses_in p)) (sequences_closed m p (normal m s) e.location (added_in m p)) no_items
normal_closed m (InWrapper a w) s e = refl
normal_closed m (InThen a) s e = refl
normal_closed m (InElse a b l) s e = refl
normal_closed m (InTry a) s e = refl
normal_closed m (InCatch a b gs h t) s e = try_closed m a b gs (Catches h t s (Ended e))
normal_closed m (InCatchAll a b gs h) s e = try_closed m a b gs (CatchesAll h s e)

-- ---- the next sequence is opened

pub closed_by_catch : (m : Typing) (a : Named) (b s : Sequence Named) (gs : List (ClosedClause Named)) (i h : Named) (t u : ℕ) →
    closed_in m (InCatch a b (closed_clause i u s ∷ gs) h t) ≡ sequences_closed m (InCatch a b gs i u) (normal m s) h.location no_sequences
closed_by_catch m a b s gs i h t u = ap (sequence (head (construct_type m a.op) (first_clause_at i.location gs)) (normal m b))
    (handlers_joined m a.op i.location gs no_sequences (sequence (head (handler_type m a.op (m.tag_parameters u)) h.location) (normal m s) no_sequences))

-- ---- the same with other items shown

pub mapped_after : {A B : Type 0} → (f : A → B) (gs : List (ClosedClause A)) (cs : Clauses A) → map_clauses f (after_closed gs cs) ≡ after_closed (map_closed f gs) (map_clauses f cs)
mapped_after f [] cs = refl
mapped_after f (g ∷ gs) cs = mapped_after f gs (Catches g.mark g.tag g.body cs)

pub mapped_in : {A B : Type 0} → (f : A → B) (p : OpenConstruct A) (s : Sequence A) (e : A) → map_sequence f (closed p s e) ≡ closed (map_open_construct f p) (map_sequence f s) (f e)
mapped_in f (InWrapper a w) s e = refl
mapped_in f (InThen a) s e = refl
mapped_in f (InElse a b l) s e = refl
mapped_in f (InTry a) s e = refl
mapped_in f (InCatch a b gs h t) s e = ap (λ cs. TryCatch (f a) (map_sequence f b) cs Empty) (mapped_after f gs (Catches h t s (Ended e)))
mapped_in f (InCatchAll a b gs h) s e = ap (λ cs. TryCatch (f a) (map_sequence f b) cs Empty) (mapped_after f gs (CatchesAll h s e))

pub clauses_mapped : {A B : Type 0} → (f : A → B) (gs : List (ClosedClause A)) (cs : List LegacyClause) → clauses_after (map_closed f gs) cs ≡ clauses_after gs cs
clauses_mapped f [] cs = refl
clauses_mapped f (g ∷ gs) cs = clauses_mapped f gs (handles g.tag ∷ cs)

pub same_opener : (p : OpenConstruct Occurrence) → instruction (name_at (opener_in p)) (clauses_in p) ≡ instruction (opener_in (map_open_construct name_at p)) (clauses_in (map_open_construct name_at p))
same_opener (InWrapper a w) = refl
same_opener (InThen a) = refl
same_opener (InElse a b l) = refl
same_opener (InTry a) = refl
same_opener (InCatch a b gs h t) = ap (instruction (name_at a)) (sym (clauses_mapped name_at gs (handles t ∷ [])))
same_opener (InCatchAll a b gs h) = ap (instruction (name_at a)) (sym (clauses_mapped name_at gs (handles_all ∷ [])))
