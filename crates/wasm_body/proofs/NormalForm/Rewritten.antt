-- Conditions on each operator of the rewritten tree.
use Rattle.std.proofs.Common.{◌≡◌, ℕ, List, [], ◌∷◌, Bool, true, false, refl, ap, ◌∙◌, subst}
use Rattle.std.specs.Prelude.{◌&&◌}
use Rattle.walrus_ir.specs.declared.val_type.InstrSeqType.{InstrSeqType}
use Rattle.walrus_ir.specs.Tree.{Items, Sequences, no_sequences, sequence}
use Rattle.walrus_ir.specs.Locations.{default_location}
use Rattle.wasm_operators.specs.Operations.{Immediate}
use Rattle.wasm_body.specs.Control.{Role, a_block, role_of, Action, Construct, Block, Loop, If, Try, TryTable, Control, Does, Opens, Else, Catch, CatchAll, End, Delegate, control_by, end_operation}
use Rattle.wasm_body.specs.SourceTree.{Sequence, Empty, Single, Wrapped, IfThen, IfElse, TryCatch, TryDelegate, Clauses, Ended, Catches, CatchesAll, Wrapper, OfBlock, OfLoop, OfTryTable, construct_of}
use Rattle.wasm_body.specs.Translation.{Located}
use Rattle.wasm_body.specs.Naming.{NamedOperation, block_types}
use Rattle.wasm_body.specs.FunctionTree.{Head, LegacyClause, Instruction, last_location}
use Rattle.wasm_body.specs.NormalForm.{Typing, Fate, Drops, Stays, MakesUnreachable, fate, legacy_clauses}
use Rattle.wasm_body.specs.RewrittenTree.{end_at, else_at, catch_at, catch_all_at, delegate_at, single_with_fate, is_empty_sequence, written_if, rewritten, rewritten_clauses}
use Rattle.wasm_body.specs.FlatText.{TextOperation, are_lawful, are_handlers, if_closers, try_closers, closers, written_in_if, written_inside}
use Rattle.wasm_body.specs.Typed.{IsOpener, IsTypedAs}
use Rattle.wasm_body.proofs.Structure.Along.{Each, EachIn, HasControl}

abbrev pub Named : Type 0
Named = Located NamedOperation

-- an operator of the source: its control is the one that the tree gives, and it is typed
abbrev pub Sourced : Typing → Named → Control → Type 0
Sourced m a c = HasControl a c × IsTypedAs m (role_of a.op.opcode) a.op

-- ---- nothing is written

pub emptied : (s : Sequence Named) → is_empty_sequence s ≡ true → s ≡ Empty
emptied Empty h = refl
emptied _ h = absurd (cc h)

pub second_holds : (t u : Bool) → (t && u) ≡ true → u ≡ true
second_holds true u h = h
second_holds false u h = absurd (cc h)

-- ---- Conditions on each of its operators: one that is not part of a construct and an opener are as they were; those that part
-- and close constructs are made anew.

module _ (balanced : NamedOperation → Bool) (P Q : Named → Control → Type 0)
    (kept : (a : Named) (action : Action) → P a (Does action) → Q a (Does action))
    (opened : (a : Named) (construct : Construct) → P a (Opens construct) → Q a (Opens construct))
    (ends : (l : ℕ) → Q (end_at l) End) (elses : (l : ℕ) → Q (else_at l) Else)
    (catches : (a : Named) (t l : ℕ) → P a (Catch t) → Q (catch_at t l) (Catch t)) (catches_all : (l : ℕ) → Q (catch_all_at l) CatchAll)
    (delegated : (e : Named) (n l : ℕ) → P e (Delegate n) → Q (delegate_at n l) (Delegate n)) where
  each_fate : (f : Fate) (a : Named) (action : Action) (r : Sequence Named) → P a (Does action) → Each Q r → Each Q (single_with_fate f a action r)
  each_fate Drops a action r h g = g
  each_fate Stays a action r h g = (kept a action h, g)
  each_fate MakesUnreachable a action r h g = (kept a action h, tt)

  each_if : (t : Bool) (a : Named) (b : Sequence Named) (l : ℕ) (c : Sequence Named) (m : ℕ) (r : Sequence Named)
      → Q a (Opens If) → Each Q b → Each Q c → Each Q r → Each Q (written_if t a b l c m r)
  each_if true a b l c m r h f g k = (h, f, ends (last_location l m), k)
  each_if false a b l c m r h f g k = (h, f, elses l, g, ends m, k)

  mutual
    pub each_rewritten : (s : Sequence Named) → Each P s → Each Q (rewritten balanced s)
    each_rewritten Empty h = tt
    each_rewritten (Single a action r) h = each_fate (fate action) a action (rewritten balanced r) h.0 (each_rewritten r h.1)
    each_rewritten (Wrapped a w b e r) h = (opened a (construct_of w) h.0, each_rewritten b h.1, ends e.location, each_rewritten r h.3)
    each_rewritten (IfThen a b e r) h =
        each_if (balanced a.op) a (rewritten balanced b) e.location Empty default_location (rewritten balanced r)
        (opened a If h.0) (each_rewritten b h.1) tt (each_rewritten r h.3)
    each_rewritten (IfElse a b l c e r) h =
        each_if (balanced a.op && is_empty_sequence (rewritten balanced c)) a (rewritten balanced b) l.location (rewritten balanced c) e.location (rewritten balanced r)
        (opened a If h.0) (each_rewritten b h.1) (each_rewritten c h.3) (each_rewritten r h.5)
    each_rewritten (TryCatch a b cs r) h = (opened a Try h.0, each_rewritten b h.1, each_clause cs h.2, each_rewritten r h.3)
    each_rewritten (TryDelegate a b e n r) h = (opened a Try h.0, each_rewritten b h.1, delegated e n default_location h.2, each_rewritten r h.3)

    each_clause : (cs : Clauses Named) → EachIn P cs → EachIn Q (rewritten_clauses balanced cs)
    each_clause (Ended e) h = ends e.location
    each_clause (Catches a t b cs) h = (catches a t a.location h.0, each_rewritten b h.1, each_clause cs h.2)
    each_clause (CatchesAll a b e) h = (catches_all a.location, each_rewritten b h.1, ends e.location)

-- ---- the operators of the rewritten tree are among those that are written if no `else` is left out

module _ (balanced : NamedOperation → Bool) (P : Named → Control → Type 0) (ends : (l : ℕ) → P (end_at l) End) where
  fewer_single : (f : Fate) (a : Named) (action : Action) (r s : Sequence Named) → (Each P r → Each P s)
      → Each P (single_with_fate f a action r) → Each P (single_with_fate f a action s)
  fewer_single Drops a action r s g h = g h
  fewer_single Stays a action r s g h = (h.0, g h.1)
  fewer_single MakesUnreachable a action r s g h = (h.0, tt)

  fewer_in_if : (t : Bool) (a : Named) (b : Sequence Named) (l : ℕ) (c : Sequence Named) (m : ℕ) (r : Sequence Named)
      → Each P (IfElse a b (else_at l) c (end_at m) r) → Each P (written_if t a b l c m r)
  fewer_in_if true a b l c m r h = (h.0, h.1, ends (last_location l m), h.5)
  fewer_in_if false a b l c m r h = h

  mutual
    pub each_fewer : (s : Sequence Named) → Each P (rewritten (λ o. false) s) → Each P (rewritten balanced s)
    each_fewer Empty h = tt
    each_fewer (Single a action r) h = fewer_single (fate action) a action (rewritten (λ o. false) r) (rewritten balanced r) (each_fewer r) h
    each_fewer (Wrapped a w b e r) h = (h.0, each_fewer b h.1, h.2, each_fewer r h.3)
    each_fewer (IfThen a b e r) h =
        fewer_in_if (balanced a.op) a (rewritten balanced b) e.location Empty default_location (rewritten balanced r)
        (h.0, each_fewer b h.1, h.2, tt, h.4, each_fewer r h.5)
    each_fewer (IfElse a b l c e r) h =
        fewer_in_if (balanced a.op && is_empty_sequence (rewritten balanced c)) a (rewritten balanced b) l.location (rewritten balanced c) e.location (rewritten balanced r)
        (h.0, each_fewer b h.1, h.2, each_fewer c h.3, h.4, each_fewer r h.5)
    each_fewer (TryCatch a b cs r) h = (h.0, each_fewer b h.1, clauses_fewer cs h.2, each_fewer r h.3)
    each_fewer (TryDelegate a b e n r) h = (h.0, each_fewer b h.1, h.2, each_fewer r h.3)

    clauses_fewer : (cs : Clauses Named) → EachIn P (rewritten_clauses (λ o. false) cs) → EachIn P (rewritten_clauses balanced cs)
    clauses_fewer (Ended e) h = h
    clauses_fewer (Catches a t b cs) h = (h.0, each_fewer b h.1, clauses_fewer cs h.2)
    clauses_fewer (CatchesAll a b e) h = (h.0, each_fewer b h.1, h.2)

-- ---- what depends on the role of an operator depends on its control

abbrev pub inside_by : (InstrSeqType → Bool) → Control → Sequences Head Instruction → Sequences Head Instruction
inside_by balanced (Opens If) ss = written_in_if balanced ss
inside_by balanced _ ss = ss

inside_of_role : {B : Type 0} → (balanced : InstrSeqType → Bool) (r : Role) (is : List (Immediate ℕ B)) (ss : Sequences Head Instruction)
    → written_inside balanced r ss ≡ inside_by balanced (control_by r is) ss
inside_of_role balanced a_block is ss = refl
inside_of_role balanced _ is ss = refl

pub inside_controls : (balanced : InstrSeqType → Bool) (a : Named) (c : Control) → HasControl a c → (ss : Sequences Head Instruction)
    → written_inside balanced (role_of a.op.opcode) ss ≡ inside_by balanced c ss
inside_controls balanced a c h ss =
    inside_of_role balanced (role_of a.op.opcode) a.op.immediates ss ∙ ap (λ d. inside_by balanced d ss) h

abbrev pub closers_by : {S I : Type 0} → Control → List LegacyClause → Sequences S I → List TextOperation
closers_by (Opens Block) cs ss = end_operation ∷ []
closers_by (Opens Loop) cs ss = end_operation ∷ []
closers_by (Opens (TryTable ts)) cs ss = end_operation ∷ []
closers_by (Opens If) cs ss = if_closers ss
closers_by (Opens Try) cs ss = try_closers cs
closers_by _ cs ss = []

closers_of_role : {B S I : Type 0} → (r : Role) (is : List (Immediate ℕ B)) (cs : List LegacyClause) (ss : Sequences S I)
    → closers r cs ss ≡ closers_by (control_by r is) cs ss
closers_of_role a_block is cs ss = refl
closers_of_role _ is cs ss = refl

pub closers_control : {S I : Type 0} → (a : Named) (c : Control) → HasControl a c → (cs : List LegacyClause) (ss : Sequences S I)
    → closers (role_of a.op.opcode) cs ss ≡ closers_by c cs ss
closers_control a c h cs ss = closers_of_role (role_of a.op.opcode) a.op.immediates cs ss ∙ ap (λ d. closers_by d cs ss) h

pub wrapper_closers : (w : Wrapper) (t : Head) (is : Items Head Instruction)
    → closers_by (Opens (construct_of w)) [] (sequence t is no_sequences) ≡ end_operation ∷ []
wrapper_closers OfBlock t is = refl
wrapper_closers OfLoop t is = refl
wrapper_closers (OfTryTable cs) t is = refl

pub wrapper_inside : (balanced : InstrSeqType → Bool) (w : Wrapper) (ss : Sequences Head Instruction)
    → inside_by balanced (Opens (construct_of w)) ss ≡ ss
wrapper_inside balanced OfBlock ss = refl
wrapper_inside balanced OfLoop ss = refl
wrapper_inside balanced (OfTryTable cs) ss = refl

abbrev pub IsTypedBy : Typing → Control → NamedOperation → Type 0
IsTypedBy m (Opens construct) o = IsOpener m o
IsTypedBy m _ o = block_types o.immediates ≡ []

typed_of_role : {B : Type 0} → (m : Typing) (r : Role) (is : List (Immediate ℕ B)) (o : NamedOperation) → IsTypedAs m r o
    → IsTypedBy m (control_by r is) o
typed_of_role m a_block is o h = h
typed_of_role m _ is o h = h

pub typed_control : (m : Typing) (a : Named) (c : Control) → Sourced m a c → IsTypedBy m c a.op
typed_control m a c h = subst (λ d. IsTypedBy m d a.op) h.0 (typed_of_role m (role_of a.op.opcode) a.op.immediates a.op h.1)

-- ---- the clauses of a `try` are lawful

pub handlers_lawful : {A : Type 0} → (cs : Clauses A) → are_handlers (legacy_clauses cs) ≡ true
handlers_lawful (Ended e) = refl
handlers_lawful (Catches a t b cs) = handlers_lawful cs
handlers_lawful (CatchesAll a b e) = refl

pub clauses_lawful : {A : Type 0} → (cs : Clauses A) → are_lawful (legacy_clauses cs) ≡ true
clauses_lawful (Ended e) = refl
clauses_lawful (Catches a t b cs) = handlers_lawful cs
clauses_lawful (CatchesAll a b e) = refl
