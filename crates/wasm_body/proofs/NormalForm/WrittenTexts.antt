-- The text of a normal form in any way of writing: each operator of the rewritten body, written by itself.
use Rattle.std.proofs.Common.{◌≡◌, ℕ, List, [], ◌∷◌, map, Bool, Option, Some, None, Result, Ok, Err, true, false, refl, sym, ap, ◌∙◌}
use Rattle.std.specs.Prelude.{◌++◌, ◌^◌, ◌&&◌, if◌then◌else◌}
use Rattle.std.specs.List.{AllByRecursion, flat_map}
use Rattle.walrus_ir.specs.declared.val_type.InstrSeqType.{InstrSeqType}
use Rattle.walrus_ir.specs.declared.val_type.InstrSeqType.TheVariants.{Simple}
use Rattle.wasm_types.specs.declared.val_type.HeapType.{HeapType}
use Rattle.wasm_types.specs.declared.val_type.HeapType.TheVariants.{Abstract, Concrete}
use Rattle.wasm_types.specs.declared.val_type.ValType.{ValType}
use Rattle.wasm_types.specs.declared.val_type.ValType.TheVariants.{I32, I64, F32, F64, V128, Ref}
use Rattle.walrus_ir.specs.Types.{Signature}
use Rattle.walrus_ir.specs.Tree.{Items, no_items, item, Sequences, no_sequences, sequence}
use Rattle.wasm_operators.specs.Operations.{Immediate, index, local, label, handler, outer, number, access, branch_table, clauses, block, heap, value, cast, i32, i64, f32, f64, v128, lane, lanes, zero_byte, CatchClause, Cast, Operation, operation, RawOperation}
use Rattle.wasm_operators.specs.declared.types.BlockType.{BlockType}
use Rattle.wasm_operators.specs.Shortest.{short}
use Rattle.wasm_body.specs.declared.error.EmitError.{EmitError}
use Rattle.wasm_body.specs.declared.error.EmitError.TheVariants.{BadClauses}
use Rattle.wasm_numbers.specs.Results.{◌>>=◌, gather, each}
use Rattle.walrus_ir.specs.Locations.{default_location}
use Rattle.wasm_body.specs.Control.{Action, If, Try, role_of, Control, Does, Opens, Else, Catch, CatchAll, End, Delegate, Marked, with_control, end_operation}
use Rattle.wasm_body.specs.SourceTree.{Sequence, Empty, Single, Wrapped, IfThen, IfElse, TryCatch, TryDelegate, Clauses, Ended, Catches, CatchesAll, Wrapper, construct_of, text, clauses_text, Body, body_text}
use Rattle.wasm_body.specs.Translation.{Translation, relabelled, translate, translate_immediate, translate_immediates, translate_clause, translate_heap, translate_value, translate_tag, translate_cast, Located, at_location}
use Rattle.wasm_body.specs.Naming.{NamedOperation, block_types}
use Rattle.wasm_body.specs.FunctionTree.{Target, Depth, Head, LegacyClause, delegates, Instruction, last_location}
use Rattle.wasm_body.specs.NormalForm.{Typing, kept, Fate, Drops, Stays, MakesUnreachable, fate, instruction, with_fate, head, construct_type, handler_type, legacy_clauses, closed_at, normal, handler_sequences, normal_form, kept_operation}
use Rattle.wasm_body.specs.FlatText.{Writing, TextTranslation, are_lawful, try_closers, closers, has_none, one_or_both, written_items, written_sequences, written, with_block_type, opener_text, first_type, sequences_text, tree_text, to_ids, with_ids, then_by, items_text as items_text}
use Rattle.wasm_body.specs.Bytes.{Numbers, numbering, writing_numbers, numbered_text, bytes_of, tree_bytes}
use Rattle.wasm_body.proofs.NormalForm.Exponents.{exponent_of-pow}
use Rattle.wasm_body.proofs.Structure.Along.{Each, EachIn, HasControl}
use Rattle.wasm_body.proofs.Translation.Steps.{Leads, after_one, after_two, all_of, each-ok, ok-infallible, bound}
use Rattle.wasm_body.proofs.Translation.Translations.{LeadAll, lead_all, translate_leads}
use Rattle.wasm_body.specs.RewrittenTree.{end_at, else_at, catch_at, catch_all_at, delegate_at, single_with_fate, is_empty_sequence, written_if, rewritten, rewritten_clauses, rewritten_body_by}
use Rattle.wasm_body.proofs.NormalForm.Rewritten.{Named, closers_by, closers_control, inside_by, inside_controls, wrapper_closers, wrapper_inside, clauses_lawful}

-- ---- the text of a named operator in the tree

module _ {M C : Type 0} (w : TextTranslation M C) where
  -- in a sequence of the type
  abbrev pub named_by : InstrSeqType → Translation ℕ Signature M C EmitError
  named_by t = relabelled w (λ n. w.label (Depth n)) (λ s. w.block t) (λ e. w.alignment (2 ^ e))

  kept_number : (f : ℕ → Result ℕ EmitError) (n q : ℕ) → (let s : Result ℕ ⊥ = Ok n in s) ≡ Ok q → f q ≡ f n
  kept_number f n q e = let same : n ≡ q = cc e in ap f (sym same)

  kept_label : (n : ℕ) (q : Target) → (let s : Result Target ⊥ = Ok (Depth n) in s) ≡ Ok q → w.label q ≡ w.label (Depth n)
  kept_label n q e = let same : Depth n ≡ q = cc e in ap w.label (sym same)

  kept_lead : (t : InstrSeqType) → LeadAll kept (with_block_type w t) (named_by t)
  kept_lead t = record {
    indices = λ space n. kept_number (w.index space) n;
    locals = kept_number w.local;
    labels = kept_label;
    handlers = kept_number w.handler;
    outers = kept_number w.outer;
    numbers = kept_number w.number;
    alignments = λ e. refl;
    counts = λ n u e. refl;
  }

  pub named_written : (t : InstrSeqType) (o : NamedOperation) → translate (with_block_type w t) (kept_operation o) ≡ translate (named_by t) o
  named_written t o =
      after_one (translate_immediates (with_block_type w t) (kept_operation o).immediates) (translate_immediates (named_by t) o.immediates)
      (λ is. Ok (record { opcode = o.opcode; immediates = is }))
      (translate_leads kept (with_block_type w t) (named_by t) o.immediates
      (lead_all kept (with_block_type w t) (named_by t) (kept_lead t) o.immediates (all_of (Leads kept.block (with_block_type w t).block (named_by t).block) (λ b c h. refl) (block_types o.immediates)))
      (kept_operation o).immediates (ok-infallible (translate_immediates kept o.immediates)))

-- the type that an operator is written with
abbrev pub type_at : Typing → Control → NamedOperation → InstrSeqType
type_at m (Opens construct) o = construct_type m o
type_at m _ o = Simple None

and_true : (t : Bool) → (t && true) ≡ t
and_true true = refl
and_true false = refl

module _ {M C : Type 0} (w : TextTranslation M C) (m : Typing) where
  abbrev WrittenResult : Type 0
  WrittenResult = Result (Located (Operation M C)) EmitError

  abbrev pub result_at : InstrSeqType → Named → WrittenResult
  result_at t a = translate (named_by w t) a.op >>= λ x. Ok (at_location x a.location)

  abbrev pub written_result : Marked Named → WrittenResult
  written_result x = result_at (type_at m x.control x.shown.op) x.shown

  opened_by : (a : Named) (cs : List LegacyClause) (t : InstrSeqType) → are_lawful cs ≡ true → opener_text w (instruction a cs) t ≡ result_at t a
  opened_by a cs t h =
      ap (λ b. if b then (translate (with_block_type w t) (kept_operation a.op) >>= λ x. Ok (at_location x a.location)) else Err BadClauses) h
      ∙ after_one (translate (with_block_type w t) (kept_operation a.op)) (translate (named_by w t) a.op) (λ x. Ok (at_location x a.location)) (named_written w t a.op)

  -- the text of an opener
  abbrev first_of : Named → WrittenResult
  first_of a = result_at (construct_type m a.op) a

  -- if these types are balanced
  module _ (balanced : InstrSeqType → Bool) where
    abbrev balances_for : NamedOperation → Bool
    balances_for o = balanced (construct_type m o)

    abbrev shortened : Items Head Instruction → Items Head Instruction
    shortened is = written_items balanced is

    abbrev flat : Items Head Instruction → List WrittenResult → List WrittenResult
    flat is k = items_text w (shortened is) k

    abbrev anew : Sequence Named → Sequence Named
    anew s = rewritten balances_for s

    -- an instruction, and the sequences in it that are written
    abbrev item_text : Named → List LegacyClause → Control → Sequences Head Instruction → List WrittenResult → List WrittenResult
    item_text a cs c ss l = result_at (first_type ss) a ∷ sequences_text w (closers_by c cs ss) ss l

    item_at : (a : Named) (cs : List LegacyClause) (c : Control) (ss : Sequences Head Instruction) (l : List WrittenResult) → are_lawful cs ≡ true → HasControl a c
        → opener_text w (instruction a cs) (first_type ss) ∷ sequences_text w (closers (role_of a.op.opcode) cs ss) ss l ≡ item_text a cs c ss l
    item_at a cs c ss l lawful h =
        ap (λ d. opener_text w (instruction a cs) (first_type ss) ∷ sequences_text w d ss l) (closers_control a c h cs ss)
        ∙ ap (λ x. x ∷ sequences_text w (closers_by c cs ss) ss l) (opened_by a cs (first_type ss) lawful)

    item_by : (a : Named) (cs : List LegacyClause) (c : Control) (ss : Sequences Head Instruction) (r : Items Head Instruction) (k : List WrittenResult) → are_lawful cs ≡ true → HasControl a c
        → flat (item (instruction a cs) ss r) k ≡ item_text a cs c (inside_by balanced c (written_sequences balanced ss)) (flat r k)
    item_by a cs c ss r k lawful h =
        ap (λ ts. opener_text w (instruction a cs) (first_type ts) ∷ sequences_text w (closers (role_of a.op.opcode) cs ts) ts (flat r k))
        (inside_controls balanced a c h (written_sequences balanced ss))
        ∙ item_at a cs c (inside_by balanced c (written_sequences balanced ss)) (flat r k) lawful h

    fate_by : (f : Fate) (a : Named) (action : Action) (n : Items Head Instruction) (r : Sequence Named) (k : List (Marked Named)) → HasControl a (Does action) →
        flat n (map written_result k) ≡ map written_result (text r k) → flat (with_fate f (instruction a []) n) (map written_result k) ≡ map written_result (text (single_with_fate f a action r) k)
    fate_by Drops a action n r k h e = e
    fate_by Stays a action n r k h e = item_by a [] (Does action) no_sequences n (map written_result k) refl h ∙ ap (λ l. result_at (Simple None) a ∷ l) e
    fate_by MakesUnreachable a action n r k h e = item_by a [] (Does action) no_sequences no_items (map written_result k) refl h

    wrapped_by : (v : Wrapper) (a : Named) (h : Head) (is : Items Head Instruction) (l : List WrittenResult)
        → item_text a [] (Opens (construct_of v)) (inside_by balanced (Opens (construct_of v)) (sequence h is no_sequences)) l
        ≡ result_at h.type a ∷ items_text w is (written w end_operation h.end_location ∷ l)
    wrapped_by v a h is l =
        ap (λ ss. item_text a [] (Opens (construct_of v)) ss l) (wrapper_inside balanced v (sequence h is no_sequences))
        ∙ ap (λ cs. result_at h.type a ∷ sequences_text w cs (sequence h is no_sequences) l) (wrapper_closers v h is)

    -- an `if`, with or without an `else`
    if_by : (t : Bool) (a : Named) (b : Sequence Named) (l : ℕ) (c : Sequence Named) (n : ℕ) (r : Sequence Named) (k : List (Marked Named)) (is js : Items Head Instruction) →
        ((k : List (Marked Named)) → items_text w is (map written_result k) ≡ map written_result (text b k)) →
        ((k : List (Marked Named)) → items_text w js (map written_result k) ≡ map written_result (text c k)) →
        item_text a [] (Opens If) (one_or_both t (head (construct_type m a.op) l) is (head (construct_type m a.op) n) js no_sequences) (map written_result (text r k))
        ≡ map written_result (text (written_if t a b l c n r) k)
    if_by true a b l c n r k is js body other = ap (λ x. first_of a ∷ x) (body (with_control (end_at (last_location l n)) End ∷ text r k))
    if_by false a b l c n r k is js body other =
        let following = with_control (end_at n) End ∷ text r k in
        ap (λ x. first_of a ∷ items_text w is (written_result (with_control (else_at l) Else) ∷ x)) (other following)
        ∙ ap (λ x. first_of a ∷ x) (body (with_control (else_at l) Else ∷ text c following))

    -- an alternative without instructions is one for which nothing is written
    none_of_fate : (f : Fate) (a : Named) (action : Action) (n : Items Head Instruction) (r : Sequence Named)
        → has_none (shortened n) ≡ is_empty_sequence r → has_none (shortened (with_fate f (instruction a []) n)) ≡ is_empty_sequence (single_with_fate f a action r)
    none_of_fate Drops a action n r h = h
    none_of_fate Stays a action n r h = refl
    none_of_fate MakesUnreachable a action n r h = refl

    none_of_if : (t : Bool) (a : Named) (b : Sequence Named) (l : ℕ) (c : Sequence Named) (n : ℕ) (r : Sequence Named) → false ≡ is_empty_sequence (written_if t a b l c n r)
    none_of_if true a b l c n r = refl
    none_of_if false a b l c n r = refl

    none_by : (s : Sequence Named) → has_none (shortened (normal m s)) ≡ is_empty_sequence (anew s)
    none_by Empty = refl
    none_by (Single a action r) = none_of_fate (fate action) a action (normal m r) (anew r) (none_by r)
    none_by (Wrapped a v b e r) = refl
    none_by (IfThen a b e r) = none_of_if (balances_for a.op) a (anew b) e.location Empty default_location (anew r)
    none_by (IfElse a b l c e r) = none_of_if (balances_for a.op && is_empty_sequence (anew c)) a (anew b) l.location (anew c) e.location (anew r)
    none_by (TryCatch a b cs r) = refl
    none_by (TryDelegate a b e n r) = refl

    mutual
      pub text_by : (s : Sequence Named) (k : List (Marked Named)) → Each HasControl s → flat (normal m s) (map written_result k) ≡ map written_result (text (anew s) k)
      text_by Empty k h = refl
      text_by (Single a action r) k h = fate_by (fate action) a action (normal m r) (anew r) k h.0 (text_by r k h.1)
      text_by (Wrapped a v b e r) k h =
          let first = head (construct_type m a.op) e.location in
          item_by a [] (Opens (construct_of v)) (sequence first (normal m b) no_sequences) (normal m r) (map written_result k) refl h.0
          ∙ (wrapped_by v a first (shortened (normal m b)) (flat (normal m r) (map written_result k))
          ∙ (ap (λ l. first_of a ∷ flat (normal m b) (written_result (with_control (end_at e.location) End) ∷ l)) (text_by r k h.3)
          ∙ ap (λ l. first_of a ∷ l) (text_by b (with_control (end_at e.location) End ∷ text (anew r) k) h.1)))
      text_by (IfThen a b e r) k h =
          let first = head (construct_type m a.op) e.location in
          let added = head (construct_type m a.op) default_location in
          let inside = λ (t : Bool). one_or_both t first (shortened (normal m b)) added no_items no_sequences in
          item_by a [] (Opens If) (sequence first (normal m b) (sequence added no_items no_sequences)) (normal m r) (map written_result k) refl h.0
          ∙ (ap (λ l. item_text a [] (Opens If) (inside (balances_for a.op && true)) l) (text_by r k h.3)
          ∙ (ap (λ t. item_text a [] (Opens If) (inside t) (map written_result (text (anew r) k))) (and_true (balances_for a.op))
          ∙ if_by (balances_for a.op) a (anew b) e.location Empty default_location (anew r) k (shortened (normal m b)) no_items (λ l. text_by b l h.1) (λ l. refl)))
      text_by (IfElse a b l c e r) k h =
          let first = head (construct_type m a.op) l.location in
          let second = head (construct_type m a.op) e.location in
          let inside = λ (t : Bool). one_or_both (balances_for a.op && t) first (shortened (normal m b)) second (shortened (normal m c)) no_sequences in
          item_by a [] (Opens If) (sequence first (normal m b) (sequence second (normal m c) no_sequences)) (normal m r) (map written_result k) refl h.0
          ∙ (ap (λ x. item_text a [] (Opens If) (inside (has_none (shortened (normal m c)))) x) (text_by r k h.5)
          ∙ (ap (λ t. item_text a [] (Opens If) (inside t) (map written_result (text (anew r) k))) (none_by c)
          ∙ if_by (balances_for a.op && is_empty_sequence (anew c)) a (anew b) l.location (anew c) e.location (anew r) k (shortened (normal m b)) (shortened (normal m c))
          (λ x. text_by b x h.1) (λ x. text_by c x h.3)))
      text_by (TryCatch a b cs r) k h =
          let first = head (construct_type m a.op) (closed_at cs) in
          item_by a (legacy_clauses cs) (Opens Try) (sequence first (normal m b) (handler_sequences m a.op cs)) (normal m r) (map written_result k) (clauses_lawful cs) h.0
          ∙ (ap (λ x. first_of a ∷ sequences_text w (try_closers (legacy_clauses cs)) (sequence first (shortened (normal m b)) (written_sequences balanced (handler_sequences m a.op cs))) x) (text_by r k h.3)
          ∙ ap (λ x. first_of a ∷ x) (clauses_by a.op (construct_type m a.op) b (λ l. text_by b l h.1) cs (text (anew r) k) h.2))
      text_by (TryDelegate a b e n r) k h =
          item_by a (delegates n ∷ []) (Opens Try) (sequence (head (construct_type m a.op) default_location) (normal m b) no_sequences) (normal m r) (map written_result k) refl h.0
          ∙ (ap (λ l. first_of a ∷ flat (normal m b) (written_result (with_control (delegate_at n default_location) (Delegate n)) ∷ l)) (text_by r k h.3)
          ∙ ap (λ l. first_of a ∷ l) (text_by b (with_control (delegate_at n default_location) (Delegate n) ∷ text (anew r) k) h.1))

      clauses_by : (o : NamedOperation) (t : InstrSeqType) (b : Sequence Named) →
          ((k : List (Marked Named)) → flat (normal m b) (map written_result k) ≡ map written_result (text (anew b) k)) →
          (cs : Clauses Named) (k : List (Marked Named)) → EachIn HasControl cs →
          sequences_text w (try_closers (legacy_clauses cs)) (sequence (head t (closed_at cs)) (shortened (normal m b)) (written_sequences balanced (handler_sequences m o cs))) (map written_result k)
          ≡ map written_result (text (anew b) (clauses_text (rewritten_clauses balances_for cs) k))
      clauses_by o t b body (Ended e) k g = body (with_control (end_at e.location) End ∷ k)
      clauses_by o t b body (Catches a tag c cs) k g =
          let type = handler_type m o (m.tag_parameters tag) in
          ap (λ x. flat (normal m b) (written_result (with_control (catch_at tag a.location) (Catch tag)) ∷ x)) (clauses_by o type c (λ l. text_by c l g.1) cs k g.2)
          ∙ body (with_control (catch_at tag a.location) (Catch tag) ∷ text (anew c) (clauses_text (rewritten_clauses balances_for cs) k))
      clauses_by o t b body (CatchesAll a c e) k g =
          ap (λ x. flat (normal m b) (written_result (with_control (catch_all_at a.location) CatchAll) ∷ x)) (text_by c (with_control (end_at e.location) End ∷ k) g.1)
          ∙ body (with_control (catch_all_at a.location) CatchAll ∷ text (anew c) (with_control (end_at e.location) End ∷ k))

-- the body whose operators are written for another
abbrev pub anew_by : (InstrSeqType → Bool) → Typing → Body Named → Body Named
anew_by balanced m b = rewritten_body_by (λ o. balanced (construct_type m o)) b

-- the text of the normal form
pub tree_text_by : {M C : Type 0} (w : Writing M C) (m : Typing) (b : Body Named) → Each HasControl b.sequence
    → tree_text w (normal_form m b) ≡ gather (map (written_result w.translation m) (body_text (anew_by w.balanced m b)))
tree_text_by w m b h = ap gather (text_by w.translation m w.balanced b.sequence (with_control (end_at b.close.location) End ∷ []) h)

-- ---- written with ids, an operator has the type in the place of its block type

abbrev pub with_type : InstrSeqType → Immediate ℕ Signature → Immediate ℕ InstrSeqType
with_type t (block s) = block t
with_type t (index space n) = index space n
with_type t (local n) = local n
with_type t (label l) = label l
with_type t (handler n) = handler n
with_type t (outer n) = outer n
with_type t (number n) = number n
with_type t (access a) = access a
with_type t (branch_table ts d) = branch_table ts d
with_type t (clauses cs) = clauses cs
with_type t (heap h) = heap h
with_type t (value v) = value v
with_type t (cast c) = cast c
with_type t (i32 z) = i32 z
with_type t (i64 z) = i64 z
with_type t (f32 bits) = f32 bits
with_type t (f64 bits) = f64 bits
with_type t (v128 bits) = v128 bits
with_type t (lane n) = lane n
with_type t (lanes ns) = lanes ns
with_type t zero_byte = zero_byte

ids_heap : (h : HeapType ℕ) → translate_heap to_ids.index h ≡ Ok h
ids_heap (Abstract a) = refl
ids_heap (Concrete n) = refl

ids_value : (v : ValType ℕ) → translate_value to_ids.index v ≡ Ok v
ids_value (Ref r) = after_one (translate_heap to_ids.index r.heap_type) (Ok r.heap_type) (λ h. Ok (Ref (record { nullable = r.nullable; heap_type = h }))) (ids_heap r.heap_type)
ids_value I32 = refl
ids_value I64 = refl
ids_value F32 = refl
ids_value F64 = refl
ids_value V128 = refl

ids_tag : (t : Option ℕ) → translate_tag to_ids.index t ≡ Ok t
ids_tag None = refl
ids_tag (Some n) = refl

ids_clause : (t : InstrSeqType) (c : CatchClause ℕ) → translate_clause (named_by to_ids t) c ≡ Ok c
ids_clause t c =
    after_one (translate_tag to_ids.index c.tag) (Ok c.tag)
    (λ g. Ok (record { by_reference = c.by_reference; tag = g; label = c.label })) (ids_tag c.tag)

ids_cast : (t : InstrSeqType) (c : Cast ℕ) → translate_cast (named_by to_ids t) c ≡ Ok c
ids_cast t c =
    after_two (translate_heap to_ids.index c.source) (Ok c.source) (translate_heap to_ids.index c.target) (Ok c.target)
    (λ s g. Ok (record { from_nullable = c.from_nullable; to_nullable = c.to_nullable; label = c.label; source = s; target = g }))
    (ids_heap c.source) (ids_heap c.target)

ids_written : (t : InstrSeqType) (i : Immediate ℕ Signature) → translate_immediate (named_by to_ids t) i ≡ Ok (with_type t i)
ids_written t (access a) = ap (λ e. Ok (access (record { alignment = e; memory = a.memory; offset = a.offset }))) (exponent_of-pow a.alignment)
ids_written t (branch_table ts d) = after_one (each (named_by to_ids t).label ts) (Ok ts) (λ us. Ok (branch_table us d)) (each-ok (named_by to_ids t).label (λ l. refl) ts)
ids_written t (clauses cs) = after_one (each (translate_clause (named_by to_ids t)) cs) (Ok cs) (λ ds. Ok (clauses ds)) (each-ok (translate_clause (named_by to_ids t)) (ids_clause t) cs)
ids_written t (heap h) = after_one (translate_heap to_ids.index h) (Ok h) (λ g. Ok (heap g)) (ids_heap h)
ids_written t (value v) = after_one (translate_value to_ids.index v) (Ok v) (λ u. Ok (value u)) (ids_value v)
ids_written t (cast c) = after_one (translate_cast (named_by to_ids t) c) (Ok c) (λ d. Ok (cast d)) (ids_cast t c)
ids_written t _ = refl

each_ids : (t : InstrSeqType) (is : List (Immediate ℕ Signature)) → translate_immediates (named_by to_ids t) is ≡ Ok (map (with_type t) is)
each_ids t [] = refl
each_ids t (i ∷ is) =
    after_two (translate_immediate (named_by to_ids t) i) (Ok (with_type t i)) (translate_immediates (named_by to_ids t) is) (Ok (map (with_type t) is))
    (λ j js. Ok (j ∷ js)) (ids_written t i) (each_ids t is)

module _ (m : Typing) where
  -- an operator of the rewritten body, with ids
  abbrev pub ids_at : Marked Named → Located (Operation ℕ InstrSeqType)
  ids_at x = at_location (operation x.shown.op.opcode (map (with_type (type_at m x.control x.shown.op)) x.shown.op.immediates)) x.shown.location

  result_ids : (x : Marked Named) → written_result to_ids m x ≡ Ok (ids_at x)
  result_ids x =
      let t = type_at m x.control x.shown.op in
      ap (λ (r : Result (List (Immediate ℕ InstrSeqType)) EmitError).
      (r >>= λ is. Ok (operation {L = ℕ} {B = InstrSeqType} x.shown.op.opcode is)) >>= λ o. Ok (at_location o x.shown.location))
      (each_ids t x.shown.op.immediates)

  gathered_ids : (xs : List (Marked Named)) → gather (map (written_result to_ids m) xs) ≡ Ok (map ids_at xs)
  gathered_ids [] = refl
  gathered_ids (x ∷ xs) =
      after_two (written_result to_ids m x) (Ok (ids_at x)) (gather (map (written_result to_ids m) xs)) (Ok (map ids_at xs)) (λ y ys. Ok (y ∷ ys))
      (result_ids x) (gathered_ids xs)

  pub ids_text : (b : Body Named) → Each HasControl b.sequence → tree_text with_ids (normal_form m b) ≡ Ok (map ids_at (body_text (anew_by with_ids.balanced m b)))
  ids_text b h = tree_text_by with_ids m b h ∙ gathered_ids (body_text (anew_by with_ids.balanced m b))

-- ---- written with numbers, an operator has an encoding

abbrev op_or : Result RawOperation EmitError → RawOperation
op_or (Ok o) = o
op_or (Err e) = end_operation

module _ (to : Numbers) (m : Typing) where
  abbrev pub numbering_at : Marked Named → Translation ℕ Signature ℕ BlockType EmitError
  numbering_at x = named_by (then_by (numbering to)) (type_at m x.control x.shown.op)

  -- the encoded form of an operator of the rewritten body
  abbrev pub spelt_as : Marked Named → RawOperation
  spelt_as x = op_or (translate (numbering_at x) x.shown.op)

  abbrev pub IsNumbered : Marked Named → Type 0
  IsNumbered x = translate (numbering_at x) x.shown.op ≡ Ok (spelt_as x)

  abbrev pub bytes_as : List (Marked Named) → List ℕ
  bytes_as xs = flat_map (λ x. short (spelt_as x)) xs

  op_found : (r : Result RawOperation EmitError) (o : RawOperation) → r ≡ Ok o → (r ≡ Ok (op_or r)) × (op_or r ≡ o)
  op_found (Ok p) o e = (refl, cc)
  op_found (Err f) o e = absurd cc

  numbered_by : (xs : List (Marked Named)) (zs : List (Located RawOperation)) → gather (map (written_result (then_by (numbering to)) m) xs) ≡ Ok zs → AllByRecursion IsNumbered xs × (bytes_of zs ≡ bytes_as xs)
  numbered_by [] zs e = let same : [] ≡ zs = cc e in (tt, ap bytes_of (sym same))
  numbered_by (x ∷ xs) zs e =
      let others = gather (map (written_result (then_by (numbering to)) m) xs) in
      let first = bound (written_result (then_by (numbering to)) m x) (λ y. others >>= λ ys. Ok (y ∷ ys)) zs e in
      let rest = bound others (λ ys. Ok (first.0 ∷ ys)) zs first.2 in
      let made = bound (translate (numbering_at x) x.shown.op) (λ o. Ok (at_location o x.shown.location)) first.0 first.1 in
      let is : at_location made.0 x.shown.location ≡ first.0 = cc made.2 in
      let whole : first.0 ∷ rest.0 ≡ zs = cc rest.2 in
      let found = op_found (translate (numbering_at x) x.shown.op) made.0 made.1 in
      let more = numbered_by xs rest.0 rest.1 in (
        (found.0, more.0),
        ap bytes_of (sym whole)
            ∙ (ap (λ (z : Located RawOperation). short z.op ++ bytes_of rest.0) (sym is)
            ∙ (ap (λ o. short o ++ bytes_of rest.0) (sym found.1) ∙ ap (λ l. short (spelt_as x) ++ l) more.1)),
      )

  pub numbered_bytes : (b : Body Named) (bytes : List ℕ) → Each HasControl b.sequence → tree_bytes to (normal_form m b) ≡ Ok bytes →
      AllByRecursion IsNumbered (body_text (anew_by to.balanced m b)) × (bytes ≡ bytes_as (body_text (anew_by to.balanced m b)))
  numbered_bytes b bytes h e =
      let sequences_text = bound (numbered_text to (normal_form m b)) (λ xs. Ok (bytes_of xs)) bytes e in
      let is : bytes_of sequences_text.0 ≡ bytes = cc sequences_text.2 in
      let all = numbered_by (body_text (anew_by to.balanced m b)) sequences_text.0 (sym (tree_text_by (writing_numbers to) m b h) ∙ sequences_text.1) in
      (all.0, sym is ∙ all.1)
