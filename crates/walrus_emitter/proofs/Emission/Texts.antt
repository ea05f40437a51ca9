-- After the events of a tree, its text is written.
use Rattle.std.specs.Prelude.{◌≡◌, ℕ, ◌+◌, ◌==◌, ◌&&◌, length, List, [], ◌∷◌, ◌++◌, map, slice_get, Option, None, Some, Bool, true, false, if◌then◌else◌, Result, Ok, Err}
use Rattle.std.proofs.Common.{refl, sym, ap, subst, ◌∙◌, append_assoc, add-zero, arith}
use Rattle.std.proofs.lemmas.List.{append-nil, length-append}
use Rattle.wasm_operators.specs.Shortest.{short}
use Rattle.walrus_ir.specs.declared.seq.InstrSeq.{InstrSeq}
use Rattle.walrus_ir.specs.declared.val_type.InstrSeqType.{InstrSeqType}
use Rattle.walrus_ir.specs.declared.control.IfElse.{IfElse}
use Rattle.walrus_ir.specs.declared.instr.Instr.{Instr}
use Rattle.walrus_ir.specs.declared.instr.Instr.TheVariants as instr
use Rattle.walrus_ir.specs.declared.control.LegacyCatch.{LegacyCatch}
use Rattle.walrus_ir.specs.declared.control.LegacyCatch.TheVariants.{Catch, CatchAll, Delegate}
use Rattle.walrus_ir.specs.Tree.{Items, no_items, item, Sequences, no_sequences, sequence, Tree, alone}
use Rattle.walrus_ir.specs.Unfolding.{SequenceAt, LocatedInstr, handlers, slots_in, AreTreeItems, are_no_items, are_items, AreSequences, are_no_sequences, are_sequences}
use Rattle.walrus_ir.specs.Events.{WalkEvent, events, EndSequence, names, item_events, sequence_events}
use Rattle.wasm_operators.specs.declared.types.BlockType.{BlockType}
use Rattle.wasm_operators.specs.Operations.{RawOperation}
use Rattle.wasm_body.specs.declared.error.EmitError.{EmitError}
use Rattle.wasm_body.specs.declared.error.EmitError.TheVariants.{UnknownSequence, BadClauses}
use Rattle.wasm_numbers.specs.Results.{◌>>=◌, some_or, gather}
use Rattle.wasm_body.specs.Control.{Role, an_if, role_of, end_operation, else_operation}
use Rattle.wasm_body.specs.Translation.{Located, at_location}
use Rattle.wasm_body.specs.InstructionTable.{operation_of, legacy_clause, clauses_of_try}
use Rattle.wasm_body.specs.FunctionTree.{Head, Instruction, last_location}
use Rattle.wasm_body.specs.TreeOfFunction.{tree_of, head_of, instruction_in, items_in, sequences_in}
use Rattle.wasm_body.specs.FlatText.{TextOperation, TextTranslation, then_by, closers, if_closers, try_closers, are_handlers, are_lawful, has_none, one_or_both, written_in_if, written_inside, written_items, written_sequences, first_type, opener_text, written, items_text, sequences_text}
use Rattle.wasm_body.specs.Bytes.{Numbers, numbering, bytes_of, numbered_text}
use Rattle.wasm_body.specs.Pairs.{pairs_from}
use Rattle.walrus_emit_state.specs.Emission.{Scope, scopes_at, if_scopes, is_short, scopes_inside, first_type_at, Output, Emitter, slots_of, first_emitter, output_of, output_after, with_operator, emitter_after_all}

abbrev Written : Type 0
Written = Result (Located RawOperation) EmitError

-- ---- an emitter with another output

abbrev with_output : Emitter → Output → Emitter
with_output s o = record s { output = o }

-- the output with these operators written after it, if they can be written; then it goes on
abbrev outputs : Emitter → List Written → (Output → Result Emitter EmitError) → Output → Result Emitter EmitError
outputs s [] go o = go o
outputs s (r ∷ rs) go o = r >>= λ x. outputs s rs go (output_after s.has_map s.base o x)

-- whatever the output is, these events turn the emitter into what `go` turns the output into
abbrev EventsWrite : Emitter → List WalkEvent → (Output → Result Emitter EmitError) → Type 0
EventsWrite s es go = (o : Output) → emitter_after_all (with_output s o) es ≡ go o

-- ---- the sequences in an instruction

-- what closes a sequence, if something does
abbrev Closing : Type 0
Closing = Option (Located TextOperation)

-- the scopes of these sequences
abbrev scopes_in : Sequences SequenceAt LocatedInstr → List Closing → List Scope
scopes_in no_sequences cs = []
scopes_in (sequence h is r) [] = []
scopes_in (sequence h is r) (c ∷ cs) = record { slot = h.slot; closer = c } ∷ scopes_in r cs

abbrev scope : ℕ → TextOperation → ℕ → Scope
scope p c l = record { slot = p; closer = Some (at_location c l) }

-- each sequence is closed by one of these, at the location of its end
abbrev at_ends : List TextOperation → Sequences SequenceAt LocatedInstr → List Closing
at_ends cs no_sequences = []
at_ends [] (sequence h is r) = []
at_ends (c ∷ cs) (sequence h is r) = Some (at_location c h.seq.end) ∷ at_ends cs r

scopes_found : {b : List InstrSeq} {ps : List ℕ} {ss : Sequences SequenceAt LocatedInstr} (cs : List TextOperation) → AreSequences b ps ss → scopes_at b ps cs ≡ Ok (scopes_in ss (at_ends cs ss))
scopes_found cs are_no_sequences = refl
scopes_found [] (are_sequences e s t) = refl
scopes_found {b = b} (c ∷ cs) (are_sequences {p = p} {ps = ps} {seq = seq} e s t) =
    ap (λ r. (some_or r UnknownSequence >>= λ q. Ok (scope p c q.end)) >>= λ s. scopes_at b ps cs >>= λ ss. Ok (s ∷ ss)) e
    ∙ ap (λ r. r >>= λ ss. Ok (scope p c seq.end ∷ ss)) (scopes_found cs t)

type_found : {b : List InstrSeq} {ps : List ℕ} {ss : Sequences SequenceAt LocatedInstr} (around : List ℕ) → AreSequences b ps ss → first_type_at b ps ≡ Ok (first_type (sequences_in around ss))
type_found around are_no_sequences = refl
type_found around (are_sequences {seq = seq} e s t) = ap (λ r. some_or r UnknownSequence >>= λ q. Ok q.ty) e

-- each sequence has something, or nothing, that closes it
abbrev AreClosed : {A : Type 0} → Sequences SequenceAt LocatedInstr → List A → Type 0
AreClosed no_sequences cs = Unit {0}
AreClosed (sequence h is r) [] = ⊥
AreClosed (sequence h is r) (c ∷ cs) = AreClosed r cs

closed_at_ends : (ss : Sequences SequenceAt LocatedInstr) (cs : List TextOperation) → AreClosed ss cs → AreClosed ss (at_ends cs ss)
closed_at_ends no_sequences cs h = tt
closed_at_ends (sequence d is r) [] h = absurd h
closed_at_ends (sequence d is r) (c ∷ cs) h = closed_at_ends r cs h

none_inside : {b : List InstrSeq} {ss : Sequences SequenceAt LocatedInstr} → AreSequences b [] ss → ss ≡ no_sequences
none_inside are_no_sequences = refl

-- ---- the text of sequences that are closed so

abbrev after_closing : TextTranslation ℕ BlockType → Closing → List Written → List Written
after_closing w None k = k
after_closing w (Some c) k = written w c.op c.location ∷ k

abbrev closed_texts : TextTranslation ℕ BlockType → List Closing → Sequences Head Instruction → List Written → List Written
closed_texts w cs no_sequences k = k
closed_texts w [] (sequence h is r) k = k
closed_texts w (c ∷ cs) (sequence h is r) k = items_text w is (after_closing w c (closed_texts w cs r k))

some_counted : (x : LocatedInstr) (xs : List LocatedInstr) → false ≡ (length (x ∷ xs) == 0)
some_counted x xs = let e : (length (x ∷ xs) == 0) ≡ false = grind arith in sym e

module _ (balanced : InstrSeqType → Bool) (around : List ℕ) where
  -- the sequences of the tree that are written
  abbrev those : Sequences SequenceAt LocatedInstr → Sequences Head Instruction
  those ss = written_sequences balanced (sequences_in around ss)

  texts_at_ends : (w : TextTranslation ℕ BlockType) (cs : List TextOperation) (ss : Sequences SequenceAt LocatedInstr) (k : List Written)
      → sequences_text w cs (those ss) k ≡ closed_texts w (at_ends cs ss) (those ss) k
  texts_at_ends w cs no_sequences k = refl
  texts_at_ends w [] (sequence h is r) k = refl
  texts_at_ends w (c ∷ cs) (sequence h is r) k =
      ap (λ l. items_text w (written_items balanced (items_in (h.slot ∷ around) is)) (written w c h.seq.end ∷ l)) (texts_at_ends w cs r k)

  nothing_inside : (r : Role) → written_inside balanced r no_sequences ≡ no_sequences
  nothing_inside an_if = refl
  nothing_inside _ = refl

  -- the alternative of an `if` has no instruction in the tree if its sequence has none
  none_counted : {b : List InstrSeq} {xs : List LocatedInstr} {is : Items SequenceAt LocatedInstr} → AreTreeItems b xs is
      → has_none (written_items balanced (items_in around is)) ≡ (length xs == 0)
  none_counted are_no_items = refl
  none_counted (are_items {x = x} {xs = xs} inside rest) = some_counted x xs

-- the first sequence has the same type
type_of_both : (t : Bool) (h : Head) (is : Items Head Instruction) (g : Head) (js : Items Head Instruction) (r : Sequences Head Instruction)
    → first_type (one_or_both t h is g js r) ≡ h.type
type_of_both true h is g js r = refl
type_of_both false h is g js r = refl

type_in_if : (balanced : InstrSeqType → Bool) (ss : Sequences Head Instruction) → first_type (written_in_if balanced ss) ≡ first_type ss
type_in_if balanced no_sequences = refl
type_in_if balanced (sequence h is no_sequences) = refl
type_in_if balanced (sequence h is (sequence g js r)) = type_of_both (balanced h.type && has_none js) h is g js r

type_inside : (balanced : InstrSeqType → Bool) (r : Role) (ss : Sequences Head Instruction) → first_type (written_inside balanced r ss) ≡ first_type ss
type_inside balanced an_if ss = type_in_if balanced ss
type_inside balanced _ ss = refl

type_written : (balanced : InstrSeqType → Bool) (r : Role) (ss : Sequences Head Instruction)
    → first_type (written_inside balanced r (written_sequences balanced ss)) ≡ first_type ss
type_written balanced r no_sequences = type_inside balanced r no_sequences
type_written balanced r (sequence h is rest) = type_inside balanced r (written_sequences balanced (sequence h is rest))

-- ---- the sequences of an `if`

abbrev if_closings : (is_short : Bool) → (l m : ℕ) → List Closing
if_closings true l m = Some (at_location end_operation (last_location l m)) ∷ None ∷ []
if_closings false l m = Some (at_location else_operation l) ∷ Some (at_location end_operation m) ∷ []

if_texts : (w : TextTranslation ℕ BlockType) (t : Bool) (h : Head) (is : Items Head Instruction) (g : Head) (js : Items Head Instruction) (k : List Written)
    → (t ≡ true → has_none js ≡ true)
    → sequences_text w (if_closers (one_or_both t h is g js no_sequences)) (one_or_both t h is g js no_sequences) k
    ≡ closed_texts w (if_closings t h.end_location g.end_location) (sequence h is (sequence g js no_sequences)) k
if_texts w false h is g js k none = refl
if_texts w true h is g no_items k none = refl
if_texts w true h is g (item i ss r) k none = absurd (cc (none refl))

if_scoped : (t : Bool) (p : ℕ) (c : InstrSeq) (is : Items SequenceAt LocatedInstr) (q : ℕ) (a : InstrSeq) (js : Items SequenceAt LocatedInstr)
    → if_scopes t p c q a
    ≡ scopes_in (sequence (record { slot = p; seq = c }) is (sequence (record { slot = q; seq = a }) js no_sequences)) (if_closings t c.end a.end)
if_scoped true p c is q a js = refl
if_scoped false p c is q a js = refl

if_closed : (t : Bool) (h : SequenceAt) (is : Items SequenceAt LocatedInstr) (g : SequenceAt) (js : Items SequenceAt LocatedInstr) (l m : ℕ)
    → AreClosed (sequence h is (sequence g js no_sequences)) (if_closings t l m)
if_closed true h is g js l m = tt
if_closed false h is g js l m = tt

second_holds : (t u : Bool) → (t && u) ≡ true → u ≡ true
second_holds true u h = h
second_holds false u h = absurd (cc h)

-- ---- the names in an instruction write nothing

names_passed : (s : Emitter) (i : Instr) (es : List WalkEvent) → emitter_after_all s (names i ++ es) ≡ emitter_after_all s es
names_passed s (instr.RefFunc x) es = refl
names_passed s (instr.LocalGet x) es = refl
names_passed s (instr.LocalSet x) es = refl
names_passed s (instr.LocalTee x) es = refl
names_passed s (instr.MemoryInit x) es = refl
names_passed s (instr.DataDrop x) es = refl
names_passed s (instr.ArrayNewData x) es = refl
names_passed s (instr.ArrayInitData x) es = refl
names_passed s _ es = refl

-- ---- each sequence in an instruction has a closer

-- a `try` with lawful clauses has a closer for its body and one for each handler
try_closed : {b : List InstrSeq} {ss : Sequences SequenceAt LocatedInstr} (xs : List LegacyCatch) → AreSequences b (handlers xs) ss → are_handlers (map legacy_clause xs) ≡ true
    → (h : SequenceAt) (is : Items SequenceAt LocatedInstr) → AreClosed (sequence h is ss) (try_closers (map legacy_clause xs))
try_closed [] are_no_sequences l h is = tt
try_closed (Catch t p ∷ xs) (are_sequences {seq = seq} {items = js} e i s) l h is = try_closed xs s l (record { slot = p; seq = seq }) js
try_closed (CatchAll p ∷ []) (are_sequences e i are_no_sequences) l h is = tt
try_closed (CatchAll p ∷ x ∷ xs) s l h is = absurd (cc)
try_closed (Delegate n ∷ xs) s l h is = absurd (cc)

all_closed : {b : List InstrSeq} {ss : Sequences SequenceAt LocatedInstr} (xs : List LegacyCatch) → AreSequences b (handlers xs) ss → are_lawful (map legacy_clause xs) ≡ true
    → (h : SequenceAt) (is : Items SequenceAt LocatedInstr) → AreClosed (sequence h is ss) (try_closers (map legacy_clause xs))
all_closed [] s l h is = try_closed [] s l h is
all_closed (Catch t p ∷ xs) s l h is = try_closed (Catch t p ∷ xs) s l h is
all_closed (CatchAll p ∷ xs) s l h is = try_closed (CatchAll p ∷ xs) s l h is
all_closed (Delegate n ∷ []) are_no_sequences l h is = tt
all_closed (Delegate n ∷ x ∷ xs) s l h is = absurd (cc)

-- how the sequences are closed, and that the text of those that are written is theirs
record IsClosed (balanced : InstrSeqType → Bool) (b : List InstrSeq) (around : List ℕ) (i : Instr) (ss : Sequences SequenceAt LocatedInstr) : Type 0 where
  pub closings : List Closing
  pub scopes : scopes_inside balanced b i ≡ Ok (scopes_in ss closings)
  pub closed : AreClosed ss closings
  pub same : (w : TextTranslation ℕ BlockType) (k : List Written)
      → sequences_text w (closers (role_of (operation_of i).opcode) (clauses_of_try i) (written_inside balanced (role_of (operation_of i).opcode) (those balanced around ss)))
      (written_inside balanced (role_of (operation_of i).opcode) (those balanced around ss)) k
      ≡ closed_texts w closings (those balanced around ss) k

-- ---- the events of a tree

abbrev writing : Emitter → TextTranslation ℕ BlockType
writing s = then_by (numbering s.numbers)

-- with these scopes to come before the others
abbrev with_coming : Emitter → List Scope → Emitter
with_coming s scopes = record s { coming = scopes ++ s.coming }

module _ (balanced : InstrSeqType → Bool) {b : List InstrSeq} where
  at_ends_closed : {ps : List ℕ} {ss : Sequences SequenceAt LocatedInstr} (around : List ℕ) (i : Instr) (cs : List TextOperation) → AreSequences b ps ss → AreClosed ss cs
      → scopes_inside balanced b i ≡ scopes_at b ps cs
      → ((w : TextTranslation ℕ BlockType) (k : List Written)
      → sequences_text w (closers (role_of (operation_of i).opcode) (clauses_of_try i) (written_inside balanced (role_of (operation_of i).opcode) (those balanced around ss)))
      (written_inside balanced (role_of (operation_of i).opcode) (those balanced around ss)) k
      ≡ sequences_text w cs (those balanced around ss) k)
      → IsClosed balanced b around i ss
  at_ends_closed {ss = ss} around i cs s closed at same = record {
    closings = at_ends cs ss;
    scopes = at ∙ scopes_found cs s;
    closed = closed_at_ends ss cs closed;
    same = λ w k. same w k ∙ texts_at_ends balanced around w cs ss k;
  }

  if_is_closed : (around : List ℕ) (x : IfElse) {ss : Sequences SequenceAt LocatedInstr} → AreSequences b (x.consequent ∷ x.alternative ∷ []) ss
      → IsClosed balanced b around (instr.IfElse x) ss
  if_is_closed around x (are_sequences {seq = c} {items = is} e i (are_sequences {seq = a} {items = js} d j are_no_sequences)) =
      let t = is_short balanced c a in
      let first : SequenceAt = record { slot = x.consequent; seq = c } in
      let second : SequenceAt = record { slot = x.alternative; seq = a } in
      let none = none_counted balanced (x.alternative ∷ around) j in
      let is' = written_items balanced (items_in (x.consequent ∷ around) is) in
      let js' = written_items balanced (items_in (x.alternative ∷ around) js) in
      record {
        closings = if_closings t c.end a.end;
        scopes =
            ap (λ o. some_or o UnknownSequence >>= λ q. some_or (slice_get b x.alternative) UnknownSequence >>= λ r.
            Ok (if_scopes (is_short balanced q r) x.consequent q x.alternative r)) e
            ∙ (ap (λ o. some_or o UnknownSequence >>= λ r. Ok (if_scopes (is_short balanced c r) x.consequent c x.alternative r)) d
            ∙ ap (λ (ss : List Scope). Ok ss) (if_scoped t x.consequent c is x.alternative a js));
        closed = if_closed t first is second js c.end a.end;
        same = λ w k.
            ap (λ u. sequences_text w (if_closers (one_or_both (balanced c.ty && u) (head_of c) is' (head_of a) js' no_sequences))
            (one_or_both (balanced c.ty && u) (head_of c) is' (head_of a) js' no_sequences) k) none
            ∙ if_texts w t (head_of c) is' (head_of a) js' k (λ h. none ∙ second_holds (balanced c.ty) (length a.instrs == 0) h);
      }

  is_closed : {ss : Sequences SequenceAt LocatedInstr} (around : List ℕ) (i : Instr) → AreSequences b (slots_in i) ss → are_lawful (clauses_of_try i) ≡ true → IsClosed balanced b around i ss
  is_closed around (instr.Block x) (are_sequences e i are_no_sequences) l =
      at_ends_closed around (instr.Block x) (end_operation ∷ []) (are_sequences e i are_no_sequences) tt refl (λ w k. refl)
  is_closed around (instr.Loop x) (are_sequences e i are_no_sequences) l =
      at_ends_closed around (instr.Loop x) (end_operation ∷ []) (are_sequences e i are_no_sequences) tt refl (λ w k. refl)
  is_closed around (instr.IfElse x) s l = if_is_closed around x s
  is_closed around (instr.TryTable x) (are_sequences e i are_no_sequences) l =
      at_ends_closed around (instr.TryTable x) (end_operation ∷ []) (are_sequences e i are_no_sequences) tt refl (λ w k. refl)
  is_closed around (instr.Try x) (are_sequences {seq = seq} {items = js} e i s) l =
      at_ends_closed around (instr.Try x) (try_closers (map legacy_clause x.catches)) (are_sequences e i s)
      (all_closed x.catches s l (record { slot = x.seq; seq = seq }) js) refl (λ w k. refl)
  is_closed around i s l =
      subst (IsClosed balanced b around i) (sym (none_inside s))
      (record {
        closings = [];
        scopes = refl;
        closed = tt;
        same = λ w k. ap (λ ts. sequences_text w (closers (role_of (operation_of i).opcode) (clauses_of_try i) ts) ts k) (nothing_inside balanced around (role_of (operation_of i).opcode));
      })

-- ---- one operator, and what comes after it

-- an instruction's own operator, if it has one
event_written : (r : Written) (sc : Result (List Scope) EmitError) (u : Located RawOperation → List Scope → Emitter) (rest : Emitter → Result Emitter EmitError) (go : Located RawOperation → Result Emitter EmitError)
    → ((x : Located RawOperation) → r ≡ Ok x → (scopes : List Scope) × (sc ≡ Ok scopes) × (rest (u x scopes) ≡ go x))
    → ((r >>= λ op. sc >>= λ scopes. Ok (u op scopes)) >>= rest) ≡ (r >>= go)
event_written (Ok x) sc u rest go h = let a = h x refl in ap (λ c. (c >>= λ scopes. Ok (u x scopes)) >>= rest) a.1 ∙ a.2
event_written (Err e) sc u rest go h = refl

-- a closer, if it can be written
ended : (r : Written) (u : Emitter) (open_scopes : List Scope) (rest : Emitter → Result Emitter EmitError) (go : Located RawOperation → Result Emitter EmitError)
    → ((x : Located RawOperation) → rest (record (with_operator u x) { open_scopes = open_scopes }) ≡ go x)
    → (((r >>= λ x. Ok (with_operator u x)) >>= λ t. Ok (record t { open_scopes = open_scopes })) >>= rest) ≡ (r >>= go)
ended (Ok x) u open_scopes rest go h = h x
ended (Err e) u open_scopes rest go h = refl

lawful_of : (l : Bool) (r : Written) (x : Located RawOperation) → (if l then r else Err BadClauses) ≡ Ok x → l ≡ true
lawful_of true r x e = refl
lawful_of false r x e = absurd (cc)

-- with one scope open, and these to come
abbrev within : Emitter → Scope → List Scope → Emitter
within s c cs = record s { coming = cs ++ s.coming; open_scopes = c ∷ s.open_scopes }

-- the tree's items as they are written, within the open scopes
abbrev items_of : Emitter → Items SequenceAt LocatedInstr → Items Head Instruction
items_of s is = written_items s.numbers.balanced (items_in (slots_of s.open_scopes) is)

abbrev sequences_of : Emitter → Sequences SequenceAt LocatedInstr → Sequences Head Instruction
sequences_of s ss = written_sequences s.numbers.balanced (sequences_in (slots_of s.open_scopes) ss)

mutual
  pub items_written_out : {b : List InstrSeq} {xs : List LocatedInstr} {is : Items SequenceAt LocatedInstr} (s : Emitter) (es : List WalkEvent) (k : List Written) (go : Output → Result Emitter EmitError) →
      s.sequences ≡ b → AreTreeItems b xs is → EventsWrite s es (outputs s k go) → EventsWrite s (item_events is es) (outputs s (items_text (writing s) (items_of s is) k) go)
  items_written_out s es k go q are_no_items h o = h o
  items_written_out {b = b} s es k go q (are_items {x = x} {inside = ss} {rest = is} inside rest) h o =
      let around = slots_of s.open_scopes in
      let role = role_of (operation_of x.0).opcode in
      let ts = written_inside s.numbers.balanced role (sequences_of s ss) in
      let found : first_type_at s.sequences (slots_in x.0) ≡ Ok (first_type ts) =
      ap (λ c. first_type_at c (slots_in x.0)) q ∙ (type_found around inside ∙ ap Ok (sym (type_written s.numbers.balanced role (sequences_in around ss)))) in
      let own = opener_text (writing s) (instruction_in around x) (first_type ts) in
      let following = λ (op : Located RawOperation) (scopes : List Scope). with_operator (record s { coming = scopes ++ s.coming; output = o }) op in
      let scopes = scopes_inside s.numbers.balanced s.sequences x.0 in
      let later = names x.0 ++ sequence_events ss (item_events is es) in
      let after = items_text (writing s) (items_of s is) k in
      ap (λ r. (r >>= λ type. opener_text (writing s) (instruction_in around x) type >>= λ op. scopes >>= λ cs. Ok (following op cs)) >>= λ t. emitter_after_all t later) found
      ∙ event_written own scopes following (λ t. emitter_after_all t later) (λ op. outputs s (sequences_text (writing s) (closers role (clauses_of_try x.0) ts) ts after) go (output_after s.has_map s.base o op))
      (λ op e.
      let c = is_closed s.numbers.balanced around x.0 inside (lawful_of (are_lawful (clauses_of_try x.0)) _ op e) in (
        scopes_in ss c.closings,
        ap (λ d. scopes_inside s.numbers.balanced d x.0) q ∙ c.scopes,
        names_passed (following op (scopes_in ss c.closings)) x.0 (sequence_events ss (item_events is es))
            ∙ sequences_written_out s c.closings (item_events is es) after go q inside c.closed (items_written_out s es k go q rest h) (output_after s.has_map s.base o op)
            ∙ ap (λ ts. outputs s ts go (output_after s.has_map s.base o op)) (sym (c.same (writing s) after)),
      ))

  pub sequences_written_out : {b : List InstrSeq} {ps : List ℕ} {ss : Sequences SequenceAt LocatedInstr} (s : Emitter) (cs : List Closing) (es : List WalkEvent) (k : List Written) (go : Output → Result Emitter EmitError) →
      s.sequences ≡ b → AreSequences b ps ss → AreClosed ss cs → EventsWrite s es (outputs s k go) →
      EventsWrite (with_coming s (scopes_in ss cs)) (sequence_events ss es) (outputs s (closed_texts (writing s) cs (sequences_of s ss) k) go)
  sequences_written_out s cs es k go q are_no_sequences closed h o = h o
  sequences_written_out s [] es k go q (are_sequences e i t) closed h o = absurd closed
  sequences_written_out s (None ∷ cs) es k go q (are_sequences {p = p} {seq = seq} {items = is} {rest = ss} e i t) closed h o =
      items_written_out (within s (record { slot = p; closer = None }) (scopes_in ss cs)) (EndSequence seq ∷ sequence_events ss es)
      (closed_texts (writing s) cs (sequences_of s ss) k) go q i (λ n. sequences_written_out s cs es k go q t closed h n) o
  sequences_written_out s (Some c ∷ cs) es k go q (are_sequences {p = p} {seq = seq} {items = is} {rest = ss} e i t) closed h o =
      let opened_scope : Scope = record { slot = p; closer = Some c } in
      items_written_out (within s opened_scope (scopes_in ss cs)) (EndSequence seq ∷ sequence_events ss es)
      (written (writing s) c.op c.location ∷ closed_texts (writing s) cs (sequences_of s ss) k) go q i
      (λ n. ended (written (writing s) c.op c.location) (with_output (within s opened_scope (scopes_in ss cs)) n) s.open_scopes
      (λ u. emitter_after_all u (sequence_events ss es))
      (λ x. outputs s (closed_texts (writing s) cs (sequences_of s ss) k) go (output_after s.has_map s.base n x))
      (λ x. sequences_written_out s cs es k go q t closed h (output_after s.has_map s.base n x)))
      o

-- ---- the output of a tree

-- no scope is open or to come any more
abbrev pub last_emitter : List InstrSeq → Numbers → ℕ → Bool → Output → Emitter
last_emitter b to base m o = record { sequences = b; numbers = to; coming = []; open_scopes = []; base = base; has_map = m; output = o }

-- an output with operators after it
abbrev output_after_all : Bool → ℕ → Output → List (Located RawOperation) → Output
output_after_all has_map base o [] = o
output_after_all has_map base o (x ∷ xs) = output_after_all has_map base (output_after has_map base o x) xs

outputs_gathered : (s : Emitter) (rs : List Written) (o : Output) → outputs s rs (λ n. Ok (with_output s n)) o ≡ (gather rs >>= λ xs. Ok (with_output s (output_after_all s.has_map s.base o xs)))
outputs_gathered s [] o = refl
outputs_gathered s (Ok x ∷ rs) o = outputs_gathered s rs (output_after s.has_map s.base o x) ∙ one_more (gather rs)
  where
    one_more : (g : Result (List (Located RawOperation)) EmitError) → (g >>= λ xs. Ok (with_output s (output_after_all s.has_map s.base (output_after s.has_map s.base o x) xs)))
        ≡ ((g >>= λ xs. Ok (x ∷ xs)) >>= λ xs. Ok (with_output s (output_after_all s.has_map s.base o xs)))
    one_more (Ok xs) = refl
    one_more (Err e) = refl
outputs_gathered s (Err e ∷ rs) o = refl

bytes_after : (m : Bool) (base : ℕ) (o : Output) (xs : List (Located RawOperation)) → (output_after_all m base o xs).bytes ≡ o.bytes ++ bytes_of xs
bytes_after m base o [] = sym (append-nil o.bytes)
bytes_after m base o (x ∷ xs) = bytes_after m base (output_after m base o x) xs ∙ append_assoc o.bytes (short x.op) (bytes_of xs)

pairs_with_map : (base : ℕ) (o : Output) (xs : List (Located RawOperation)) → (output_after_all true base o xs).pairs ≡ o.pairs ++ pairs_from (base + length o.bytes) xs
pairs_with_map base o [] = sym (append-nil o.pairs)
pairs_with_map base o (x ∷ xs) =
    let next : base + length (o.bytes ++ short x.op) ≡ base + length o.bytes + length (short x.op) = omega (arith, length-append o.bytes (short x.op)) in
    pairs_with_map base (output_after true base o x) xs
    ∙ append_assoc o.pairs ((x.location, base + length o.bytes) ∷ []) (pairs_from (base + length (o.bytes ++ short x.op)) xs)
    ∙ ap (λ n. o.pairs ++ (x.location, base + length o.bytes) ∷ pairs_from n xs) next

pairs_without : (base : ℕ) (o : Output) (xs : List (Located RawOperation)) → (output_after_all false base o xs).pairs ≡ o.pairs
pairs_without base o [] = refl
pairs_without base o (x ∷ xs) = pairs_without base (output_after false base o x) xs

abbrev nothing : Output
nothing = record { bytes = []; pairs = [] }

written_as : (m : Bool) (base : ℕ) (xs : List (Located RawOperation)) → output_after_all m base nothing xs ≡ output_of m base xs
written_as true base xs = λ i. record { bytes = bytes_after true base nothing xs i; pairs = (pairs_with_map base nothing xs ∙ ap (λ n. pairs_from n xs) (add-zero base)) i }
written_as false base xs = λ i. record { bytes = bytes_after false base nothing xs i; pairs = pairs_without base nothing xs i }

-- the head of the tree in a slot is that slot's sequence
record IsHead (b : List InstrSeq) (start : ℕ) (h : SequenceAt) : Type 0 where
  pub place : h.slot ≡ start
  pub in_arena : slice_get b start ≡ Some h.seq

head_found : {b : List InstrSeq} {start : ℕ} (h : SequenceAt) (is : Items SequenceAt LocatedInstr) → AreSequences b (start ∷ []) (sequence h is no_sequences) → IsHead b start h
head_found h is (are_sequences e i t) = record { place = refl; in_arena = e }

-- After the events of the tree in a slot, the emitter has written its text or stopped at the text's first fault.
pub tree_written_out : {b : List InstrSeq} {start : ℕ} (to : Numbers) (base : ℕ) (m : Bool) (seq : InstrSeq) (t : Tree SequenceAt LocatedInstr) →
    slice_get b start ≡ Some seq → AreSequences b (start ∷ []) (alone t) →
    emitter_after_all (first_emitter b to base m (scope start end_operation seq.end)) (events t)
    ≡ (numbered_text to (tree_of t) >>= λ xs. Ok (last_emitter b to base m (output_of m base xs)))
tree_written_out {b = b} {start = start} to base m seq t e h =
    let top = head_found t.head t.items h in
    let seq_is : Some t.head.seq ≡ Some seq = sym top.in_arena ∙ e in
    let same : t.head.seq ≡ seq = cc seq_is in
    let s = last_emitter b to base m nothing in
    let rs = sequences_text (writing s) (end_operation ∷ []) (sequences_of s (alone t)) [] in
    ap (λ q. emitter_after_all (first_emitter b to base m (scope start end_operation q.end)) (events t)) (sym same)
    ∙ ap (λ p. emitter_after_all (first_emitter b to base m (scope p end_operation t.head.seq.end)) (events t)) (sym top.place)
    ∙ sequences_written_out s (Some (at_location end_operation t.head.seq.end) ∷ []) [] [] (λ o. Ok (with_output s o)) refl h tt (λ o. refl) nothing
    ∙ outputs_gathered s rs nothing
    ∙ ap (λ (f : List (Located RawOperation) → Output). gather rs >>= λ xs. Ok (last_emitter b to base m (f xs))) (λ i xs. written_as m base xs i)
