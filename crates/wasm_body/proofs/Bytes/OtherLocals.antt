-- The bytes of a tree are the same with numbers that agree on the locals that it names; and the locals that a normal form names
-- are among those that naming gave.
use Rattle.std.specs.Prelude.{◌≡◌, ℕ, List, [], ◌∷◌, ◌++◌, Bool, true, false, ◌&&◌, Some, None, Result, Ok, Err, if◌then◌else◌}
use Rattle.std.specs.List.{AllByRecursion}
use Rattle.std.proofs.Common.{refl, ap, sym, subst, ◌∙◌}
use Rattle.walrus_ir.specs.declared.val_type.InstrSeqType.{InstrSeqType}
use Rattle.walrus_ir.specs.declared.val_type.InstrSeqType.TheVariants.{Simple, MultiValue}
use Rattle.wasm_numbers.specs.Results.{◌>>=◌, each, gather, with_fault}
use Rattle.walrus_ir.specs.Tree.{Items, no_items, item, Sequences, no_sequences, sequence}
use Rattle.wasm_operators.specs.Operations.{Immediate, local, Operation, operation, RawOperation}
use Rattle.wasm_body.specs.declared.error.EmitError.{EmitError}
use Rattle.wasm_body.specs.declared.error.EmitError.TheVariants.{BadClauses}
use Rattle.wasm_body.specs.declared.error.IndexError.{IndexError}
use Rattle.wasm_body.specs.declared.error.ParseError.TheVariants.{Index}
use Rattle.wasm_body.specs.Control.{Role, a_block, a_loop, an_if, a_try, a_try_table, role_of, end_operation, Control}
use Rattle.wasm_body.specs.SourceTree.{Sequence, Empty, Single, Wrapped, IfThen, IfElse, TryCatch, TryDelegate, Clauses, Ended, Catches, CatchesAll}
use Rattle.wasm_body.specs.Frames.{SequenceFrame}
use Rattle.wasm_body.specs.Translation.{Translation, translate, translate_immediate, translate_immediates, Located, at_location}
use Rattle.wasm_body.specs.Naming.{Environment, NamedOperation, naming}
use Rattle.wasm_body.specs.FunctionTree.{Head, LegacyClause, handles, handles_all, delegates, Instruction, FunctionTree}
use Rattle.wasm_body.specs.NormalForm.{Typing, kept, kept_operation, Fate, Drops, Stays, MakesUnreachable, fate, with_fate, instruction, legacy_clauses, normal, handler_sequences}
use Rattle.wasm_body.specs.FlatText.{TextOperation, TextTranslation, has_none, one_or_both, written_in_if, written_inside, written_items, written_sequences, then_by, with_block_type, are_lawful, try_closers, if_closers, closers, written, opener_text, first_type, items_text, sequences_text}
use Rattle.wasm_body.specs.LocalNumbers.{locals_among, locals_in_items, locals_inside, locals_of}
use Rattle.wasm_body.specs.Bytes.{Numbers, in_32_bits, numbered_block, numbering, numbered_text, bytes_of, tree_bytes}
use Rattle.wasm_body.proofs.Translation.Steps.{bound, after_two, ok-infallible}
use Rattle.wasm_body.proofs.Translation.Kinds.{kind_kept, through, at_once}
use Rattle.wasm_body.proofs.Translation.LocalsKept.{before, first_local, IsNoLocal, no_local, locals_kept}
use Rattle.wasm_body.proofs.Structure.Along.{Each, EachIn}

-- ---- one operator

module _ {L B M C E : Type 0} (t : Translation L B M C E) (g : ℕ → Result ℕ E) where
  -- with other numbers of locals
  abbrev renumbered : Translation L B M C E
  renumbered = record t { local = g }

  abbrev Agree : List ℕ → Type 0
  Agree ls = AllByRecursion (λ n. t.local n ≡ g n) ls

  same_immediates : (is : List (Immediate L B)) → Agree (locals_among is) → translate_immediates t is ≡ translate_immediates renumbered is
  same_immediates [] h = refl
  same_immediates (local n ∷ is) h =
      after_two (t.local n >>= λ m. Ok (local m)) (g n >>= λ m. Ok (local m)) (translate_immediates t is) (translate_immediates renumbered is) (λ j js. Ok (j ∷ js))
      (ap (λ r. r >>= λ m. Ok (local m)) h.0) (same_immediates is h.1)
  same_immediates (i ∷ is) h = ap (λ r. translate_immediate t i >>= λ j. r >>= λ js. Ok (j ∷ js)) (same_immediates is h)

  same_operator : (o : Operation L B) → Agree (locals_among o.immediates) → translate t o ≡ translate renumbered o
  same_operator o h = ap (λ r. r >>= λ is. Ok (operation o.opcode is)) (same_immediates o.immediates h)

-- ---- the text of a tree

-- no closer names a local
abbrev NamesNone : TextOperation → Type 0
NamesNone c = locals_among c.immediates ≡ []

try_names_none : (cs : List LegacyClause) → AllByRecursion NamesNone (try_closers cs)
try_names_none [] = (refl, tt)
try_names_none (handles t ∷ cs) = (refl, try_names_none cs)
try_names_none (handles_all ∷ cs) = (refl, try_names_none cs)
try_names_none (delegates n ∷ cs) = (refl, tt)

if_names_none : {S I : Type 0} → (ss : Sequences S I) → AllByRecursion NamesNone (if_closers ss)
if_names_none no_sequences = tt
if_names_none (sequence h is no_sequences) = (refl, tt)
if_names_none (sequence h is (sequence g js r)) = (refl, (refl, tt))

names_none : {S I : Type 0} → (r : Role) (cs : List LegacyClause) (ss : Sequences S I) → AllByRecursion NamesNone (closers r cs ss)
names_none a_block cs ss = (refl, tt)
names_none a_loop cs ss = (refl, tt)
names_none a_try_table cs ss = (refl, tt)
names_none an_if cs ss = if_names_none ss
names_none a_try cs ss = try_names_none cs
names_none _ cs ss = tt

split : (P : ℕ → Type 0) (xs ys : List ℕ) → AllByRecursion P (xs ++ ys) → AllByRecursion P xs × AllByRecursion P ys
split P [] ys h = (tt, h)
split P (x ∷ xs) ys h = let rest = split P xs ys h.1 in ((h.0, rest.0), rest.1)

module _ {M C : Type 0} (w : TextTranslation M C) (g : ℕ → Result ℕ EmitError) where
  abbrev ResultList : Type 0
  ResultList = List (Result (Located (Operation M C)) EmitError)

  same_opened : (i : Instruction) (t : InstrSeqType) → Agree w g (locals_among i.op.immediates) → opener_text w i t ≡ opener_text (renumbered w g) i t
  same_opened i t h =
      ap (λ r. if are_lawful i.clauses then (r >>= λ x. Ok (at_location x i.location)) else Err BadClauses) (same_operator (with_block_type w t) g i.op h)

  same_written : (c : TextOperation) (l : ℕ) → NamesNone c → written w c l ≡ written (renumbered w g) c l
  same_written c l h = ap (λ r. r >>= λ x. Ok (at_location x l)) (same_operator w g c (subst (Agree w g) (sym h) tt))

  mutual
    same_text : (is : Items Head Instruction) (k : ResultList) → Agree w g (locals_in_items is) → items_text w is k ≡ items_text (renumbered w g) is k
    same_text no_items k h = refl
    same_text (item i ss r) k h =
        let P : ℕ → Type 0 = λ n. w.local n ≡ g n in
        let own = split P (locals_among i.op.immediates) (locals_inside ss ++ locals_in_items r) h in
        let inside = split P (locals_inside ss) (locals_in_items r) own.1 in
        let cs = closers (role_of i.op.opcode) i.clauses ss in
        ap (λ x. x ∷ sequences_text w cs ss (items_text w r k)) (same_opened i (first_type ss) own.0)
        ∙ ap (λ l. opener_text (renumbered w g) i (first_type ss) ∷ l)
        (ap (sequences_text w cs ss) (same_text r k inside.1) ∙ same_texts cs ss (items_text (renumbered w g) r k) (names_none (role_of i.op.opcode) i.clauses ss) inside.0)

    same_texts : (cs : List TextOperation) (ss : Sequences Head Instruction) (k : ResultList) → AllByRecursion NamesNone cs → Agree w g (locals_inside ss)
        → sequences_text w cs ss k ≡ sequences_text (renumbered w g) cs ss k
    same_texts [] no_sequences k n h = refl
    same_texts [] (sequence d is r) k n h = refl
    same_texts (c ∷ cs) no_sequences k n h = refl
    same_texts (c ∷ cs) (sequence d is r) k n h =
        let each = split (λ n. w.local n ≡ g n) (locals_in_items is) (locals_inside r) h in
        ap (items_text w is)
        (ap (λ x. x ∷ sequences_text w cs r k) (same_written c d.end_location n.0) ∙ ap (λ l. written (renumbered w g) c d.end_location ∷ l) (same_texts cs r k n.1 each.1))
        ∙ same_text is (written (renumbered w g) c d.end_location ∷ sequences_text (renumbered w g) cs r k) each.0

-- ---- the tree as it is written names the same locals

module _ (balanced : InstrSeqType → Bool) where
  short_locals : (t : Bool) (h : Head) (is : Items Head Instruction) (g : Head) (r : Sequences Head Instruction)
      → locals_inside (one_or_both t h is g no_items r) ≡ locals_inside (sequence h is (sequence g no_items r))
  short_locals true h is g r = refl
  short_locals false h is g r = refl

  long_locals : (t : Bool) (h : Head) (is : Items Head Instruction) (g : Head) (js : Items Head Instruction) (r : Sequences Head Instruction)
      → locals_inside (one_or_both (t && false) h is g js r) ≡ locals_inside (sequence h is (sequence g js r))
  long_locals true h is g js r = refl
  long_locals false h is g js r = refl

  if_locals : (ss : Sequences Head Instruction) → locals_inside (written_in_if balanced ss) ≡ locals_inside ss
  if_locals no_sequences = refl
  if_locals (sequence h is no_sequences) = refl
  if_locals (sequence h is (sequence g no_items r)) = short_locals (balanced h.type && true) h is g r
  if_locals (sequence h is (sequence g (item i ss js) r)) = long_locals (balanced h.type) h is g (item i ss js) r

  inside_locals : (r : Role) (ss : Sequences Head Instruction) → locals_inside (written_inside balanced r ss) ≡ locals_inside ss
  inside_locals an_if ss = if_locals ss
  inside_locals _ ss = refl

  mutual
    written_locals : (is : Items Head Instruction) → locals_in_items (written_items balanced is) ≡ locals_in_items is
    written_locals no_items = refl
    written_locals (item i ss r) =
        ap (λ ls. locals_among i.op.immediates ++ (ls ++ locals_in_items (written_items balanced r)))
        (inside_locals (role_of i.op.opcode) (written_sequences balanced ss) ∙ written_each_locals ss)
        ∙ ap (λ ls. locals_among i.op.immediates ++ (locals_inside ss ++ ls)) (written_locals r)

    written_each_locals : (ss : Sequences Head Instruction) → locals_inside (written_sequences balanced ss) ≡ locals_inside ss
    written_each_locals no_sequences = refl
    written_each_locals (sequence h is r) =
        ap (λ ls. ls ++ locals_inside (written_sequences balanced r)) (written_locals is)
        ∙ ap (λ ls. locals_in_items is ++ ls) (written_each_locals r)

-- ---- the bytes of a tree

module _ (to : Numbers) (g : ℕ → Result ℕ EmitError) where
  abbrev other : Numbers
  other = record { number_of = to.number_of; local_number = g; balanced = to.balanced }

  pub same_block : (t : InstrSeqType) → numbered_block to t ≡ numbered_block other t
  same_block (Simple None) = refl
  same_block (Simple (Some t)) = refl
  same_block (MultiValue id) = refl

  -- in 32 bits
  abbrev fitted : ℕ → Result ℕ EmitError
  fitted id = g id >>= in_32_bits

  writings : renumbered (then_by (numbering to)) fitted ≡ then_by (numbering other)
  writings = λ k. record (then_by (numbering other)) { block = λ t. same_block t k }

  fit_alike : (ls : List ℕ) → AllByRecursion (λ id. to.local_number id ≡ g id) ls → Agree (then_by (numbering to)) fitted ls
  fit_alike [] h = tt
  fit_alike (l ∷ ls) h = (ap (λ r. r >>= in_32_bits) h.0, fit_alike ls h.1)

  pub same_bytes_at : (t : FunctionTree) → AllByRecursion (λ id. to.local_number id ≡ g id) (locals_of t) → tree_bytes to t ≡ tree_bytes other t
  same_bytes_at t h =
      let w = then_by (numbering to) in
      let is = written_items to.balanced t.items in
      let agree = subst (Agree w fitted) (sym (written_locals to.balanced t.items)) (fit_alike (locals_of t) h) in
      let all = same_text w fitted is (written w end_operation t.head.end_location ∷ []) agree in
      let whole : numbered_text to t ≡ gather (items_text (renumbered w fitted) is (written (renumbered w fitted) end_operation t.head.end_location ∷ [])) = ap gather all in
      ap (λ r. r >>= λ xs. Ok (bytes_of xs)) (whole ∙ ap (λ v. gather (items_text v is (written v end_operation t.head.end_location ∷ []))) writings)

-- ---- the locals of a normal form

module _ (P : ℕ → Type 0) where
  -- an operator's locals
  abbrev pub Has : Located NamedOperation → Control → Type 0
  Has a c = AllByRecursion P (locals_among a.op.immediates)

  kept_has : (a : Located NamedOperation) (cs : List LegacyClause) → AllByRecursion P (locals_among a.op.immediates) → AllByRecursion P (locals_among (instruction a cs).op.immediates)
  kept_has a cs h =
      subst (AllByRecursion P) (sym (locals_kept kept (λ n. refl) a.op.immediates (kept_operation a.op).immediates (ok-infallible (translate_immediates kept a.op.immediates)))) h

  joined : (xs ys : List ℕ) → AllByRecursion P xs → AllByRecursion P ys → AllByRecursion P (xs ++ ys)
  joined [] ys h g = g
  joined (x ∷ xs) ys h g = (h.0, joined xs ys h.1 g)

  module _ (m : Typing) where
    -- an instruction's locals, those of the sequences in it, and those of the instructions after it
    item_has : (a : Located NamedOperation) (cs : List LegacyClause) (inside : List ℕ) (r : Sequence (Located NamedOperation)) → AllByRecursion P (locals_among a.op.immediates)
        → AllByRecursion P inside → AllByRecursion P (locals_in_items (normal m r)) → AllByRecursion P (locals_among (instruction a cs).op.immediates ++ (inside ++ locals_in_items (normal m r)))
    item_has a cs inside r h g k =
        joined (locals_among (instruction a cs).op.immediates) (inside ++ locals_in_items (normal m r)) (kept_has a cs h) (joined inside (locals_in_items (normal m r)) g k)

    single_has : (f : Fate) (a : Located NamedOperation) (r : Items Head Instruction) → AllByRecursion P (locals_among a.op.immediates) → AllByRecursion P (locals_in_items r)
        → AllByRecursion P (locals_in_items (with_fate f (instruction a []) r))
    single_has Drops a r h k = k
    single_has Stays a r h k = joined (locals_among (instruction a []).op.immediates) (locals_in_items r) (kept_has a [] h) k
    single_has MakesUnreachable a r h k = joined (locals_among (instruction a []).op.immediates) [] (kept_has a [] h) tt

    mutual
      pub normal_has : (s : Sequence (Located NamedOperation)) → Each Has s → AllByRecursion P (locals_in_items (normal m s))
      normal_has Empty h = tt
      normal_has (Single a action r) h = single_has (fate action) a (normal m r) h.0 (normal_has r h.1)
      normal_has (Wrapped a w b e r) h = item_has a [] (locals_in_items (normal m b) ++ []) r h.0 (joined (locals_in_items (normal m b)) [] (normal_has b h.1) tt) (normal_has r h.3)
      normal_has (IfThen a b e r) h = item_has a [] (locals_in_items (normal m b) ++ []) r h.0 (joined (locals_in_items (normal m b)) [] (normal_has b h.1) tt) (normal_has r h.3)
      normal_has (IfElse a b l c e r) h =
          item_has a [] (locals_in_items (normal m b) ++ (locals_in_items (normal m c) ++ [])) r h.0
          (joined (locals_in_items (normal m b)) (locals_in_items (normal m c) ++ []) (normal_has b h.1) (joined (locals_in_items (normal m c)) [] (normal_has c h.3) tt)) (normal_has r h.5)
      normal_has (TryCatch a b cs r) h =
          item_has a (legacy_clauses cs) (locals_in_items (normal m b) ++ locals_inside (handler_sequences m a.op cs)) r h.0
          (joined (locals_in_items (normal m b)) (locals_inside (handler_sequences m a.op cs)) (normal_has b h.1) (handlers_have a.op cs h.2)) (normal_has r h.3)
      normal_has (TryDelegate a b e n r) h =
          item_has a (delegates n ∷ []) (locals_in_items (normal m b) ++ []) r h.0 (joined (locals_in_items (normal m b)) [] (normal_has b h.1) tt) (normal_has r h.3)

      handlers_have : (o : NamedOperation) (cs : Clauses (Located NamedOperation)) → EachIn Has cs → AllByRecursion P (locals_inside (handler_sequences m o cs))
      handlers_have o (Ended e) h = tt
      handlers_have o (Catches a t b cs) h = joined (locals_in_items (normal m b)) (locals_inside (handler_sequences m o cs)) (normal_has b h.1) (handlers_have o cs h.2)
      handlers_have o (CatchesAll a b e) h = joined (locals_in_items (normal m b)) [] (normal_has b h.1) tt

-- ---- where the names come from

-- a local that naming gives
abbrev pub IsOfLocal : Environment → ℕ → Type 0
IsOfLocal env id = (n : ℕ) × (env.local_of n ≡ Ok id)

-- each local that is made comes from a local
abbrev Made : {L B M C E : Type 0} → Translation L B M C E → ℕ → Type 0
Made t m = (n : ℕ) × (t.local n ≡ Ok m)

module _ {L B M C E : Type 0} (t : Translation L B M C E) where
  one_made : (i : Immediate L B) (j : Immediate M C) → translate_immediate t i ≡ Ok j → (ms : List ℕ) → AllByRecursion (Made t) ms → AllByRecursion (Made t) (before j ms)
  one_made (local n) j e ms h = through (t.local n) local (λ k. AllByRecursion (Made t) (before k ms)) (λ m made. ((n, made), h)) j e
  one_made i j e ms h = subst (AllByRecursion (Made t)) (sym (no_local j ms (subst IsNoLocal (sym (kind_kept t i j e)) tt))) h

  pub all_made : (is : List (Immediate L B)) (js : List (Immediate M C)) → translate_immediates t is ≡ Ok js → AllByRecursion (Made t) (locals_among js)
  all_made [] js e = at_once [] (λ ks. AllByRecursion (Made t) (locals_among ks)) tt js e
  all_made (i ∷ is) js e =
      let first = bound (translate_immediate t i) (λ k. each (translate_immediate t) is >>= λ ks. Ok (k ∷ ks)) js e in
      through (each (translate_immediate t) is) (λ ks. first.0 ∷ ks) (λ ks. AllByRecursion (Made t) (locals_among ks))
      (λ ks h. subst (AllByRecursion (Made t)) (sym (first_local first.0 ks)) (one_made i first.0 first.1 (locals_among ks) (all_made is ks h))) js first.2

-- the locals of a named operator are locals that naming gives
pub named_locals : {A : Type 0} → (env : Environment) (fs : List (SequenceFrame A)) (o : RawOperation) (named : NamedOperation) → translate (naming env fs) o ≡ Ok named
    → AllByRecursion (IsOfLocal env) (locals_among named.immediates)
named_locals env fs o named e =
    let first = bound (translate_immediates (naming env fs) o.immediates) (λ js. Ok (operation o.opcode js)) named e in
    let same : operation o.opcode first.0 ≡ named = cc first.2 in
    subst (λ (n : NamedOperation). AllByRecursion (IsOfLocal env) (locals_among n.immediates)) same (of_locals (locals_among first.0) (all_made (naming env fs) o.immediates first.0 first.1))
  where
    unfaulted : (n id : ℕ) (r : Result ℕ IndexError) → env.local_of n ≡ r → with_fault Index r ≡ Ok id → env.local_of n ≡ Ok id
    unfaulted n id (Ok m) e h = let one : m ≡ id = cc in e ∙ ap Ok one
    unfaulted n id (Err f) e h = absurd cc

    of_locals : (ms : List ℕ) → AllByRecursion (Made (naming env fs)) ms → AllByRecursion (IsOfLocal env) ms
    of_locals [] h = tt
    of_locals (m ∷ ms) h = ((h.0.0, unfaulted h.0.0 m (env.local_of h.0.0) refl h.0.1), of_locals ms h.1)
