-- How many instructions the normal form of a body has: no more than the body has operators, and so than there are bytes.
use Rattle.std.proofs.Common.{◌≡◌, ℕ, suc, ◌+◌, ◌≤◌, List, [], ◌∷◌, length, map, sym, ap, ◌∙◌, arith}
use Rattle.std.proofs.lemmas.List.{length-append, length-map}
use Rattle.walrus_ir.specs.Tree.{Items, no_items, item, Sequences, no_sequences, sequence}
use Rattle.walrus_ir.specs.Locations.{default_location}
use Rattle.wasm_operators.specs.OperatorList.{Placed, Lists}
use Rattle.wasm_operators.proofs.ListLaws.{spelt_length}
use Rattle.wasm_body.specs.Control.{Else, End, Delegate, Marked, with_control}
use Rattle.wasm_body.specs.SourceTree.{Sequence, Empty, Single, Wrapped, IfThen, IfElse, TryCatch, TryDelegate, Clauses, Ended, Catches, CatchesAll, text, clauses_text, Body}
use Rattle.wasm_body.specs.Translation.{Located}
use Rattle.wasm_body.specs.Naming.{NamedOperation, Environment, Occurrence}
use Rattle.wasm_body.specs.Parsing.Accepted.{placed, IsBody}
use Rattle.wasm_body.specs.FunctionTree.{Head, Instruction, delegates}
use Rattle.wasm_body.specs.NormalForm.{Typing, typing_of, Fate, Drops, Stays, MakesUnreachable, fate, with_fate, instruction, head, construct_type, handler_type, closed_at, legacy_clauses, normal, handler_sequences, name_at, named_body, body_tree}
use Rattle.wasm_body.specs.TextLaws.{mark_named}
use Rattle.wasm_body.proofs.Structure.Mapped.{is_named_body}
use Rattle.walrus_facts.specs.Facts.{instructions, instructions_inside, count}

abbrev Named : Type 0
Named = Located NamedOperation

abbrev items_count : Items Head Instruction → ℕ
items_count is = length (instructions is)

abbrev inside_count : Sequences Head Instruction → ℕ
inside_count ss = length (instructions_inside ss)

-- an instruction, those inside of it, and those after it
one_more : (i : Instruction) (ss : Sequences Head Instruction) (r : Items Head Instruction) → items_count (item i ss r) ≡ suc (inside_count ss + items_count r)
one_more i ss r = ap suc (length-append (instructions_inside ss) (instructions r))

first_inside : (h : Head) (is : Items Head Instruction) (ss : Sequences Head Instruction) → inside_count (sequence h is ss) ≡ items_count is + inside_count ss
first_inside h is ss = length-append (instructions is) (instructions_inside ss)

single_bound : (f : Fate) (i : Instruction) (r : Items Head Instruction) (k t : ℕ) → items_count r + k ≤ t → items_count (with_fate f i r) + k ≤ suc t
single_bound Drops i r k t h = omega (arith, h)
single_bound Stays i r k t h = omega (arith, h, one_more i no_sequences r)
single_bound MakesUnreachable i r k t h = omega (arith, h)

module _ (m : Typing) where
  abbrev of : Sequence Named → ℕ
  of s = items_count (normal m s)

  mutual
    bound : (s : Sequence Named) (k : List (Marked Named)) → items_count (normal m s) + length k ≤ length (text s k)
    bound Empty k = omega arith
    bound (Single a action r) k = single_bound (fate action) (instruction a []) (normal m r) (length k) (length (text r k)) (bound r k)
    bound (Wrapped a w b e r) k =
        let h = head (construct_type m a.op) e.location in
        let inside = sequence h (normal m b) no_sequences in
        omega (arith, one_more (instruction a []) inside (normal m r), first_inside h (normal m b) no_sequences, bound b (with_control e End ∷ text r k), bound r k)
    bound (IfThen a b e r) k =
        let h = head (construct_type m a.op) e.location in
        let other = sequence (head (construct_type m a.op) default_location) no_items no_sequences in
        omega (arith, one_more (instruction a []) (sequence h (normal m b) other) (normal m r), first_inside h (normal m b) other, bound b (with_control e End ∷ text r k), bound r k)
    bound (IfElse a b l c e r) k =
        let h = head (construct_type m a.op) l.location in
        let g = head (construct_type m a.op) e.location in
        let other = sequence g (normal m c) no_sequences in
        let following = with_control e End ∷ text r k in
        omega (
          arith,
          one_more (instruction a []) (sequence h (normal m b) other) (normal m r),
          first_inside h (normal m b) other,
          first_inside g (normal m c) no_sequences,
          bound b (with_control l Else ∷ text c following),
          bound c following,
          bound r k,
        )
    bound (TryCatch a b cs r) k =
        let h = head (construct_type m a.op) (closed_at cs) in
        let others = handler_sequences m a.op cs in
        omega (
          arith,
          one_more (instruction a (legacy_clauses cs)) (sequence h (normal m b) others) (normal m r),
          first_inside h (normal m b) others,
          bound b (clauses_text cs (text r k)),
          clauses_bound a.op cs (text r k),
          bound r k,
        )
    bound (TryDelegate a b e n r) k =
        let h = head (construct_type m a.op) default_location in
        let inside = sequence h (normal m b) no_sequences in
        omega (
          arith,
          one_more (instruction a (delegates n ∷ [])) inside (normal m r),
          first_inside h (normal m b) no_sequences,
          bound b (with_control e (Delegate n) ∷ text r k),
          bound r k,
        )

    clauses_bound : (o : NamedOperation) (cs : Clauses Named) (k : List (Marked Named)) → inside_count (handler_sequences m o cs) + length k ≤ length (clauses_text cs k)
    clauses_bound o (Ended e) k = omega arith
    clauses_bound o (Catches a t b cs) k =
        let h = head (handler_type m o (m.tag_parameters t)) (closed_at cs) in
        omega (arith, first_inside h (normal m b) (handler_sequences m o cs), bound b (clauses_text cs k), clauses_bound o cs k)
    clauses_bound o (CatchesAll a b e) k =
        let h = head (handler_type m o []) e.location in
        omega (arith, first_inside h (normal m b) no_sequences, bound b (with_control e End ∷ k))

-- an operator is a byte at least
listed_bound : (xs : List Placed) (place : ℕ) (bytes rest : List ℕ) → Lists xs place bytes rest → length xs ≤ length bytes
listed_bound [] place bytes rest h = omega arith
listed_bound (x ∷ xs) place bytes rest h =
    let whole = ap length h.3 ∙ length-append h.1 h.2 in
    omega (arith, whole, spelt_length x.spelt h.1 h.4, listed_bound xs (place + length h.1) h.2 rest h.5)

-- The normal form of a body that bytes are accepted as has no more instructions than they are.
pub few_instructions : (env : Environment) (xs : List Occurrence) (b : Body Occurrence) (place : ℕ) (bytes : List ℕ) → Lists (map placed xs) place bytes [] → IsBody xs b
    → count (body_tree env b).items ≤ length bytes
few_instructions env xs b place bytes l is =
    let named = named_body b in
    let close = with_control named.close End ∷ [] in
    let texts = ap length (sym (is_named_body xs b is)) ∙ (length-map (map name_at xs) mark_named ∙ length-map xs name_at) in
    omega (arith, bound (typing_of env) named.sequence close, listed_bound (map placed xs) place bytes [] l, length-map xs placed, texts)
