-- Trees that are the same have the same operators in their text, or the same fault.
use Rattle.std.proofs.Common.{◌≡◌, ℕ, List, [], ◌∷◌, map, Bool, true, false, None, Result, Ok, Err, refl, sym, ap, ◌∙◌}
use Rattle.std.specs.Prelude.{if◌then◌else◌, ◌++◌, ◌&&◌}
use Rattle.std.specs.List.{flat_map}
use Rattle.walrus_ir.specs.declared.val_type.InstrSeqType.{InstrSeqType}
use Rattle.walrus_ir.specs.declared.val_type.InstrSeqType.TheVariants.{Simple}
use Rattle.walrus_ir.specs.Tree.{Items, no_items, item, Sequences, no_sequences, sequence, alone}
use Rattle.wasm_operators.specs.declared.types.BlockType.{BlockType}
use Rattle.wasm_operators.specs.Operations.{Operation, RawOperation}
use Rattle.wasm_operators.specs.Shortest.{short}
use Rattle.wasm_body.specs.declared.error.EmitError.{EmitError}
use Rattle.wasm_body.specs.declared.error.EmitError.TheVariants.{BadClauses}
use Rattle.wasm_numbers.specs.Results.{◌>>=◌, gather}
use Rattle.wasm_body.specs.Control.{Role, an_if, role_of, end_operation}
use Rattle.wasm_body.specs.Translation.{translate, Located, at_location}
use Rattle.wasm_body.specs.FunctionTree.{Head, LegacyClause, Instruction, Bare, bare, bare_items, bare_sequences}
use Rattle.wasm_body.specs.FlatText.{Writing, TextTranslation, TextOperation, are_lawful, has_none, one_or_both, written_in_if, written_inside, written_items, written_sequences, closers, if_closers, written, with_block_type, first_type, items_text, sequences_text}
use Rattle.wasm_body.specs.Bytes.{writing_numbers, numbered_text, bytes_of}
use Rattle.wasm_body.specs.ReadBack.{SameBytes}
use Rattle.wasm_body.specs.TextLaws.{without_locations, SameTexts}
use Rattle.wasm_body.proofs.Translation.Steps.{after_one}

-- ---- the text of a tree without locations

abbrev without_location : {X : Type 0} → Result (Located X) EmitError → Result X EmitError
without_location r = r >>= λ x. Ok x.op

abbrev bare_type : Sequences InstrSeqType Bare → InstrSeqType
bare_type no_sequences = Simple None
bare_type (sequence t is r) = t

abbrev bare_opened : {M C : Type 0} → TextTranslation M C → Bare → InstrSeqType → Result (Operation M C) EmitError
bare_opened w i t = if are_lawful i.1 then translate (with_block_type w t) i.0 else Err BadClauses

abbrev mutual
  bare_text : {M C : Type 0} → TextTranslation M C → Items InstrSeqType Bare → List (Result (Operation M C) EmitError)
      → List (Result (Operation M C) EmitError)
  bare_text w no_items k = k
  bare_text w (item i ss r) k = bare_opened w i (bare_type ss) ∷ bare_texts w (closers (role_of i.0.opcode) i.1 ss) ss (bare_text w r k)

  bare_texts : {M C : Type 0} → TextTranslation M C → List TextOperation → Sequences InstrSeqType Bare
      → List (Result (Operation M C) EmitError) → List (Result (Operation M C) EmitError)
  bare_texts w cs no_sequences k = k
  bare_texts w [] (sequence t is r) k = k
  bare_texts w (c ∷ cs) (sequence t is r) k = bare_text w is (translate w c ∷ bare_texts w cs r k)

-- ---- the tree as it is written, without locations

abbrev bare_one_or_both : Bool → InstrSeqType → Items InstrSeqType Bare → InstrSeqType → Items InstrSeqType Bare → Sequences InstrSeqType Bare → Sequences InstrSeqType Bare
bare_one_or_both true t is u js r = sequence t is r
bare_one_or_both false t is u js r = sequence t is (sequence u js r)

abbrev bare_in_if : (InstrSeqType → Bool) → Sequences InstrSeqType Bare → Sequences InstrSeqType Bare
bare_in_if balanced no_sequences = no_sequences
bare_in_if balanced (sequence t is no_sequences) = sequence t is no_sequences
bare_in_if balanced (sequence t is (sequence u js r)) = bare_one_or_both (balanced t && has_none js) t is u js r

abbrev bare_inside : (InstrSeqType → Bool) → Role → Sequences InstrSeqType Bare → Sequences InstrSeqType Bare
bare_inside balanced an_if ss = bare_in_if balanced ss
bare_inside balanced _ ss = ss

abbrev mutual
  bare_written : (InstrSeqType → Bool) → Items InstrSeqType Bare → Items InstrSeqType Bare
  bare_written balanced no_items = no_items
  bare_written balanced (item i ss r) = item i (bare_inside balanced (role_of i.0.opcode) (bare_written_each balanced ss)) (bare_written balanced r)

  bare_written_each : (InstrSeqType → Bool) → Sequences InstrSeqType Bare → Sequences InstrSeqType Bare
  bare_written_each balanced no_sequences = no_sequences
  bare_written_each balanced (sequence t is r) = sequence t (bare_written balanced is) (bare_written_each balanced r)

none_bare : (is : Items Head Instruction) → has_none is ≡ has_none (bare_items is)
none_bare no_items = refl
none_bare (item i ss r) = refl

both_bare : (t : Bool) (h : Head) (is : Items Head Instruction) (g : Head) (js : Items Head Instruction) (r : Sequences Head Instruction)
    → bare_sequences (one_or_both t h is g js r) ≡ bare_one_or_both t h.type (bare_items is) g.type (bare_items js) (bare_sequences r)
both_bare true h is g js r = refl
both_bare false h is g js r = refl

in_if_bare : (balanced : InstrSeqType → Bool) (ss : Sequences Head Instruction) → bare_sequences (written_in_if balanced ss) ≡ bare_in_if balanced (bare_sequences ss)
in_if_bare balanced no_sequences = refl
in_if_bare balanced (sequence h is no_sequences) = refl
in_if_bare balanced (sequence h is (sequence g js r)) =
    both_bare (balanced h.type && has_none js) h is g js r
    ∙ ap (λ t. bare_one_or_both (balanced h.type && t) h.type (bare_items is) g.type (bare_items js) (bare_sequences r)) (none_bare js)

inside_bare : (balanced : InstrSeqType → Bool) (r : Role) (ss : Sequences Head Instruction) → bare_sequences (written_inside balanced r ss) ≡ bare_inside balanced r (bare_sequences ss)
inside_bare balanced an_if ss = in_if_bare balanced ss
inside_bare balanced _ ss = refl

mutual
  written_bare : (balanced : InstrSeqType → Bool) (is : Items Head Instruction) → bare_items (written_items balanced is) ≡ bare_written balanced (bare_items is)
  written_bare balanced no_items = refl
  written_bare balanced (item i ss r) =
      let role = role_of i.op.opcode in
      ap (λ ts. item (bare i) ts (bare_items (written_items balanced r)))
      (inside_bare balanced role (written_sequences balanced ss) ∙ ap (bare_inside balanced role) (written_each_bare balanced ss))
      ∙ ap (λ rs. item (bare i) (bare_inside balanced role (bare_written_each balanced (bare_sequences ss))) rs) (written_bare balanced r)

  written_each_bare : (balanced : InstrSeqType → Bool) (ss : Sequences Head Instruction)
      → bare_sequences (written_sequences balanced ss) ≡ bare_written_each balanced (bare_sequences ss)
  written_each_bare balanced no_sequences = refl
  written_each_bare balanced (sequence h is r) =
      ap (λ js. sequence h.type js (bare_sequences (written_sequences balanced r))) (written_bare balanced is)
      ∙ ap (λ rs. sequence h.type (bare_written balanced (bare_items is)) rs) (written_each_bare balanced r)

-- ---- it is the text of the tree without locations

located_bare : {X : Type 0} → (r : Result X EmitError) (l : ℕ) → without_location (r >>= λ x. Ok (at_location x l)) ≡ r
located_bare (Ok x) l = refl
located_bare (Err e) l = refl

opened_bare : {M C : Type 0} → (w : TextTranslation M C) (b : Bool) (i : Instruction) (t : InstrSeqType)
    → without_location (if b then (translate (with_block_type w t) i.op >>= λ x. Ok (at_location x i.location)) else Err BadClauses)
    ≡ (if b then translate (with_block_type w t) i.op else Err BadClauses)
opened_bare w true i t = located_bare (translate (with_block_type w t) i.op) i.location
opened_bare w false i t = refl

type_bare : (ss : Sequences Head Instruction) → first_type ss ≡ bare_type (bare_sequences ss)
type_bare no_sequences = refl
type_bare (sequence h is r) = refl

if_closers_bare : (ss : Sequences Head Instruction) → if_closers ss ≡ if_closers (bare_sequences ss)
if_closers_bare no_sequences = refl
if_closers_bare (sequence h is no_sequences) = refl
if_closers_bare (sequence h is (sequence g js r)) = refl

closers_bare : (r : Role) (cs : List LegacyClause) (ss : Sequences Head Instruction) → closers r cs ss ≡ closers r cs (bare_sequences ss)
closers_bare an_if cs ss = if_closers_bare ss
closers_bare _ cs ss = refl

mutual
  text_bare : {M C : Type 0} → (w : TextTranslation M C) (is : Items Head Instruction) (k : List (Result (Located (Operation M C)) EmitError))
      → map without_location (items_text w is k) ≡ bare_text w (bare_items is) (map without_location k)
  text_bare w no_items k = refl
  text_bare w (item i ss r) k =
      let role = role_of i.op.opcode in
      let ts = bare_sequences ss in
      let here = bare_opened w (bare i) (bare_type ts) in
      ap (λ x. x ∷ map without_location (sequences_text w (closers role i.clauses ss) ss (items_text w r k)))
      (opened_bare w (are_lawful i.clauses) i (first_type ss) ∙ ap (λ t. bare_opened w (bare i) t) (type_bare ss))
      ∙ (ap (λ l. here ∷ l) (texts_bare w (closers role i.clauses ss) ss (items_text w r k))
      ∙ (ap (λ l. here ∷ bare_texts w l ts (map without_location (items_text w r k))) (closers_bare role i.clauses ss)
      ∙ ap (λ l. here ∷ bare_texts w (closers role i.clauses ts) ts l) (text_bare w r k)))

  texts_bare : {M C : Type 0}
      → (w : TextTranslation M C) (cs : List TextOperation) (ss : Sequences Head Instruction) (k : List (Result (Located (Operation M C)) EmitError))
      → map without_location (sequences_text w cs ss k) ≡ bare_texts w cs (bare_sequences ss) (map without_location k)
  texts_bare w cs no_sequences k = refl
  texts_bare w [] (sequence h is r) k = refl
  texts_bare w (c ∷ cs) (sequence h is r) k =
      text_bare w is (written w c h.end_location ∷ sequences_text w cs r k)
      ∙ (ap (λ x. bare_text w (bare_items is) (x ∷ map without_location (sequences_text w cs r k))) (located_bare (translate w c) h.end_location)
      ∙ ap (λ l. bare_text w (bare_items is) (translate w c ∷ l)) (texts_bare w cs r k))

gathered_bare : {X : Type 0} → (rs : List (Result (Located X) EmitError))
    → without_locations (gather rs) ≡ gather (map without_location rs)
gathered_bare {X = X} [] = refl
gathered_bare {X = X} (Ok x ∷ rs) =
    rest (gather rs) ∙ after_one (without_locations (gather rs)) (gather (map without_location rs)) (λ os. Ok (x.op ∷ os)) (gathered_bare rs)
  where
    rest : (r : Result (List (Located X)) EmitError) → without_locations (r >>= λ xs. Ok (x ∷ xs))
        ≡ (without_locations r >>= λ os. Ok (x.op ∷ os))
    rest (Ok xs) = refl
    rest (Err e) = refl
gathered_bare {X = X} (Err e ∷ rs) = refl

pub same_texts : (M C : Type 0) → SameTexts M C
same_texts M C w t u h =
    let ss = written_sequences w.balanced (alone t) in
    let rs = written_sequences w.balanced (alone u) in
    let same : bare_sequences ss ≡ bare_sequences rs =
    written_each_bare w.balanced (alone t) ∙ (ap (bare_written_each w.balanced) h ∙ sym (written_each_bare w.balanced (alone u))) in
    gathered_bare (sequences_text w.translation (end_operation ∷ []) ss [])
    ∙ (ap gather (texts_bare w.translation (end_operation ∷ []) ss [])
    ∙ (ap (λ s. gather (bare_texts w.translation (end_operation ∷ []) s [])) same
    ∙ (sym (ap gather (texts_bare w.translation (end_operation ∷ []) rs []))
    ∙ sym (gathered_bare (sequences_text w.translation (end_operation ∷ []) rs [])))))

-- ---- and the same bytes, or the same fault

bytes_bare : (r : Result (List (Located RawOperation)) EmitError)
    → (r >>= λ xs. Ok (bytes_of xs)) ≡ (without_locations r >>= λ os. Ok (flat_map short os))
bytes_bare (Ok xs) = ap Ok (each_short xs)
  where
    each_short : (xs : List (Located RawOperation)) → bytes_of xs ≡ flat_map short (map (λ (x : Located RawOperation). x.op) xs)
    each_short [] = refl
    each_short (x ∷ xs) = ap (λ l. short x.op ++ l) (each_short xs)
bytes_bare (Err e) = refl

pub same_bytes : SameBytes
same_bytes to t u h =
    bytes_bare (numbered_text to t)
    ∙ (after_one (without_locations (numbered_text to t)) (without_locations (numbered_text to u)) (λ os. Ok (flat_map short os))
    (same_texts ℕ BlockType (writing_numbers to) t u h)
    ∙ sym (bytes_bare (numbered_text to u)))
