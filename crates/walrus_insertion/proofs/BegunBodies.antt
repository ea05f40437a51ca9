-- The tree of a function that begins with instructions more, and what is written of it.
use Rattle.std.proofs.Common.{◌≡◌, ◌==◌, ◌||◌, ℕ, zero, suc, List, [], ◌∷◌, ◌++◌, map, true, false, Some, refl, sym, ap, ◌∙◌, subst, arith}
use Rattle.std.specs.Prelude.{slice_get, slice_set}
use Rattle.walrus_ir.specs.declared.seq.InstrSeq.{InstrSeq}
use Rattle.walrus_ir.specs.Tree.{Items, item, no_sequences, sequence}
use Rattle.walrus_ir.specs.Unfolding.{SequenceAt, LocatedInstr, AreSequences, are_no_sequences, are_sequences, slots_reached, slots_reached_each, among, Apart}
use Rattle.wasm_body.specs.Control.{role_of, Plain, Does, End, Marked, with_control}
use Rattle.wasm_body.specs.Flat.{Named}
use Rattle.wasm_body.specs.FunctionTree.{Head, Instruction, FunctionTree}
use Rattle.wasm_body.specs.NormalForm.{Typing, instruction, normal, normal_form}
use Rattle.wasm_body.specs.SourceTree.{Sequence, Empty, Single, Wrapped, IfThen, IfElse, TryCatch, TryDelegate, Clauses, Ended, Catches, CatchesAll, text, Body, body_text, map_sequence, map_clauses}
use Rattle.wasm_body.specs.TextLaws.{mark_named, IsNamedBody}
use Rattle.wasm_body.specs.TreeOfFunction.{tree_of, items_in, HasTree}
use Rattle.wasm_body.specs.Typed.{AreTyped}
use Rattle.wasm_body.specs.Validity.{OperandRules}
use Rattle.wasm_body.proofs.Structure.Mapped.{map_mark, text_mapped}
use Rattle.wasm_insertion.specs.Insertion.{Origin, Own, Added, without_origin, Inserted, insert, InsertedBody, IsInsertedText}
use Rattle.wasm_insertion.specs.InsertedValidity.{IsProbe, Probed, done, same, probe}
use Rattle.wasm_insertion.proofs.EditedTrees.{own_inserted, plain_typed}
use Rattle.wasm_insertion.proofs.InsertedTexts.{inserted_texts}
use Rattle.walrus_insertion.specs.declared.plain_instr.PlainInstr.{PlainInstr}
use Rattle.walrus_insertion.specs.Edits.{added}
use Rattle.walrus_insertion.specs.BegunBodies.{inserted_operator, inserted_operators, with_added, begun_with, begun_form, BegunTrees, BegunTexts}
use Rattle.walrus_insertion.proofs.PlainOperators.{inserted_is_plain, inserted_has_no_blocks}
use Rattle.walrus_insertion.proofs.AddedItems.{before_items, NewItems, all_added}
use Rattle.walrus_insertion.proofs.Elsewhere.{items_elsewhere}

abbrev own : Named → Origin Named Named
own a = Own a

-- ---- its normal form

mutual
  own_again : (s : Sequence Named) → map_sequence without_origin (map_sequence own s) ≡ s
  own_again Empty = refl
  own_again (Single a action r) = ap (λ l. Single a action l) (own_again r)
  own_again (Wrapped a w b e r) = ap (λ l. Wrapped a w l e (map_sequence without_origin (map_sequence own r))) (own_again b) ∙ ap (λ l. Wrapped a w b e l) (own_again r)
  own_again (IfThen a b e r) = ap (λ l. IfThen a l e (map_sequence without_origin (map_sequence own r))) (own_again b) ∙ ap (λ l. IfThen a b e l) (own_again r)
  own_again (IfElse a b l c e r) =
      ap (λ t. IfElse a t l (map_sequence without_origin (map_sequence own c)) e (map_sequence without_origin (map_sequence own r))) (own_again b)
      ∙ ap (λ t. IfElse a b l t e (map_sequence without_origin (map_sequence own r))) (own_again c)
      ∙ ap (λ t. IfElse a b l c e t) (own_again r)
  own_again (TryCatch a b cs r) =
      ap (λ t. TryCatch a t (map_clauses without_origin (map_clauses own cs)) (map_sequence without_origin (map_sequence own r))) (own_again b)
      ∙ ap (λ t. TryCatch a b t (map_sequence without_origin (map_sequence own r))) (clauses_again cs)
      ∙ ap (λ t. TryCatch a b cs t) (own_again r)
  own_again (TryDelegate a b e n r) =
      ap (λ l. TryDelegate a l e n (map_sequence without_origin (map_sequence own r))) (own_again b) ∙ ap (λ l. TryDelegate a b e n l) (own_again r)

  clauses_again : (cs : Clauses Named) → map_clauses without_origin (map_clauses own cs) ≡ cs
  clauses_again (Ended e) = refl
  clauses_again (Catches a t b cs) =
      ap (λ l. Catches a t l (map_clauses without_origin (map_clauses own cs))) (own_again b) ∙ ap (λ l. Catches a t b l) (clauses_again cs)
  clauses_again (CatchesAll a b e) = ap (λ l. CatchesAll a l e) (own_again b)

added_form : (m : Typing) (ps : List Named) (s : Sequence (Origin Named Named))
    → normal m (map_sequence without_origin (with_added ps s)) ≡ before_items ps (normal m (map_sequence without_origin s))
added_form m [] s = refl
added_form m (p ∷ ps) s = ap (λ l. item (instruction p []) no_sequences l) (added_form m ps s)

abbrev begun_tree : List Named → FunctionTree → FunctionTree
begun_tree ps t = record t { items = before_items ps t.items }

begun_is : (m : Typing) (ps : List PlainInstr) (b : Body Named) → begun_tree (inserted_operators ps) (normal_form m b) ≡ begun_form m ps b
begun_is m ps b =
    ap (λ l. record (normal_form m b) { items = l })
    (sym (added_form m (inserted_operators ps) (map_sequence own b.sequence) ∙ ap (λ s. before_items (inserted_operators ps) (normal m s)) (own_again b.sequence)))

set_here : {X : Type 0} (xs : List X) (i : ℕ) (v y : X) → slice_get xs i ≡ Some y → slice_get (slice_set xs i v) i ≡ Some v
set_here [] i v y h = absurd (cc h)
set_here (x ∷ xs) zero v y h = refl
set_here (x ∷ xs) (suc i) v y h = set_here xs i v y h

module _ (old : List InstrSeq) (seq : InstrSeq) (ps : List PlainInstr) where
  abbrev changed : InstrSeq
  changed = record seq { instrs = map added ps ++ seq.instrs }

  begun : (start : ℕ) (h : SequenceAt) (is : Items SequenceAt LocatedInstr) → slice_get old start ≡ Some seq → AreSequences old (start ∷ []) (sequence h is no_sequences)
      → Apart (slots_reached_each (sequence h is no_sequences) [])
      → HasTree (slice_set old start changed) start (begun_tree (inserted_operators ps) (tree_of (record { head = h; items = is })))
  begun start h is at (are_sequences {p = p} {seq = was} {items = items} known are others) apart =
      let equal : seq ≡ was = cc (sym at ∙ known) in
      let new = slice_set old start changed in
      let stay = (items_elsewhere old start changed (p ∷ []) (reached_first p) are).1 apart in
      let n : NewItems new (p ∷ []) items (before_items (inserted_operators ps) (items_in (p ∷ []) items)) (map added ps ++ was.instrs) =
      all_added ps (record { items = items; are = stay.1; same = refl; reached = λ seen. refl }) in
      let reached : slots_reached n.items (p ∷ []) ≡ slots_reached items (p ∷ []) = n.reached (p ∷ []) in
      record {
        unfolded = record { head = record { slot = p; seq = record was { instrs = map added ps ++ was.instrs } }; items = n.items };
        is_tree = record {
          unfolds = are_sequences (set_at p was known equal) n.are are_no_sequences;
          apart = subst Apart (sym reached) apart;
        };
        is = ap (λ l. record (tree_of (record { head = record { slot = p; seq = was }; items = items })) { items = l }) n.same;
      }
    where
      reached_first : (p : ℕ) → among p (p ∷ []) ≡ true
      reached_first p = let e : (p == p) ≡ true = grind arith in ap (λ y. y || false) e

      set_at : (p : ℕ) (was : InstrSeq) → slice_get old p ≡ Some was → seq ≡ was
          → slice_get (slice_set old p changed) p ≡ Some (record was { instrs = map added ps ++ was.instrs })
      set_at p was known equal =
          set_here old p changed was known ∙ ap (λ (s : InstrSeq). Some (record s { instrs = map added ps ++ s.instrs })) equal

pub begun_trees : BegunTrees
begun_trees old start seq ps at m b has =
    let t = has.unfolded in
    let made = begun old seq ps start t.head t.items at has.is_tree.unfolds has.is_tree.apart in
    subst (λ z. HasTree (slice_set old start (record seq { instrs = map added ps ++ seq.instrs })) start z)
    (ap (begun_tree (inserted_operators ps)) has.is ∙ begun_is m ps b) made

-- ---- what is written of it

begun_inserted : (m : Typing) (ps : List Named) (s : Sequence Named) → Inserted s (with_added ps (map_sequence own s))
begun_inserted m [] s = own_inserted m s
begun_inserted m (p ∷ ps) s = insert (begun_inserted m ps s)

marks_again : (xs : List (Marked Named)) → xs ≡ map (map_mark without_origin) (map (map_mark own) xs)
marks_again [] = refl
marks_again (x ∷ xs) = ap (λ l. x ∷ l) (marks_again xs)

begun_text : (ps : List PlainInstr) (xs : List Named) (b : Body Named) → IsNamedBody xs b → IsInsertedText (inserted_operators ps ++ xs) (begun_with (inserted_operators ps) b)
begun_text [] xs b hx =
    hx ∙ marks_again (body_text b) ∙ ap (map (map_mark without_origin)) (sym (text_mapped own b.sequence (with_control b.close End ∷ [])))
begun_text (p ∷ ps) xs b hx =
    ap (λ c. with_control (inserted_operator p) c ∷ map mark_named (inserted_operators ps ++ xs)) (inserted_is_plain p)
    ∙ ap (λ l. with_control (inserted_operator p) (Does Plain) ∷ l) (begun_text ps xs b hx)

begun_typed : (m : Typing) (ps : List PlainInstr) (xs : List Named) → AreTyped m xs → AreTyped m (inserted_operators ps ++ xs)
begun_typed m [] xs h = h
begun_typed m (p ∷ ps) xs h =
    (plain_typed m (role_of (inserted_operator p).op.opcode) (inserted_operator p).op (inserted_is_plain p) (inserted_has_no_blocks p), begun_typed m ps xs h)

not_empty : (s : Sequence Named) (x : Marked Named) (k : List (Marked Named)) → [] ≡ text s (x ∷ k) → ⊥
not_empty Empty x k h = absurd (cc h)
not_empty (Single a action r) x k h = absurd (cc h)
not_empty (Wrapped a w b e r) x k h = absurd (cc h)
not_empty (IfThen a b e r) x k h = absurd (cc h)
not_empty (IfElse a b l c e r) x k h = absurd (cc h)
not_empty (TryCatch a b cs r) x k h = absurd (cc h)
not_empty (TryDelegate a b e n r) x k h = absurd (cc h)

module _ {T : Type 0} (r : OperandRules T) where
  all_same : (xs : List Named) → Probed r xs xs
  all_same [] = done
  all_same (x ∷ xs) = same (all_same xs)

  begun_probed : (ps xs : List Named) (b : Body Named) → IsNamedBody xs b → IsProbe r ps → Probed r xs (ps ++ xs)
  begun_probed ps [] b hx p = absurd (not_empty b.sequence (with_control b.close End) [] hx)
  begun_probed ps (x ∷ xs) b hx p = probe p (all_same (x ∷ xs))

pub begun_texts : (T : Type 0) → BegunTexts T
begun_texts T m ps xs b hx typed =
    let is_text = begun_text ps xs b hx in
    let typed' = begun_typed m ps xs typed in
    let inserted : InsertedBody b (begun_with (inserted_operators ps) b) = record { sequence = begun_inserted m (inserted_operators ps) b.sequence; close = refl } in
    let written = inserted_texts T m xs (inserted_operators ps ++ xs) b (begun_with (inserted_operators ps) b) hx is_text inserted typed' in
    record {
      is_text = is_text;
      typed = typed';
      written = written;
      valid = λ r p results initialised v. written.probed_valid r results initialised (begun_probed r (inserted_operators ps) xs b hx p) v;
    }
