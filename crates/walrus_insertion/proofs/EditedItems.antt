-- Where each sequence of a builder is the old one with instructions inserted, the tree from a sequence on is the old one with these inserted.
use Rattle.std.specs.Prelude.{Some, slice_get}
use Rattle.std.proofs.Common.{◌≡◌, ℕ, suc, List, [], ◌∷◌, ◌++◌, map, Bool, true, false, refl, sym, ap, ◌∙◌, subst}
use Rattle.walrus_ir.specs.declared.control.BlockKind.{BlockKind}
use Rattle.walrus_ir.specs.declared.seq.InstrSeq.{InstrSeq}
use Rattle.walrus_ir.specs.declared.instr.Instr.{Instr}
use Rattle.walrus_ir.specs.declared.instr.Instr.TheVariants as instr
use Rattle.walrus_ir.specs.Tree.{Items, no_items, item, Sequences, no_sequences, sequence, Tree, alone}
use Rattle.walrus_ir.specs.Unfolding.{SequenceAt, LocatedInstr, slots_in, AreTreeItems, are_no_items, are_items, AreSequences, are_no_sequences, are_sequences, slots_reached, slots_reached_each, Apart, IsTree}
use Rattle.wasm_body.specs.Control.{role_of}
use Rattle.wasm_body.specs.FunctionTree.{Head, Instruction}
use Rattle.wasm_body.specs.InstructionTable.{operation_of}
use Rattle.wasm_body.specs.NormalForm.{instruction}
use Rattle.wasm_body.specs.TreeOfFunction.{instruction_in, head_of, items_in, sequences_in}
use Rattle.wasm_insertion.specs.EditedTrees.{never_goes_on, EditedItems, no_item, added_item, going_item, last_item, EditedSequences, no_sequence, edited_sequence}
use Rattle.walrus_insertion.specs.declared.plain_instr.PlainInstr.{PlainInstr}
use Rattle.walrus_insertion.specs.Edits.{added}
use Rattle.walrus_insertion.specs.InsertedInstructions.{ends_code, InsertedFrom, at_end, before_last, before_next, GivesAny, EditedAt}
use Rattle.walrus_insertion.specs.BegunBodies.{inserted_operator}
use Rattle.walrus_insertion.proofs.PlainOperators.{no_slots, inserted_is_plain, inserted_has_no_blocks, inserted_instruction}
use Rattle.walrus_insertion.proofs.CutTrees.{IsCut, AreCut}

-- an instruction that never goes on contains no sequence
none_inside : (x : Instr) → never_goes_on (role_of (operation_of x).opcode) ≡ true → slots_in x ≡ []
none_inside (instr.Block x) h = absurd (cc h)
none_inside (instr.Loop x) h = absurd (cc h)
none_inside (instr.IfElse x) h = absurd (cc h)
none_inside (instr.TryTable x) h = absurd (cc h)
none_inside (instr.Try x) h = absurd (cc h)
none_inside _ h = refl

no_sequences_at : {b : List InstrSeq} {slots : List ℕ} {inside : Sequences SequenceAt LocatedInstr} → AreSequences b slots inside → slots ≡ []
    → inside ≡ no_sequences
no_sequences_at are_no_sequences e = refl
no_sequences_at (are_sequences k i r) e = absurd (cc e)

-- the items of a sequence in the old tree and in the new one
record NewItems (new : List InstrSeq) (around : List ℕ) (old : Items SequenceAt LocatedInstr) (instrs : List LocatedInstr) : Type 0 where
  pub items : Items SequenceAt LocatedInstr
  pub are : AreTreeItems new instrs items
  pub edited : EditedItems (items_in around old) (items_in around items)
  pub reached : (seen : List ℕ) → slots_reached items seen ≡ slots_reached old seen

pub record NewSequences (new : List InstrSeq) (around : List ℕ) (old : Sequences SequenceAt LocatedInstr) (places : List ℕ) : Type 0 where
  pub sequences : Sequences SequenceAt LocatedInstr
  pub are : AreSequences new places sequences
  pub edited : EditedSequences (sequences_in around old) (sequences_in around sequences)
  pub reached : (seen : List ℕ) → slots_reached_each sequences seen ≡ slots_reached_each old seen

one_added : {new : List InstrSeq} {around : List ℕ} {old : Items SequenceAt LocatedInstr} {instrs : List LocatedInstr} (p : PlainInstr)
    → NewItems new around old instrs → NewItems new around old (added p ∷ instrs)
one_added {new = new} {around = around} {old = old} p n = record {
  items = item (added p) no_sequences n.items;
  are = are_items (subst (λ slots. AreSequences new slots no_sequences) (sym (no_slots p)) are_no_sequences) n.are;
  edited =
      subst (λ i. EditedItems (items_in around old) (item i no_sequences (items_in around n.items))) (inserted_instruction around p)
      (added_item (inserted_operator p) (inserted_is_plain p) (inserted_has_no_blocks p) n.edited);
  reached = n.reached;
}

all_added : {new : List InstrSeq} {around : List ℕ} {old : Items SequenceAt LocatedInstr} {instrs : List LocatedInstr} (ps : List PlainInstr)
    → NewItems new around old instrs → NewItems new around old (map added ps ++ instrs)
all_added [] n = n
all_added (p ∷ ps) n = one_added p (all_added ps n)

all_added_alone : {new : List InstrSeq} {around : List ℕ} {old : Items SequenceAt LocatedInstr} (ps : List PlainInstr)
    → NewItems new around old [] → NewItems new around old (map added ps)
all_added_alone [] n = n
all_added_alone (p ∷ ps) n = one_added p (all_added_alone ps n)

-- the last instruction, which never goes on
last_kept : {old new : List InstrSeq} (around : List ℕ) (x : LocatedInstr) {xs : List LocatedInstr} {inside : Sequences SequenceAt LocatedInstr}
    {rest : Items SequenceAt LocatedInstr} → ends_code x ≡ true → AreSequences old (slots_in x.0) inside → AreTreeItems old xs rest
    → items_in around rest ≡ no_items → NewItems new around (item x inside rest) (x ∷ xs)
last_kept {new = new} around x {inside = inside} never sequences are_no_items e =
    let none = no_sequences_at sequences (none_inside x.0 never) in
    let one : NewItems new around (item x no_sequences no_items) (x ∷ []) = record {
      items = item x no_sequences no_items;
      are = are_items (subst (λ slots. AreSequences new slots no_sequences) (sym (none_inside x.0 never)) are_no_sequences) are_no_items;
      edited = last_item never;
      reached = λ seen. refl;
    } in
    subst (λ ss. NewItems new around (item x ss no_items) (x ∷ [])) (sym none) one
last_kept around x never sequences (are_items s r) e = absurd (cc e)

module _ (old new : List InstrSeq) (edited : (slot : ℕ) (seq : InstrSeq) → slice_get old slot ≡ Some seq → EditedAt new slot seq) where
  mutual
    items_edited : {n : ℕ} {xs ys : List LocatedInstr} {items : Items SequenceAt LocatedInstr} (around : List ℕ)
        (kind : BlockKind) (all : List LocatedInstr) → AreTreeItems old xs items
        → InsertedFrom (GivesAny kind all) tt n xs ys tt → IsCut (items_in around items) → NewItems new around items ys
    items_edited around kind all are_no_items (at_end ps given) cut =
        all_added_alone ps (record { items = no_items; are = are_no_items; edited = no_item; reached = λ seen. refl })
    items_edited around kind all (are_items {x = x} sequences rest) (before_last ps never given) cut =
        all_added ps (last_kept around x never sequences rest (cut.0 never))
    items_edited around kind all (are_items {x = x} {rest = old_rest} sequences rest) (before_next ps goes given later) cut =
        let inside = sequences_edited around sequences cut.1 in
        let after = items_edited around kind all rest later cut.2 in
        all_added ps (record {
          items = item x inside.sequences after.items;
          are = are_items inside.are after.are;
          edited = going_item goes inside.edited after.edited;
          reached = λ seen. after.reached (slots_reached_each inside.sequences seen) ∙ ap (λ s. slots_reached old_rest s) (inside.reached seen);
        })

    pub sequences_edited : {slots : List ℕ} {ss : Sequences SequenceAt LocatedInstr} (around : List ℕ) → AreSequences old slots ss
        → AreCut (sequences_in around ss) → NewSequences new around ss slots
    sequences_edited around are_no_sequences cut =
        record { sequences = no_sequences; are = are_no_sequences; edited = no_sequence; reached = λ seen. refl }
    sequences_edited around (are_sequences {p = p} {seq = seq} {items = old_items} {rest = rest} known items others) cut =
        let at = edited p seq known in
        let first = items_edited (p ∷ around) at.edited.kind seq.instrs items at.edited.instrs cut.0 in
        let following = sequences_edited around others cut.1 in
        let same_head : head_of seq ≡ head_of at.seq =
        ap (λ t. record (head_of seq) { type = t }) (sym at.edited.type) ∙ ap (λ l. record (head_of at.seq) { end_location = l }) (sym at.edited.end) in
        record {
          sequences = sequence (record { slot = p; seq = at.seq }) first.items following.sequences;
          are = are_sequences at.at_slot first.are following.are;
          edited =
              subst (λ h. EditedSequences (sequence (head_of seq) (items_in (p ∷ around) old_items) (sequences_in around rest)) (sequence h (items_in (p ∷ around) first.items) (sequences_in around following.sequences))) same_head
              (edited_sequence first.edited following.edited);
          reached = λ seen. following.reached (slots_reached first.items (p ∷ seen)) ∙ ap (λ s. slots_reached_each rest s) (first.reached (p ∷ seen));
        }
