-- Instructions inserted before items of a tree.
use Rattle.std.proofs.Common.{◌≡◌, ℕ, List, [], ◌∷◌, ◌++◌, map, refl, sym, ap, ◌∙◌, subst}
use Rattle.walrus_ir.specs.declared.seq.InstrSeq.{InstrSeq}
use Rattle.walrus_ir.specs.Tree.{Items, item, no_sequences}
use Rattle.walrus_ir.specs.Unfolding.{SequenceAt, LocatedInstr, AreTreeItems, are_items, AreSequences, are_no_sequences, slots_reached}
use Rattle.wasm_body.specs.Flat.{Named}
use Rattle.wasm_body.specs.FunctionTree.{Head, Instruction}
use Rattle.wasm_body.specs.NormalForm.{instruction}
use Rattle.wasm_body.specs.TreeOfFunction.{items_in}
use Rattle.walrus_insertion.specs.declared.plain_instr.PlainInstr.{PlainInstr}
use Rattle.walrus_insertion.specs.Edits.{added}
use Rattle.walrus_insertion.specs.BegunBodies.{inserted_operator, inserted_operators}
use Rattle.walrus_insertion.proofs.PlainOperators.{no_slots, inserted_instruction}

abbrev pub before_items : List Named → Items Head Instruction → Items Head Instruction
before_items [] is = is
before_items (p ∷ ps) is = item (instruction p []) no_sequences (before_items ps is)

-- the items of a new sequence, which are to be these
pub record NewItems (new : List InstrSeq) (around : List ℕ) (old : Items SequenceAt LocatedInstr) (wanted : Items Head Instruction) (instrs : List LocatedInstr) : Type 0 where
  pub items : Items SequenceAt LocatedInstr
  pub are : AreTreeItems new instrs items
  pub same : items_in around items ≡ wanted
  pub reached : (seen : List ℕ) → slots_reached items seen ≡ slots_reached old seen

pub all_added : {new : List InstrSeq} {around : List ℕ} {old : Items SequenceAt LocatedInstr} {wanted : Items Head Instruction} {instrs : List LocatedInstr}
    (ps : List PlainInstr) → NewItems new around old wanted instrs → NewItems new around old (before_items (inserted_operators ps) wanted) (map added ps ++ instrs)
all_added [] n = n
all_added {new = new} {around = around} {old = old} {wanted = wanted} {instrs = instrs} (p ∷ ps) n =
    let later = all_added ps n in
    record {
      items = item (added p) no_sequences later.items;
      are = are_items (subst (λ slots. AreSequences new slots no_sequences) (sym (no_slots p)) are_no_sequences) later.are;
      same =
          ap (λ i. item i no_sequences (items_in around later.items)) (sym (inserted_instruction around p))
          ∙ ap (λ l. item (instruction (inserted_operator p) []) no_sequences l) later.same;
      reached = later.reached;
    }
