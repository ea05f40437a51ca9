-- The tree of a metered function is the old one with a charge before each straight piece.
use Rattle.std.specs.Prelude.{Some, slice_get, option_map, if◌then◌else◌}
use Rattle.std.specs.List.{AllByRecursion}
use Rattle.std.proofs.Common.{◌≡◌, ℕ, zero, suc, ◌+◌, List, [], ◌∷◌, ◌++◌, map, min, Bool, true, false, refl, sym, ap, ◌∙◌, subst, arith}
use Rattle.std.proofs.lemmas.Bool.{ne_eqb}
use Rattle.std.proofs.lemmas.Option.{slice_get-map}
use Rattle.walrus_ir.specs.declared.seq.InstrSeq.{InstrSeq}
use Rattle.walrus_ir.specs.Tree.{Items, no_items, item, Sequences, no_sequences, sequence}
use Rattle.walrus_ir.specs.Unfolding.{SequenceAt, LocatedInstr, AreTreeItems, are_no_items, are_items, AreSequences, are_no_sequences, are_sequences, slots_reached, slots_reached_each, Apart}
use Rattle.wasm_body.specs.Flat.{Named}
use Rattle.wasm_body.specs.FunctionTree.{Head, Instruction, FunctionTree}
use Rattle.wasm_body.specs.InstructionTable.{operation_of}
use Rattle.wasm_body.specs.NormalForm.{normal_form}
use Rattle.wasm_body.specs.TreeOfFunction.{tree_of, instruction_in, head_of, items_in, sequences_in, HasTree}
use Rattle.wasm_body.proofs.Structure.Along.{HasControl, along, weaker}
use Rattle.wasm_insertion.specs.Insertion.{rest_of_piece}
use Rattle.walrus_insertion.specs.Edits.{added}
use Rattle.walrus_insertion.specs.BegunBodies.{inserted_operators}
use Rattle.walrus_insertion.proofs.AddedItems.{before_items, NewItems, all_added}
use Rattle.walrus_metering.specs.declared.costs.Costs.{Costs}
use Rattle.walrus_metering.specs.declared.charge.Charge.{Charge}
use Rattle.walrus_metering.specs.declared.charge.Charge.TheVariants as charge
use Rattle.walrus_metering.specs.OperatorCosts.{operator_cost}
use Rattle.walrus_metering.specs.Charges.{charging, charge_of}
use Rattle.walrus_metering.specs.MeteredInstructions.{instr_goes_straight, cost_from, charged_for, instrs_with_charge, metered_instrs, metered_sequence}
use Rattle.walrus_metering.specs.MeteredTrees.{charge_operators, MeteredTrees}
use Rattle.walrus_metering.proofs.PaidItems.{items_cost, paying, paid_items, paid_sequences}
use Rattle.walrus_metering.proofs.ChargedBodies.{body_inserted, whole_form}

record NewSequences (new : List InstrSeq) (around : List ℕ) (old : Sequences SequenceAt LocatedInstr) (wanted : Sequences Head Instruction) (places : List ℕ) : Type 0 where
  pub sequences : Sequences SequenceAt LocatedInstr
  pub are : AreSequences new places sequences
  pub same : sequences_in around sequences ≡ wanted
  pub reached : (seen : List ℕ) → slots_reached_each sequences seen ≡ slots_reached_each old seen

-- the operators of a charge
charging_named : (c : Charge) (n : ℕ) → inserted_operators (charging c n) ≡ charge_operators c n
charging_named (charge.Call func) n = refl
charging_named (charge.Add global) n = refl

record IsMore (n : ℕ) : Type 0 where
  pub less : ℕ
  pub is : n ≡ suc less

-- something is charged for what costs something
more_charged : (n : ℕ) → IsMore (charged_for (suc n))
more_charged n = record { less = min n 9223372036854775806; is = omega arith }

nothing_charged : charged_for 0 ≡ 0
nothing_charged = omega arith

-- what is charged for such a number
is_charging : (c : Charge) (less : ℕ) → charging c (suc less) ≡ charge_of c (suc less)
is_charging c less = ap (λ y. if y then [] else charging c (suc less)) (sym (ne_eqb (suc less) 0 (λ e. absurd (omega (arith, e)))))

module _ (costs : Costs) (c : Charge) where
  charge_paid : {new : List InstrSeq} {around : List ℕ} {old : Items SequenceAt LocatedInstr} {wanted : Items Head Instruction} {instrs : List LocatedInstr}
      (k less : ℕ) → k ≡ suc less → NewItems new around old wanted instrs
      → NewItems new around old (before_items (charge_operators c k) wanted) (map added (charge_of c k) ++ instrs)
  charge_paid {new = new} {around = around} {old = old} {wanted = wanted} {instrs = instrs} k less e n =
      subst (λ j. NewItems new around old (before_items (charge_operators c j) wanted) (map added (charge_of c j) ++ instrs)) (sym e)
      (subst (λ ps. NewItems new around old (before_items (charge_operators c (suc less)) wanted) (map added ps ++ instrs)) (is_charging c less)
      (subst (λ ops. NewItems new around old (before_items ops wanted) (map added (charging c (suc less)) ++ instrs)) (charging_named c (suc less))
      (all_added (charging c (suc less)) n)))

  paid : {new : List InstrSeq} {around : List ℕ} {old : Items SequenceAt LocatedInstr} {wanted : Items Head Instruction} {instrs : List LocatedInstr}
      (straight : Bool) (n : ℕ) → NewItems new around old wanted instrs
      → NewItems new around old (paying costs c straight n wanted) (instrs_with_charge c straight n instrs)
  paid true n h = h
  paid {new = new} {around = around} {old = old} {wanted = wanted} {instrs = instrs} false zero h =
      subst (λ k. NewItems new around old wanted (map added (charge_of c k) ++ instrs)) (sym nothing_charged) h
  paid false (suc n) h = charge_paid (charged_for (suc n)) (more_charged n).less (more_charged n).is h

  cost_in : {b : List InstrSeq} {xs : List LocatedInstr} {items : Items SequenceAt LocatedInstr} (around : List ℕ) → AreTreeItems b xs items
      → items_cost costs c (items_in around items) ≡ cost_from costs xs
  cost_in around are_no_items = refl
  cost_in around (are_items {x = x} sequences rest) =
      ap (λ n. operator_cost costs (operation_of x.0).opcode + rest_of_piece (instr_goes_straight x) n) (cost_in around rest)

  module _ (old : List InstrSeq) where
    abbrev new : List InstrSeq
    new = map (metered_sequence costs c) old

    at_slot : (slot : ℕ) (seq : InstrSeq) → slice_get old slot ≡ Some seq → slice_get new slot ≡ Some (metered_sequence costs c seq)
    at_slot slot seq known = slice_get-map (metered_sequence costs c) old slot ∙ ap (option_map (metered_sequence costs c)) known

    -- items after a place, or in a sequence
    placed : {xs : List LocatedInstr} {items : Items SequenceAt LocatedInstr} (around : List ℕ) (straight : Bool) → AreTreeItems old xs items
        → NewItems new around items (paid_items costs c (items_in around items)) (metered_instrs costs c xs)
        → NewItems new around items (paying costs c straight (items_cost costs c (items_in around items)) (paid_items costs c (items_in around items)))
        (instrs_with_charge c straight (cost_from costs xs) (metered_instrs costs c xs))
    placed {xs = xs} {items = items} around straight are h =
        subst (λ n. NewItems new around items (paying costs c straight n (paid_items costs c (items_in around items)))
        (instrs_with_charge c straight (cost_from costs xs) (metered_instrs costs c xs)))
        (sym (cost_in around are))
        (paid straight (cost_from costs xs) h)

    mutual
      items_metered : {xs : List LocatedInstr} {items : Items SequenceAt LocatedInstr} (around : List ℕ) → AreTreeItems old xs items
          → NewItems new around items (paid_items costs c (items_in around items)) (metered_instrs costs c xs)
      items_metered around are_no_items = record { items = no_items; are = are_no_items; same = refl; reached = λ seen. refl }
      items_metered around (are_items {x = x} {inside = old_inside} {rest = old_rest} sequences rest) =
          let inside = sequences_metered around sequences in
          let after = placed around (instr_goes_straight x) rest (items_metered around rest) in
          record {
            items = item x inside.sequences after.items;
            are = are_items inside.are after.are;
            same =
                ap (λ ss. item (instruction_in around x) ss (items_in around after.items)) inside.same
                ∙ ap (λ l. item (instruction_in around x) (paid_sequences costs c (sequences_in around old_inside)) l) after.same;
            reached = λ seen. after.reached (slots_reached_each inside.sequences seen) ∙ ap (λ s. slots_reached old_rest s) (inside.reached seen);
          }

      sequences_metered : {slots : List ℕ} {ss : Sequences SequenceAt LocatedInstr} (around : List ℕ) → AreSequences old slots ss
          → NewSequences new around ss (paid_sequences costs c (sequences_in around ss)) slots
      sequences_metered around are_no_sequences = record { sequences = no_sequences; are = are_no_sequences; same = refl; reached = λ seen. refl }
      sequences_metered around (are_sequences {p = p} {seq = seq} {items = old_items} {rest = old_rest} known items others) =
          let first = placed (p ∷ around) false items (items_metered (p ∷ around) items) in
          let following = sequences_metered around others in
          record {
            sequences = sequence (record { slot = p; seq = metered_sequence costs c seq }) first.items following.sequences;
            are = are_sequences (at_slot p seq known) first.are following.are;
            same =
                ap (λ l. sequence (head_of seq) l (sequences_in around following.sequences)) first.same
                ∙ ap (λ ss. sequence (head_of seq)
                (paying costs c false (items_cost costs c (items_in (p ∷ around) old_items)) (paid_items costs c (items_in (p ∷ around) old_items))) ss) following.same;
            reached = λ seen. following.reached (slots_reached first.items (p ∷ seen)) ∙ ap (λ s. slots_reached_each old_rest s) (first.reached (p ∷ seen));
          }

    -- ---- the tree from a sequence on

    abbrev paid_tree : FunctionTree → FunctionTree
    paid_tree t = record t { items = paying costs c false (items_cost costs c t.items) (paid_items costs c t.items) }

    one_tree : (start : ℕ) (h : SequenceAt) (is : Items SequenceAt LocatedInstr) → AreSequences old (start ∷ []) (sequence h is no_sequences)
        → Apart (slots_reached_each (sequence h is no_sequences) [])
        → HasTree new start (paid_tree (tree_of (record { head = h; items = is })))
    one_tree start h is (are_sequences {p = p} {seq = seq} {items = items} known are others) apart =
        let first = placed (p ∷ []) false are (items_metered (p ∷ []) are) in
        let reached : slots_reached_each (sequence (record { slot = p; seq = metered_sequence costs c seq }) first.items no_sequences) [] ≡ slots_reached items (p ∷ []) =
        first.reached (p ∷ []) in
        record {
          unfolded = record { head = record { slot = p; seq = metered_sequence costs c seq }; items = first.items };
          is_tree = record {
            unfolds = are_sequences (at_slot p seq known) first.are are_no_sequences;
            apart = subst Apart (sym reached) apart;
          };
          is = ap (λ l. record (tree_of (record { head = record { slot = p; seq = seq }; items = items })) { items = l }) first.same;
        }

no_condition : (xs : List Named) → AllByRecursion (λ x. Unit {0}) xs
no_condition [] = tt
no_condition (x ∷ xs) = (tt, no_condition xs)

pub metered_trees : MeteredTrees
metered_trees costs c old start m xs b named has =
    let t = has.unfolded in
    let each = weaker (λ a k. HasControl a k × Unit {0}) HasControl (λ a k h. h.0) b.sequence (along (λ x. Unit {0}) xs b named (no_condition xs)) in
    let made : HasTree (new costs c old) start (paid_tree costs c old (tree_of t)) =
    one_tree costs c old start t.head t.items has.is_tree.unfolds has.is_tree.apart in
    let whole : HasTree (new costs c old) start (paid_tree costs c old (normal_form m b)) =
    subst (λ z. HasTree (new costs c old) start (paid_tree costs c old z)) has.is made in
    record {
      inserted = body_inserted costs c b;
      has_tree = subst (HasTree (new costs c old) start) (ap (λ l. record (normal_form m b) { items = l }) (sym (whole_form costs c m b.sequence each))) whole;
    }
