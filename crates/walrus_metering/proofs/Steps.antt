-- Steps by which a sequence gets its charges.
use Rattle.std.proofs.Common.{◌≡◌, ℕ, List, [], ◌∷◌, ◌++◌, map, Bool, true, false, refl, sym, ap, ◌∙◌, append_assoc, subst, length, arith}
use Rattle.std.proofs.lemmas.List.{append-nil}
use Rattle.walrus_ir.specs.Unfolding.{LocatedInstr}
use Rattle.walrus_insertion.specs.declared.probe.Edit.{Edit}
use Rattle.walrus_insertion.specs.declared.probe.Edit.TheVariants.{Keep, Insert}
use Rattle.walrus_insertion.specs.Edits.{added, edited}
use Rattle.walrus_insertion.proofs.Editing.{edited_inserts}
use Rattle.walrus_metering.specs.declared.costs.Costs.{Costs}
use Rattle.walrus_metering.specs.declared.charge.Charge.{Charge}
use Rattle.walrus_metering.specs.Charges.{charge_of}
use Rattle.walrus_metering.specs.MeteredInstructions.{instr_goes_straight, cost_from, charged_for, charge_at, instrs_with_charge, metered_instrs, all_metered}

module _ (costs : Costs) (charge : Charge) (all : List LocatedInstr) where
  -- Whatever later steps complete what is left complete the sequence.
  abbrev pub Completes : List Edit → Bool → List LocatedInstr → Type 0
  Completes said goes_on left =
      (later : List Edit) → edited later left ≡ instrs_with_charge charge goes_on (cost_from costs left) (metered_instrs costs charge left)
      → edited (said ++ later) all ≡ all_metered costs charge all

  pub none_said : Completes [] false all
  none_said later h = h

  regrouped : (ks ls ms : List Edit) → ks ++ (ls ++ Keep ∷ ms) ≡ (ks ++ ls ++ Keep ∷ []) ++ ms
  regrouped ks ls ms = sym (append_assoc (ks ++ ls) (Keep ∷ []) ms ∙ append_assoc ks ls (Keep ∷ ms))

  -- one more place, and the instruction after it
  pub one_said : (said : List Edit) (goes_on : Bool) (x : LocatedInstr) (xs : List LocatedInstr) → Completes said goes_on (x ∷ xs)
      → Completes (said ++ map Insert (charge_at charge goes_on (cost_from costs (x ∷ xs))) ++ Keep ∷ []) (instr_goes_straight x) xs
  one_said said goes_on x xs before later h =
      let ps = charge_at charge goes_on (cost_from costs (x ∷ xs)) in
      let made : edited (map Insert ps ++ Keep ∷ later) (x ∷ xs)
      ≡ instrs_with_charge charge goes_on (cost_from costs (x ∷ xs)) (metered_instrs costs charge (x ∷ xs)) =
      edited_inserts ps (Keep ∷ later) (x ∷ xs)
      ∙ ap (λ ys. map added ps ++ x ∷ ys) h in
      subst (λ es. edited es all ≡ all_metered costs charge all) (regrouped said (map Insert ps) later) (before (map Insert ps ++ Keep ∷ later) made)

  nothing_charged : charged_for 0 ≡ 0
  nothing_charged = omega arith

  nothing_left : (goes_on : Bool) → [] ≡ instrs_with_charge charge goes_on 0 []
  nothing_left true = refl
  nothing_left false = ap (λ n. map added (charge_of charge n) ++ []) (sym nothing_charged)

  -- nothing is left
  pub all_said : (said : List Edit) (goes_on : Bool) (left : List LocatedInstr) → length left ≡ 0 → Completes said goes_on left
      → edited said all ≡ all_metered costs charge all
  all_said said goes_on [] e h = subst (λ es. edited es all ≡ all_metered costs charge all) (append-nil said) (h [] (nothing_left goes_on))
  all_said said goes_on (x ∷ xs) e h = absurd (omega (arith, e))
