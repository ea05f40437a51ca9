-- Charges of the right types are probes.
use Rattle.std.proofs.Common.{◌≡◌, ℕ, List, [], ◌∷◌, Option, Some, Ok, refl, ap, ◌∙◌}
use Rattle.std.specs.Prelude.{option_and_then}
use Rattle.std.specs.Result.{result_ok}
use Rattle.wasm_types.specs.declared.val_type.ValType.{ValType}
use Rattle.wasm_types.specs.declared.val_type.ValType.TheVariants.{I64}
use Rattle.wasm_operators.specs.declared.types.Opcode.TheVariants.{Byte}
use Rattle.wasm_operators.specs.Operations.{operation}
use Rattle.wasm_numbers.specs.Results.{◌>>=◌}
use Rattle.wasm_body.specs.Flat.{Named}
use Rattle.wasm_body.specs.Validity.{Known, Point, Checked}
use Rattle.wasm_body.specs.Flat.{Named}
use Rattle.wasm_body.specs.ValidityLaws.{KnownOperand, of_type}
use Rattle.wasm_insertion.specs.InsertedValidity.{after_change, after_plain}
use Rattle.wasm_typing.specs.Contexts.{OperandContext}
use Rattle.wasm_typing.specs.Operands.{InstructionType, ◌⟶◌, typed, with_operand_list}
use Rattle.wasm_typing.specs.Rules.{call, global_get, global_set}
use Rattle.wasm_typing.specs.StandardRules.{standard_rules}
use Rattle.walrus_metering.specs.declared.charge.Charge.{Charge}
use Rattle.walrus_metering.specs.declared.charge.Charge.TheVariants as charge
use Rattle.walrus_metering.specs.MeteredInstructions.{charged_for}
use Rattle.walrus_metering.specs.MeteredTrees.{const_of, nowhere, charging_operator, operators_for}
use Rattle.inserted_code.specs.ChargeTypes.{HasChargeType, TypedChargesAreProbes}

module _ (c : OperandContext) where
  -- the point with an i64 more
  abbrev pushed : Point KnownOperand → Point KnownOperand
  pushed p = with_operand_list p (Known (of_type I64) ∷ p.operands)

  -- what an operator of this type makes of a point, and then the rest
  abbrev made : Checked InstructionType → Point KnownOperand → (rest : Point KnownOperand → Option (Point KnownOperand)) → Option (Point KnownOperand)
  made t p rest = option_and_then (λ k. rest (after_change k p)) (result_ok (t >>= λ u. typed c u p))

  -- the operators that add to a global, after the first
  abbrev adding : (global n : ℕ) → List Named
  adding global n = const_of (charged_for n) ∷ nowhere (operation (Byte 0x7c) []) ∷ charging_operator (charge.Add global) ∷ []

  neutral : (charge : Charge) → HasChargeType c charge → (n : ℕ) (p : Point KnownOperand) → after_plain (standard_rules c) (operators_for charge n) p ≡ Some p
  neutral (charge.Call func) h n p = ap (λ t. made t (pushed p) (λ q. Some q)) h
  neutral (charge.Add global) h n p =
      ap (λ t. made t p (λ q. after_plain (standard_rules c) (adding global n) q)) h.0 ∙ ap (λ t. made t (pushed p) (λ q. Some q)) h.1

pub typed_charges_are_probes : TypedChargesAreProbes
typed_charges_are_probes c (charge.Call func) h n = record { plain = (refl, (refl, tt)); neutral = λ p. neutral c (charge.Call func) h n p }
typed_charges_are_probes c (charge.Add global) h n = record {
  plain = (refl, (refl, (refl, (refl, tt))));
  neutral = λ p. neutral c (charge.Add global) h n p;
}
