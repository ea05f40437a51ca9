-- The operators of a charge together have the type [] -> [], by the rules of the standard (WebAssembly core specification 3.0, section 3.4,
-- instructions).
use Rattle.std.specs.Prelude.{◌≡◌, [], ◌∷◌, Ok}
use Rattle.wasm_types.specs.declared.val_type.ValType.TheVariants.{I64}
use Rattle.wasm_typing.specs.Contexts.{OperandContext}
use Rattle.wasm_typing.specs.Operands.{◌⟶◌}
use Rattle.wasm_typing.specs.Rules.{call, global_get, global_set}
use Rattle.wasm_typing.specs.StandardRules.{standard_rules}
use Rattle.walrus_metering.specs.declared.charge.Charge.{Charge}
use Rattle.walrus_metering.specs.declared.charge.Charge.TheVariants as charge
use Rattle.walrus_metering.specs.MeteredTexts.{ChargesAreProbes}

-- The function that is called takes an i64 and gives nothing; the global is a mutable i64.
abbrev pub HasChargeType : OperandContext → Charge → Type 0
HasChargeType c (charge.Call func) = call c func ≡ Ok (I64 ∷ [] ⟶ [])
HasChargeType c (charge.Add global) = (global_get c global ≡ Ok ([] ⟶ I64 ∷ [])) × (global_set c global ≡ Ok (I64 ∷ [] ⟶ []))

-- Then each charge is a probe.
abbrev pub TypedChargesAreProbes : Type 0
TypedChargesAreProbes = (c : OperandContext) (charge : Charge) → HasChargeType c charge → ChargesAreProbes (standard_rules c) charge
