-- The shortest encoding of an operator.
use Rattle.std.proofs.Common.{ℕ, List, [], ◌∷◌, ◌++◌, refl, sym, inl}
use Rattle.wasm_operators.specs.declared.types.Opcode.{Opcode}
use Rattle.wasm_operators.specs.declared.types.Opcode.TheVariants.{Byte, Prefixed}
use Rattle.wasm_operators.specs.Operations.{RawOperation}
use Rattle.wasm_operators.specs.Opcodes.{IsOpcode}
use Rattle.wasm_operators.specs.Spelling.{Spells}
use Rattle.wasm_operators.specs.Shortest.{IsLeast, short_number, short_immediates, short_opcode, short}
use Rattle.wasm_operators.proofs.Shortness.{least_append, least_along, least_u32}
use Rattle.wasm_operators.proofs.ShortestImmediates.{least_immediates}

opcode_is : (o : Opcode) (text : List ℕ) → IsOpcode o text → IsOpcode o (short_opcode o) × IsLeast (short_opcode o) text
opcode_is (Byte b) text h = ((h.0, h.1, refl), inl (sym h.2))
opcode_is (Prefixed prefix n) text h =
    let s = (least_u32 n).is h.2 h.4 in
    ((h.0, h.1, short_number n, refl, s.0), least_along (prefix ∷ short_number n) (prefix ∷ h.2) text (sym h.3) (least_append (prefix ∷ []) (short_number n) (prefix ∷ []) h.2 (inl refl) s.1))

pub shortest_operation : (o : RawOperation) (text : List ℕ) → Spells o text → Spells o (short o) × IsLeast (short o) text
shortest_operation o text h =
    let p = opcode_is o.opcode h.first h.opcode in
    let q = (least_immediates o.immediates).is h.others h.immediates in (
      record { first = short_opcode o.opcode; others = short_immediates o.immediates; parts = refl; opcode = p.0; kinds = h.kinds; immediates = q.0 },
      least_along (short o) (h.first ++ h.others) text (sym h.parts) (least_append _ _ _ _ p.1 q.1),
    )
