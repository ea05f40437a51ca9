-- Two locals that change places, computed. The bodies and verdicts are by hand.
use Rattle.std.proofs.Common.{◌≡◌, ℕ, zero, suc, List, [], ◌∷◌, map, true, false, None, refl}
use Rattle.wasm_types.specs.declared.val_type.ValType.TheVariants.{I32, I64}
use Rattle.walrus_ir.specs.declared.val_type.InstrSeqType.TheVariants.{Simple}
use Rattle.wasm_operators.specs.declared.types.Opcode.TheVariants.{Byte}
use Rattle.wasm_operators.specs.Operations.{local, operation}
use Rattle.wasm_body.specs.Translation.{Located, at_location}
use Rattle.wasm_body.specs.Naming.{NamedOperation}
use Rattle.wasm_body.specs.NormalForm.{Typing}
use Rattle.wasm_typing.specs.Contexts.{OperandContext}
use Rattle.wasm_typing.specs.StandardRules.{is_valid_body}
use Rattle.renamed_locals.specs.RenamedLocals.{renamed_at, context_with_locals}

abbrev module_typing : Typing
module_typing = record { picked = λ s. Simple None; signature_of = λ t. None; tag_parameters = λ t. []; entry = Simple None }

abbrev with_two : OperandContext
with_two = record {
  types = [];
  functions = [];
  referenced = [];
  tables = [];
  memories = [];
  globals = [];
  elements = [];
  data_segments = 0;
  locals = I32 ∷ I64 ∷ [];
}

abbrev exchanged : ℕ → ℕ
exchanged zero = 1
exchanged (suc zero) = 0
exchanged n = n

abbrev plain : NamedOperation → Located NamedOperation
plain o = at_location o 0

-- local.get of the number, i32.eqz, drop, end
abbrev tests_local : ℕ → List (Located NamedOperation)
tests_local n = plain (operation (Byte 0x20) (local n ∷ [])) ∷ plain (operation (Byte 0x45) []) ∷ plain (operation (Byte 0x1a) []) ∷ plain (operation (Byte 0x0b) []) ∷ []

other_local : map (renamed_at exchanged) (tests_local 0) ≡ tests_local 1
other_local = refl

-- The first local is an i32, and the second isn't; in the other function it is the other way round.
first_is_valid : is_valid_body module_typing with_two [] [] (tests_local 0) ≡ true
first_is_valid = refl

second_is_refused : is_valid_body module_typing with_two [] [] (tests_local 1) ≡ false
second_is_refused = refl

stays_valid : is_valid_body module_typing (context_with_locals with_two (I64 ∷ I32 ∷ [])) [] [] (map (renamed_at exchanged) (tests_local 0)) ≡ true
stays_valid = refl

not_with_its_old_number : is_valid_body module_typing (context_with_locals with_two (I64 ∷ I32 ∷ [])) [] [] (tests_local 0) ≡ false
not_with_its_old_number = refl
