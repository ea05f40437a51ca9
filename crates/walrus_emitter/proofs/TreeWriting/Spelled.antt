-- Instructions without sequences that are an opcode of one byte and at most one immediate, and their bytes.
use Rattle.std.specs.Prelude.{◌≡◌, ◌<◌, ◌^◌, ℕ, ℤ, List, [], ◌∷◌, Bool, true, false, None, Result, Ok}
use Rattle.std.proofs.Common.{refl, sym, ap, ◌∙◌, append-nil}
use Rattle.std.specs.Bool.{OnTrue}
use Rattle.std.proofs.lemmas.Bool.{lt-ltb}
use Rattle.walrus_ir.specs.declared.instr.Instr.{Instr}
use Rattle.wasm_types.specs.declared.memory.MemArg.{MemArg}
use Rattle.walrus_ir.specs.declared.val_type.InstrSeqType.TheVariants.{Simple}
use Rattle.walrus_ir.specs.declared.seq.InstrSeq.{InstrSeq}
use Rattle.walrus_ir.specs.Events.{VisitInstruction}
use Rattle.wasm_numbers.specs.Results.{◌>>=◌, unless, with_fault}
use Rattle.walrus_ir.specs.Types.{ModuleType}
use Rattle.walrus_ir.specs.Unfolding.{slots_in}
use Rattle.wasm_operators.specs.declared.types.Opcode.TheVariants.{Byte}
use Rattle.wasm_operators.specs.declared.types.Space.{Space}
use Rattle.wasm_operators.specs.declared.types.Space.TheVariants.{Memories}
use Rattle.wasm_operators.specs.Operations.{index, local, label, access, i32, i64, RawImmediate, RawOperation, operation}
use Rattle.wasm_operators.specs.Shortest.{short_number, short_integer, short_access, short_immediate, short}
use Rattle.wasm_body.specs.declared.error.EmitError.{EmitError}
use Rattle.wasm_body.specs.declared.error.EmitError.TheVariants.{TooLarge, Index}
use Rattle.wasm_body.specs.declared.error.IndexError.TheVariants.{Unnumbered}
use Rattle.wasm_body.specs.Bytes.{Numbers, numbering, in_32_bits}
use Rattle.wasm_body.specs.FlatText.{exponent_of, then_by, with_block_type}
use Rattle.wasm_body.specs.InstructionTable.{PlacedOperation, access_at, operation_of}
use Rattle.wasm_body.specs.Translation.{translate}
use Rattle.wasm_body.specs.TreeOfFunction.{with_targets}
use Rattle.walrus_maps.specs.declared.ids_to_indices.IdsToIndices.{IdsToIndices}
use Rattle.walrus_maps.specs.IndexMaps.{number_of}
use Rattle.walrus_numbering.specs.NumberMaps.{fitting_number, numbers_by}
use Rattle.walrus_emit_state.specs.Emission.{emitter_after}
use Rattle.walrus_emit_state.specs.TreeWriting.Closers.{places_of}
use Rattle.walrus_emit_state.specs.TreeWriting.Drafts.{Drafted, with_bytes}
use Rattle.walrus_emit_state.specs.TreeWriting.ScopeLists.{ScopeLists}
use Rattle.walrus_emit_state.specs.TreeWriting.ScopeTables.{depth_in}
use Rattle.walrus_to_operators.specs.TreeWriting.Operators.{numbered_operator}
use Rattle.walrus_emitter.specs.TreeWriting.Emitters.{emitter_at}
use Rattle.walrus_emitter.proofs.TreeWriting.Steps.{operation_visited}

-- ---- numbers

in_range : (n : ℕ) → n < 2 ^ 32 → in_32_bits n ≡ Ok n
in_range n fits = ap (λ b. unless b TooLarge >>= λ _. Ok n) (lt-ltb n (2 ^ 32) fits)

-- the new index of an id, as a number
pub numbered : (types : List ModuleType) (ids : IdsToIndices) (locals : List (ℕ × ℕ)) (space : Space) (id n : ℕ) → number_of ids space id ≡ Ok n → n < 2 ^ 32
    → (numbers_by types ids locals).number_of space id ≡ Ok n
numbered types ids locals space id n found fits =
    ap (λ r. with_fault Index (r >>= fitting_number (Unnumbered space))) found
    ∙ ap (λ b. with_fault Index (unless b (Unnumbered space) >>= λ _. Ok n)) (lt-ltb n (2 ^ 32) fits)

-- ---- the bytes of an instruction

-- The operator of the instruction has these bytes.
pub record IsSpelled (to : Numbers) (around : List ℕ) (i : Instr) (bytes : List ℕ) : Type 0 where
  pub operator : RawOperation
  pub is : numbered_operator to around (Simple None) i ≡ Ok operator
  pub bytes_are : short operator ≡ bytes

-- the operator of a row of the table
abbrev numbered_row : Numbers → List ℕ → PlacedOperation → Result RawOperation EmitError
numbered_row to around o = translate (with_block_type (then_by (numbering to)) (Simple None)) (with_targets around o)

-- an opcode with one immediate
abbrev with_one : ℕ → Result RawImmediate EmitError → Result RawOperation EmitError
with_one byte r = (r >>= λ x. Ok (x ∷ [])) >>= λ xs. Ok (operation (Byte byte) xs)

module _ (to : Numbers) (around : List ℕ) (i : Instr) (byte : ℕ) where
  pub byte_spelled : operation_of i ≡ operation (Byte byte) [] → IsSpelled to around i (byte ∷ [])
  byte_spelled row = record { operator = operation (Byte byte) []; is = ap (numbered_row to around) row; bytes_are = refl }

  spelled : (o : PlacedOperation) (raw : RawImmediate) → operation_of i ≡ o → numbered_row to around o ≡ Ok (operation (Byte byte) (raw ∷ []))
      → IsSpelled to around i (byte ∷ short_immediate raw)
  spelled o raw row is = record {
    operator = operation (Byte byte) (raw ∷ []);
    is = ap (numbered_row to around) row ∙ is;
    bytes_are = ap (λ (bs : List ℕ). byte ∷ bs) (append-nil (short_immediate raw));
  }

  pub local_spelled : (id n : ℕ) → operation_of i ≡ operation (Byte byte) (local id ∷ []) → to.local_number id ≡ Ok n → n < 2 ^ 32
      → IsSpelled to around i (byte ∷ short_number n)
  local_spelled id n row found fits = spelled (operation (Byte byte) (local id ∷ [])) (local n) row (
      ap (λ r. with_one byte ((r >>= in_32_bits) >>= λ m. Ok (local m))) found ∙ ap (λ r. with_one byte (r >>= λ m. Ok (local m))) (in_range n fits))

  pub index_spelled : (space : Space) (id n : ℕ) → operation_of i ≡ operation (Byte byte) (index space id ∷ []) → to.number_of space id ≡ Ok n → n < 2 ^ 32
      → IsSpelled to around i (byte ∷ short_number n)
  index_spelled space id n row found fits = spelled (operation (Byte byte) (index space id ∷ [])) (index space n) row (
      ap (λ r. with_one byte ((r >>= in_32_bits) >>= λ m. Ok (index space m))) found
      ∙ ap (λ r. with_one byte (r >>= λ m. Ok (index space m))) (in_range n fits))

  pub label_spelled : (place n : ℕ) → operation_of i ≡ operation (Byte byte) (label place ∷ []) → depth_in around place ≡ Ok n
      → IsSpelled to around i (byte ∷ short_number n)
  label_spelled place n row found = spelled (operation (Byte byte) (label place ∷ [])) (label n) row (ap (λ r. with_one byte (r >>= λ m. Ok (label m))) found)

  pub i32_spelled : (z : ℤ) → operation_of i ≡ operation (Byte byte) (i32 z ∷ []) → IsSpelled to around i (byte ∷ short_integer z)
  i32_spelled z row = spelled (operation (Byte byte) (i32 z ∷ [])) (i32 z) row refl

  pub i64_spelled : (z : ℤ) → operation_of i ≡ operation (Byte byte) (i64 z ∷ []) → IsSpelled to around i (byte ∷ short_integer z)
  i64_spelled z row = spelled (operation (Byte byte) (i64 z ∷ [])) (i64 z) row refl

  pub access_spelled : (memory : ℕ) (arg : MemArg) (n : ℕ) → operation_of i ≡ operation (Byte byte) (access (access_at memory arg) ∷ [])
      → to.number_of Memories memory ≡ Ok n → n < 2 ^ 32
      → IsSpelled to around i (byte ∷ short_access (record { alignment = exponent_of arg.align; memory = n; offset = arg.offset }))
  access_spelled memory arg n row found fits =
      let at : ℕ → RawImmediate = λ m. access (record { alignment = exponent_of arg.align; memory = m; offset = arg.offset }) in
      spelled (operation (Byte byte) (access (access_at memory arg) ∷ [])) (at n) row (
      ap (λ r. with_one byte (((r >>= in_32_bits) >>= λ m. Ok (record { alignment = exponent_of arg.align; memory = m; offset = arg.offset })) >>= λ a. Ok (access a))) found
      ∙ ap (λ r. with_one byte ((r >>= λ m. Ok (record { alignment = exponent_of arg.align; memory = m; offset = arg.offset })) >>= λ a. Ok (access a))) (in_range n fits))

-- ---- the emitter after it

pub bytes_visited : (b : List InstrSeq) (to : Numbers) (scopes : ScopeLists) (draft drafted : Drafted) (i : Instr) (l : ℕ) (bytes : List ℕ)
    → slots_in i ≡ [] → IsSpelled to (places_of scopes.open_scopes) i bytes → drafted ≡ with_bytes draft bytes l
    → emitter_after (emitter_at b to scopes draft) (VisitInstruction i l) ≡ Ok (emitter_at b to scopes drafted)
bytes_visited b to scopes draft drafted i l bytes plain h is =
    operation_visited b to scopes draft drafted i l h.operator plain h.is (is ∙ ap (λ bs. with_bytes draft bs l) (sym h.bytes_are))

-- if it is written
pub on_true : {P Q : Type 0} (b : Bool) → (P → Q) → OnTrue b P → OnTrue b Q
on_true true f h = f h
on_true false f h = tt
