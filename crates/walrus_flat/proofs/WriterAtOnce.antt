-- Common operators that are written at once.
use Rattle.std.proofs.Common.{◌≡◌, ℕ, ◌<◌, List, [], ◌∷◌, ◌++◌, Bool, true, false, Some, None, Ok, refl, sym, ap, subst, ◌∙◌, append-nil}
use Rattle.std.specs.Prelude.{◌^◌}
use Rattle.std.specs.Bool.{OnTrue, OnFalse}
use Rattle.std.proofs.lemmas.Bool.{lt-ltb}
use Rattle.wasm_types.specs.declared.unary.UnaryOp.{UnaryOp}
use Rattle.wasm_types.specs.declared.unary.UnaryOp.TheVariants as unary
use Rattle.wasm_types.specs.declared.binary.BinaryOp.{BinaryOp}
use Rattle.wasm_types.specs.declared.binary.BinaryOp.TheVariants as binary
use Rattle.walrus_ir.specs.declared.val_type.InstrSeqType.TheVariants.{Simple}
use Rattle.wasm_numbers.specs.Results.{◌>>=◌, unless}
use Rattle.wasm_operators.specs.declared.types.Opcode.TheVariants.{Byte}
use Rattle.wasm_operators.specs.declared.types.Space.{Space}
use Rattle.wasm_operators.specs.declared.types.Space.TheVariants.{Memories}
use Rattle.wasm_operators.specs.declared.operator.Op.TheVariants as op
use Rattle.wasm_operators.specs.UnaryOperations.{unary_opcode}
use Rattle.wasm_operators.specs.BinaryOperations.{binary_opcode}
use Rattle.wasm_operators.specs.Meaning.{Listed, meaning}
use Rattle.wasm_operators.specs.Operations.{Access, RawImmediate, index, local, label, access, operation, RawOperation}
use Rattle.wasm_operators.specs.Shortest.{short_immediate, short}
use Rattle.wasm_body.specs.declared.error.EmitError.TheVariants.{TooLarge}
use Rattle.wasm_body.specs.Bytes.{in_32_bits}
use Rattle.wasm_body.specs.Translation.{at_location}
use Rattle.wasm_body.specs.Flat.{flat_state, FlatState}
use Rattle.walrus_maps.specs.IndexMaps.{id_of, local_of, number_of}
use Rattle.walrus_numbering.specs.EmittedLocals.{number_in}
use Rattle.walrus_numbering.proofs.FittingNumbers.{numbered_local}
use Rattle.walrus_parser.specs.OperatorKinds.{makes_unreachable}
use Rattle.walrus_emit_state.specs.TreeWriting.Drafts.{Drafted, with_bytes}
use Rattle.walrus_emitter.proofs.TreeWriting.Spelled.{numbered}
use Rattle.walrus_flat.specs.declared.writer.Writer.{Writer}
use Rattle.walrus_flat.specs.UsedLocals.{entries_of}
use Rattle.walrus_flat.specs.declared.sequences.Next.TheVariants as next
use Rattle.walrus_flat.specs.declared.sequences.OpenSequences.{OpenSequences}
use Rattle.walrus_flat.specs.Written.{drafted, waiting_else, opens_of, flat_state_of, mode_of, is_unreachable_next, mode_if}
use Rattle.walrus_flat.specs.Writers.{renumbered, WritesUnless, WritesCommon, WritesAtOnce}

-- ---- operators with their numbers

in_range : (n : ℕ) → n < 2 ^ 32 → in_32_bits n ≡ Ok n
in_range n fits = ap (λ b. unless b TooLarge >>= λ _. Ok n) (lt-ltb n (2 ^ 32) fits)

-- an operator of one operand whose opcode is one byte has no lane
unary_byte : (u : UnaryOp) (byte : ℕ) → unary_opcode u ≡ Byte byte → meaning (op.Unop u) ≡ operation (Byte byte) []
unary_byte (unary.I8x16ExtractLaneS idx) byte e = absurd cc
unary_byte (unary.I8x16ExtractLaneU idx) byte e = absurd cc
unary_byte (unary.I16x8ExtractLaneS idx) byte e = absurd cc
unary_byte (unary.I16x8ExtractLaneU idx) byte e = absurd cc
unary_byte (unary.I32x4ExtractLane idx) byte e = absurd cc
unary_byte (unary.I64x2ExtractLane idx) byte e = absurd cc
unary_byte (unary.F32x4ExtractLane idx) byte e = absurd cc
unary_byte (unary.F64x2ExtractLane idx) byte e = absurd cc
unary_byte _ byte e = λ i. operation (e i) []

binary_byte : (u : BinaryOp) (byte : ℕ) → binary_opcode u ≡ Byte byte → meaning (op.Binop u) ≡ operation (Byte byte) []
binary_byte (binary.I8x16ReplaceLane idx) byte e = absurd cc
binary_byte (binary.I16x8ReplaceLane idx) byte e = absurd cc
binary_byte (binary.I32x4ReplaceLane idx) byte e = absurd cc
binary_byte (binary.I64x2ReplaceLane idx) byte e = absurd cc
binary_byte (binary.F32x4ReplaceLane idx) byte e = absurd cc
binary_byte (binary.F64x2ReplaceLane idx) byte e = absurd cc
binary_byte _ byte e = λ i. operation (e i) []

module _ (old : Writer) (location : ℕ) where
  -- the bytes of an operator that was numbered were written, or nothing was
  written_common : (o operator : RawOperation) (bytes : List ℕ) → renumbered old (Simple None) o ≡ Ok operator → short operator ≡ bytes →
      (b : Bool) (d : Drafted) → OnTrue b (d ≡ with_bytes old.draft bytes location) → OnFalse b (d ≡ old.draft) → WritesCommon old (record old { draft = d }) o location b
  written_common o operator bytes is spelt true d done same = (operator, is, ap (λ k. record old { draft = k }) (done ∙ ap (λ bs. with_bytes old.draft bs location) (sym spelt)))
  written_common o operator bytes is spelt false d done same = ap (λ k. record old { draft = k }) same

  module _ (byte : ℕ) where
    -- one byte and one immediate
    with_immediate : (o : RawOperation) (raw : RawImmediate) → renumbered old (Simple None) o ≡ Ok (operation (Byte byte) (raw ∷ [])) →
        (b : Bool) (d : Drafted) → OnTrue b (d ≡ with_bytes old.draft (byte ∷ short_immediate raw) location) → OnFalse b (d ≡ old.draft) → WritesCommon old (record old { draft = d }) o location b
    with_immediate o raw is = written_common o (operation (Byte byte) (raw ∷ [])) (byte ∷ short_immediate raw) is (ap (λ (bs : List ℕ). byte ∷ bs) (append-nil (short_immediate raw)))

    abbrev Puts : Bool → Drafted → RawImmediate → RawOperation → Type 0
    Puts b d raw o = OnTrue b (d ≡ with_bytes old.draft (byte ∷ short_immediate raw) location) → OnFalse b (d ≡ old.draft) → WritesCommon old (record old { draft = d }) o location b

    pub local_written : (n id number : ℕ) → local_of old.indices.ids.now old.indices.function n ≡ Ok id → number_in (entries_of old.locals.numbered.now) id ≡ Some number → number < 2 ^ 32 →
        (b : Bool) (d : Drafted) → Puts b d (local number) (operation (Byte byte) (local n ∷ []))
    local_written n id number found has fits =
        with_immediate (operation (Byte byte) (local n ∷ [])) (local number)
        (rw (found, numbered_local old.«module».now.types old.out.now (entries_of old.locals.numbered.now) id number has fits, in_range number fits) refl)

    pub index_written : (space : Space) (n id number : ℕ) → id_of old.indices.ids.now space n ≡ Ok id → number_of old.out.now space id ≡ Ok number → number < 2 ^ 32 →
        (b : Bool) (d : Drafted) → Puts b d (index space number) (operation (Byte byte) (index space n ∷ []))
    index_written space n id number found has fits =
        with_immediate (operation (Byte byte) (index space n ∷ [])) (index space number)
        (rw (found, numbered old.«module».now.types old.out.now (entries_of old.locals.numbered.now) space id number has fits, in_range number fits) refl)

    pub access_written : (a : Access) (id number : ℕ) → id_of old.indices.ids.now Memories a.memory ≡ Ok id → number_of old.out.now Memories id ≡ Ok number → number < 2 ^ 32 →
        (b : Bool) (d : Drafted) → Puts b d (access (record a { memory = number })) (operation (Byte byte) (access a ∷ []))
    access_written a id number found has fits =
        with_immediate (operation (Byte byte) (access a ∷ [])) (access (record a { memory = number }))
        (rw (found, numbered old.«module».now.types old.out.now (entries_of old.locals.numbered.now) Memories id number has fits, in_range number fits) refl)

    pub label_written : (n : ℕ) → n < 2 ^ 32 → (b : Bool) (d : Drafted) → Puts b d (label n) (operation (Byte byte) (label n ∷ []))
    label_written n fits = with_immediate (operation (Byte byte) (label n ∷ [])) (label n) (rw (in_range n fits) refl)

    -- an immediate that stays as it is
    pub constant_written : (raw : RawImmediate) → renumbered old (Simple None) (operation (Byte byte) (raw ∷ [])) ≡ Ok (operation (Byte byte) (raw ∷ [])) →
        (b : Bool) (d : Drafted) → Puts b d raw (operation (Byte byte) (raw ∷ []))
    constant_written raw is = with_immediate (operation (Byte byte) (raw ∷ [])) raw is

    -- one byte
    pub byte_written : (b : Bool) (d : Drafted) → OnTrue b (d ≡ with_bytes old.draft (byte ∷ []) location) → OnFalse b (d ≡ old.draft) → WritesCommon old (record old { draft = d }) (operation (Byte byte) []) location b
    byte_written = written_common (operation (Byte byte) []) (operation (Byte byte) []) (byte ∷ []) refl refl

    module _ (b : Bool) (d : Drafted) (done : OnTrue b (d ≡ with_bytes old.draft (byte ∷ []) location)) (same : OnFalse b (d ≡ old.draft)) where
      pub unary_written : (u : UnaryOp) → unary_opcode u ≡ Byte byte → WritesCommon old (record old { draft = d }) (meaning (op.Unop u)) location b
      unary_written u is = subst (λ o. WritesCommon old (record old { draft = d }) o location b) (sym (unary_byte u byte is)) (byte_written b d done same)

      pub binary_written : (u : BinaryOp) → binary_opcode u ≡ Byte byte → WritesCommon old (record old { draft = d }) (meaning (op.Binop u)) location b
      binary_written u is = subst (λ o. WritesCommon old (record old { draft = d }) o location b) (sym (binary_byte u byte is)) (byte_written b d done same)

-- an operator that is listed in another way
pub as_listed : (old new : Writer) (location : ℕ) (b : Bool) (x y : Listed) → x ≡ y → WritesCommon old new (meaning y) location b → WritesCommon old new (meaning x) location b
as_listed old new location b x y is = subst (λ o. WritesCommon old new (meaning o) location b) (sym is)

-- ---- the state after it

module _ (old : Writer) (x : Listed) (location : ℕ) where
  abbrev then : FlatState
  then = flat_state (mode_if (makes_unreachable x)) (opens_of old.«open»)

  module _ (live : old.«open».next ≡ next.Live) (mid : Writer) where
    -- it was written
    goes : WritesCommon old mid (meaning x) location true → (s : OpenSequences) → flat_state_of s ≡ then → WritesAtOnce old (record mid { «open» = s }) x location true
    goes (operator, is, same) s state_is =
        subst (λ d. WritesUnless d old (record mid { «open» = s }) (meaning x) (Simple None) location (flat_state_of old.«open») then (Ok tt)) (sym (ap is_unreachable_next live))
        (record {
          operator = operator;
          is_renumbered = is;
          goes = record {
            same = record {
              «module» = ap (λ (w : Writer). w.«module») same;
              indices = ap (λ (w : Writer). w.indices.ids) same;
              function = ap (λ (w : Writer). w.indices.function) same;
              ty = ap (λ (w : Writer). w.ty) same;
              out = ap (λ (w : Writer). w.out) same;
              locals = ap (λ (w : Writer). w.locals.numbered) same;
            };
            draft = ap (λ (w : Writer). w.draft) same ∙ ap (λ es. drafted old.draft (es ++ at_location operator location ∷ [])) (sym (ap waiting_else live));
            state_is = state_is;
          };
        })

    same_open : WritesCommon old mid (meaning x) location true → mid.«open» ≡ old.«open»
    same_open (operator, is, same) = ap (λ (w : Writer). w.«open») same

    -- and the mode stays
    pub stays : WritesCommon old mid (meaning x) location true → makes_unreachable x ≡ false → WritesAtOnce old mid x location true
    stays h alive =
        goes h mid.«open» (ap flat_state_of (same_open h) ∙ ((λ i. flat_state (mode_of (live i)) (opens_of old.«open»)) ∙ ap (λ d. flat_state (mode_if d) (opens_of old.«open»)) (sym alive)))

    -- or code is unreachable
    pub ends_reachable : WritesCommon old mid (meaning x) location true → makes_unreachable x ≡ true → WritesAtOnce old (record mid { «open» = record mid.«open» { next = next.Unreachable } }) x location true
    ends_reachable h unreachable =
        goes h (record mid.«open» { next = next.Unreachable })
        ((λ i. flat_state (mode_of next.Unreachable) (opens_of (same_open h i))) ∙ ap (λ d. flat_state (mode_if d) (opens_of old.«open»)) (sym unreachable))
