-- Blocks, loops and ifs without parameters and results: their two bytes, and the emitter after them.
use Rattle.std.specs.Prelude.{◌≡◌, ℕ, List, [], ◌∷◌, Bool, true, false, None, Ok}
use Rattle.std.specs.Bool.{OnTrue}
use Rattle.std.proofs.Common.{refl, ap, ◌∙◌}
use Rattle.walrus_ir.specs.declared.instr.Instr.{Instr}
use Rattle.walrus_ir.specs.declared.seq.InstrSeq.{InstrSeq}
use Rattle.walrus_ir.specs.declared.val_type.InstrSeqType.TheVariants.{Simple}
use Rattle.walrus_ir.specs.Events.{VisitInstruction}
use Rattle.walrus_ir.specs.Unfolding.{slots_in}
use Rattle.wasm_operators.specs.declared.types.Opcode.TheVariants.{Byte}
use Rattle.wasm_operators.specs.declared.types.BlockType.TheVariants.{Empty}
use Rattle.wasm_operators.specs.Operations.{block, RawOperation, operation}
use Rattle.wasm_operators.specs.Shortest.{short_number, short_unsigned}
use Rattle.wasm_body.specs.Bytes.{Numbers, numbering}
use Rattle.wasm_body.specs.FlatText.{then_by, with_block_type, are_lawful}
use Rattle.wasm_body.specs.InstructionTable.{PlacedOperation, operation_of, block_immediate, clauses_of_try}
use Rattle.wasm_body.specs.Translation.{translate}
use Rattle.wasm_body.specs.TreeOfFunction.{with_targets}
use Rattle.walrus_emit_state.specs.Emission.{Emitter, first_type_at, scopes_inside, emitter_after}
use Rattle.walrus_emit_state.specs.TreeWriting.Closers.{places_of, scopes_of}
use Rattle.walrus_emit_state.specs.TreeWriting.Drafts.{Drafted, with_bytes}
use Rattle.walrus_emit_state.specs.TreeWriting.ScopeLists.{ScopeLists}
use Rattle.walrus_emit_state.specs.TreeWriting.Announcing.{AreAnnounced}
use Rattle.walrus_to_operators.specs.TreeWriting.Operators.{numbered_operator}
use Rattle.walrus_emitter.specs.TreeWriting.Emitters.{emitter_at}
use Rattle.walrus_emitter.proofs.TreeWriting.Steps.{sequences_begin, kept_begins}

abbrev opener : ℕ → RawOperation
opener byte = operation (Byte byte) (block Empty ∷ [])

numbered_opener : (to : Numbers) (around : List ℕ) (i : Instr) (byte : ℕ) → operation_of i ≡ operation (Byte byte) (block_immediate ∷ [])
    → numbered_operator to around (Simple None) i ≡ Ok (opener byte)
numbered_opener to around i byte row = ap (λ (o : PlacedOperation). translate (with_block_type (then_by (numbering to)) (Simple None)) (with_targets around o)) row

no_type : short_number 64 ≡ 64 ∷ []
unfolding short_unsigned
no_type = refl

pub opener_visited : (b : List InstrSeq) (to : Numbers) (old new : ScopeLists) (draft drafted : Drafted) (i : Instr) (l byte : ℕ)
    → operation_of i ≡ operation (Byte byte) (block_immediate ∷ []) → are_lawful (clauses_of_try i) ≡ true → first_type_at b (slots_in i) ≡ Ok (Simple None)
    → AreAnnounced (scopes_inside to.balanced b i) old new → drafted ≡ with_bytes draft (byte ∷ short_number 64) l
    → emitter_after (emitter_at b to old draft) (VisitInstruction i l) ≡ Ok (emitter_at b to new drafted)
opener_visited b to old new draft drafted i l byte row lawful type h is =
    sequences_begin (emitter_at b to old draft) i l (Simple None) (opener byte) (scopes_of h.more) type lawful
    (numbered_opener to (places_of old.open_scopes) i byte row) h.are_these
    ∙ ap (λ (s : Emitter). Ok s)
    (kept_begins b to old new draft drafted h.more (opener byte) l h.are_first (is ∙ ap (λ bs. with_bytes draft (byte ∷ bs) l) no_type))

-- it does
pub really : {P : Type 0} (b : Bool) → b ≡ true → OnTrue b P → P
really true e h = h
really false e h = absurd cc
