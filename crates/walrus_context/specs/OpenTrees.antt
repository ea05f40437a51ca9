-- The form in contracts of a validation context, and the effects of its calls.
use Rattle.std.specs.Prelude.{◌≡◌, ◌<◌, ℕ, List, ◌∷◌, length, Some, IsSomeAnd, slice_get, Result, Ok, Err}
use Rattle.std.specs.List.{AllByRecursion}
use Rattle.walrus_ir.specs.declared.control.BlockKind.{BlockKind}
use Rattle.walrus_ir.specs.declared.control.LegacyCatch.{LegacyCatch}
use Rattle.walrus_ir.specs.declared.module.Module.{Module}
use Rattle.walrus_ir.specs.declared.seq.InstrSeq.{InstrSeq}
use Rattle.walrus_ir.specs.declared.val_type.InstrSeqType.{InstrSeqType}
use Rattle.wasm_types.specs.declared.val_type.ValType.{ValType}
use Rattle.wasm_numbers.specs.Results.{◌>>=◌}
use Rattle.walrus_ir.specs.Types.{Signature, pick}
use Rattle.wasm_operators.specs.declared.types.BlockType.{BlockType}
use Rattle.wasm_body.specs.declared.error.ParseError.{ParseError}
use Rattle.wasm_body.specs.Naming.{Environment, name_block, has_pick}
use Rattle.walrus_maps.specs.Environments.{environment_of}
use Rattle.walrus_ir.specs.Function.{Function, with_new_sequence, with_sequence}
use Rattle.walrus_maps.specs.declared.indices_to_ids.IndicesToIds.{IndicesToIds}
use Rattle.walrus_context.specs.declared.frame.ControlFrame.{ControlFrame}
use Rattle.walrus_context.specs.OpenFrames.{OpenFrame, Shows, new_frame, changed_at, with_clause_around}

-- The module and its maps, the function and its builder, and the open frames, innermost first.
pub record OpenTrees : Type 0 where
  pub «module» : Module
  pub indices : IndicesToIds
  pub function : ℕ
  pub builder : Function
  pub frames : List OpenFrame

-- There is one more sequence, which has this type and is empty; nothing else changed.
pub record AddsEmpty (old new : OpenTrees) (type : InstrSeqType) (id : ℕ) : Type 0 where
  pub is_next : id ≡ length old.builder.sequences
  pub is : new ≡ record old { builder = with_new_sequence old.builder type }

-- each frame's sequence is in this arena
abbrev pub AreInArena : List InstrSeq → List OpenFrame → Type 0
AreInArena sequences fs = AllByRecursion (λ f. f.sequence < length sequences) fs

-- An empty frame is opened with a new sequence of this type; nothing else changed.
pub record Opens (old new : OpenTrees) (kind : BlockKind) (type : InstrSeqType) (takes gives : List (ValType ℕ)) (id : ℕ)
    : Type 0 where
  pub is_next : id ≡ length old.builder.sequences
  pub is : new ≡ record old {
    builder = with_new_sequence old.builder type;
    frames = new_frame kind takes gives id ∷ old.frames;
  }

-- the environment of a body of this function
abbrev pub env_of : OpenTrees → Environment
env_of c = environment_of c.module c.indices c.function c.builder.type

-- the parameters and results of a block type, if the module has a picked type for them
abbrev pub opened_type : Environment → BlockType → Result Signature ParseError
opened_type env b = name_block env b >>= λ s. has_pick env s >>= λ _. Ok s

-- An empty frame is opened with a new sequence. It has these parameters and results, and their picked type.
abbrev pub OpensAs : (old new : OpenTrees) → BlockKind → (id : ℕ) → Result Signature ParseError → Type 0
OpensAs old new kind id (Ok s) = IsSomeAnd (pick old.module.types s) (λ type. Opens old new kind type s.parameters s.results id)
OpensAs old new kind id (Err e) = ⊥

-- The same for the parameters and results of a block type.
abbrev pub OpensBlock : (old new : OpenTrees) → BlockKind → BlockType → (id : ℕ) → Type 0
OpensBlock old new kind b id = OpensAs old new kind id (name_block (env_of old) b)

-- The innermost frame is closed, and its sequence now has its instructions; nothing else changed.
pub record Closes (old new : OpenTrees) (frame : OpenFrame) : Type 0 where
  pub was : InstrSeq
  pub before : slice_get old.builder.sequences frame.sequence ≡ Some was
  pub frames : old.frames ≡ frame ∷ new.frames
  pub is : new ≡ record old {
    builder = with_sequence old.builder frame.sequence (record was { instrs = frame.instrs });
    frames = new.frames;
  }

-- The innermost frame, which is shown by this one and has this sequence, is closed.
pub record Pops (old new : OpenTrees) (f : ControlFrame) (block : ℕ) : Type 0 where
  pub frame : OpenFrame
  pub shown : Shows f frame
  pub is_block : block ≡ frame.sequence
  pub closes : Closes old new frame

-- The n-th frame is changed in this way; nothing else changed.
abbrev pub ChangesFrame : ℕ → (OpenFrame → OpenFrame) → (old new : OpenTrees) → Type 0
ChangesFrame n change old new = (n < length old.frames) × (new ≡ record old { frames = changed_at n change old.frames })

-- The frame around the innermost has one more clause; nothing else changed.
abbrev pub AddsClauseAround : LegacyCatch → (old new : OpenTrees) → Type 0
AddsClauseAround c old new = (with_clause_around c old.frames ≡ Ok new.frames) × (new ≡ record old { frames = new.frames })

-- A sequence has another end location; nothing else changed.
pub record EndsAt (old new : OpenTrees) (sequence location : ℕ) : Type 0 where
  pub was : InstrSeq
  pub before : slice_get old.builder.sequences sequence ≡ Some was
  pub is : new ≡ record old { builder = with_sequence old.builder sequence (record was { end = location }) }
