-- The state of the code as an emitter, while a tree is written, and why it refuses an event.
use Rattle.std.specs.Prelude.{◌≡◌, ◌⊎◌, ℕ, List, Option, Ok, Err}
use Rattle.walrus_ir.specs.declared.seq.InstrSeq.{InstrSeq}
use Rattle.walrus_ir.specs.Events.{WalkEvent}
use Rattle.wasm_body.specs.declared.error.EmitError.{EmitError}
use Rattle.wasm_body.specs.declared.error.EmitError.TheVariants.{Memory}
use Rattle.wasm_body.specs.Bytes.{Numbers}
use Rattle.walrus_emit_state.specs.declared.closing.Closer.{Closer}
use Rattle.walrus_emit_state.specs.Emission.{Emitter, with_closer, emitter_after}
use Rattle.walrus_emit_state.specs.TreeWriting.Closers.{closer_at, scopes_of}
use Rattle.walrus_emit_state.specs.TreeWriting.Drafts.{Drafted}
use Rattle.walrus_emit_state.specs.TreeWriting.ScopeLists.{ScopeLists}

-- the emitter for these sequences, under these numbers
abbrev pub emitter_at : List InstrSeq → Numbers → ScopeLists → Drafted → Emitter
emitter_at b to scopes draft = record {
  sequences = b;
  numbers = to;
  coming = scopes_of scopes.coming;
  open_scopes = scopes_of scopes.open_scopes;
  base = draft.base;
  has_map = draft.has_map;
  output = draft.output;
}

-- ---- why an event is refused

-- memory ran out, or the emitter has this fault
abbrev pub IsFaultAt : Emitter → WalkEvent → EmitError → Type 0
IsFaultAt s e f = (f ≡ Memory) ⊎ (emitter_after s e ≡ Err f)

-- ---- closing a sequence, whichever it is

abbrev pub ClosesWith : Numbers → Option (Closer × ℕ) → Drafted → Drafted → Type 0
ClosesWith to c old new = (b : List InstrSeq) (scopes : ScopeLists)
    → with_closer (emitter_at b to scopes old) (closer_at c) ≡ Ok (emitter_at b to scopes new)

abbrev pub IsFaultOfCloser : Numbers → Option (Closer × ℕ) → Drafted → EmitError → Type 0
IsFaultOfCloser to c old f = (f ≡ Memory)
    ⊎ ((b : List InstrSeq) (scopes : ScopeLists)
    → with_closer (emitter_at b to scopes old) (closer_at c) ≡ Err f)
