-- A body that a sink takes while it is written.
use Rattle.std.specs.Prelude.{◌≡◌, ◌⊎◌, ℕ, ◌+◌, [], ◌++◌, length}
use Rattle.wasm_body.specs.declared.error.EmitError.{EmitError}
use Rattle.wasm_body.specs.declared.error.EmitError.TheVariants.{Memory}
use Rattle.walrus_emit_state.specs.Emission.{Output}
use Rattle.walrus_emit_state.specs.TreeWriting.Drafts.{Drafted}

-- no bytes and no pairs
abbrev pub no_output : Output
no_output = record { bytes = []; pairs = [] }

-- one output, and another after it
abbrev pub joined_outputs : Output → Output → Output
joined_outputs first second = record { bytes = first.bytes ++ second.bytes; pairs = first.pairs ++ second.pairs }

-- a draft that begins after so many bytes, with this output before its own
abbrev pub with_front : ℕ → Output → Drafted → Drafted
with_front base front d = record { base = base; has_map = d.has_map; output = joined_outputs front d.output }

-- These are the states of a sink, from one to the other of which it takes bytes and pairs.
module _ {S : Type 0} (takes : S → S → Output → Type 0) (before after : S) where
  -- The sink took the front of a whole draft, and this one is left, which begins where the front ends.
  pub record IsLeft (whole left : Drafted) : Type 0 where
    pub taken : Output
    pub takes_it : takes before after taken
    pub whole_is : whole ≡ with_front whole.base taken left
    pub goes_on : left.base ≡ whole.base + length taken.bytes

  -- Together with what the sink took, this holds of a draft.
  pub record OfWhole (holds : Drafted → Type 0) (left : Drafted) : Type 0 where
    pub whole : Drafted
    pub is_left : IsLeft whole left
    pub holds_of_it : holds whole

-- The sink is in the same state, or it didn't take the draft's output.
abbrev pub IsLast : {S : Type 0} → (refuses : S → S → Output → Type 0) → S → S → Drafted → Type 0
IsLast refuses before after draft = (after ≡ before) ⊎ refuses before after draft.output

module _ {S : Type 0} (takes refuses : S → S → Output → Type 0) (before after : S) where
  -- The sink took the front of a draft of which this holds, and no more: the draft that is left was not offered to it, or it didn't
  -- take its output, which is the fault.
  pub record TookFront (holds : Drafted → Type 0) (e : EmitError) : Type 0 where
    pub middle : S
    pub left : Drafted
    pub of_whole : OfWhole takes before middle holds left
    pub last : (after ≡ middle) ⊎ ((e ≡ Memory) × refuses middle after left.output)
