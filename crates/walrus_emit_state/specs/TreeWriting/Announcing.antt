-- Announcing the sequences in an instruction: they are to come next.
use Rattle.std.specs.Prelude.{◌≡◌, ◌⊎◌, ℕ, List, Result, Ok, Err}
use Rattle.walrus_ir.specs.declared.seq.InstrSeq.{InstrSeq}
use Rattle.wasm_body.specs.declared.error.EmitError.{EmitError}
use Rattle.wasm_body.specs.declared.error.EmitError.TheVariants.{Memory}
use Rattle.wasm_body.specs.FlatText.{TextOperation}
use Rattle.walrus_emit_state.specs.declared.closing.SequenceScope.{SequenceScope}
use Rattle.walrus_emit_state.specs.Emission.{Scope, scopes_at}
use Rattle.walrus_emit_state.specs.TreeWriting.Closers.{scopes_of}
use Rattle.walrus_emit_state.specs.TreeWriting.ScopeLists.{ScopeLists, with_more}

-- the sequences of these scopes are to come before the others
pub record AreAnnounced (scopes : Result (List Scope) EmitError) (old new : ScopeLists) : Type 0 where
  pub more : List SequenceScope
  pub are_these : scopes ≡ Ok (scopes_of more)
  pub are_first : new ≡ with_more old more

-- memory ran out, or one of them doesn't exist
abbrev pub AreNotAnnounced : Result (List Scope) EmitError → EmitError → Type 0
AreNotAnnounced scopes e = (e ≡ Memory) ⊎ (scopes ≡ Err e)

-- the sequences in these slots, which have these closers
abbrev pub Announces : List InstrSeq → List ℕ → List TextOperation → (old new : ScopeLists) → Type 0
Announces b slots closers old new = AreAnnounced (scopes_at b slots closers) old new

abbrev pub IsNotAnnounced : List InstrSeq → List ℕ → List TextOperation → EmitError → Type 0
IsNotAnnounced b slots closers e = AreNotAnnounced (scopes_at b slots closers) e

-- some of them may be announced
pub record HasMore (old new : ScopeLists) : Type 0 where
  pub more : List SequenceScope
  pub are_first : new ≡ with_more old more
