-- Writing a tree as a visitor of its walk: the emitter that the visitor is, and the one after each event.
use Rattle.std.specs.Prelude.{◌≡◌, List, Ok}
use Rattle.std.proofs.Common.{sym, ap, subst, ◌∙◌}
use Rattle.walrus_ir.specs.Events.{WalkEvent, AreStepsAlike, AreRefusalsAlike}
use Rattle.wasm_body.specs.declared.error.EmitError.{EmitError}
use Rattle.walrus_emit_state.specs.declared.closing.SequenceScope.{SequenceScope}
use Rattle.walrus_emitter.specs.declared.emit.EmitVisitor.{EmitVisitor}
use Rattle.walrus_emit_state.specs.Emission.{Emitter, emitter_after}
use Rattle.walrus_emitter.specs.TreeWriting.Emitters.{emitter_at, IsFaultAt}
use Rattle.walrus_emit_state.specs.TreeWriting.ScopeLists.{with_more}
use Rattle.walrus_numbering.specs.NumberMaps.{numbers_of}

abbrev pub emitter_of : EmitVisitor → Emitter
emitter_of v = emitter_at v.builder.now.sequences (numbers_of v.numbers) v.scopes v.draft

-- ---- the visitor's meaning

abbrev pub Steps : EmitVisitor → WalkEvent → EmitVisitor → Type 0
Steps v e w = emitter_after (emitter_of v) e ≡ Ok (emitter_of w)

abbrev pub Refuses : EmitVisitor → WalkEvent → EmitError → Type 0
Refuses v e f = IsFaultAt (emitter_of v) e f

abbrev pub Same : EmitVisitor → EmitVisitor → Type 0
Same v w = emitter_of v ≡ emitter_of w

-- only the sequences that are to come may be more
pub record HasOnlyMore (v w : EmitVisitor) : Type 0 where
  pub more : List SequenceScope
  pub coming : w.scopes ≡ with_more v.scopes more
  pub builder : w.builder ≡ v.builder
  pub numbers : w.numbers ≡ v.numbers
  pub draft : w.draft ≡ v.draft

-- visitors that are the same emitter accept and refuse the same events
pub same_steps : AreStepsAlike Same Steps
same_steps v v' w w' e from to step = ap (λ s. emitter_after s e) (sym from) ∙ (step ∙ ap Ok to)

pub same_refusals : AreRefusalsAlike Same Refuses
same_refusals v v' e f from refusal = subst (λ s. IsFaultAt s e f) from refusal
