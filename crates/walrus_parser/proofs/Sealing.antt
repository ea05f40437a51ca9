-- Closing a frame seals its sequence.
use Rattle.std.specs.Prelude.{◌≡◌, ◌≢◌, ℕ, zero, suc, ◌<◌, List, [], ◌∷◌, length, Some, None, slice_get, slice_set}
use Rattle.std.proofs.Common.{refl, ap, sym, subst, arith}
use Rattle.std.proofs.lemmas.Option.{slice_get_within}
use Rattle.walrus_ir.specs.declared.seq.InstrSeq.{InstrSeq}
use Rattle.walrus_context.specs.OpenFrames.{OpenFrame}
use Rattle.walrus_context.specs.OpenTrees.{OpenTrees, Closes}
use Rattle.walrus_parser.proofs.Constructs.{IsWritten}
use Rattle.walrus_parser.proofs.Steps.{Seals}

-- ---- one sequence is replaced

set_here : (b : List InstrSeq) (place : ℕ) (x : InstrSeq) → place < length b → slice_get (slice_set b place x) place ≡ Some x
set_here [] place x l = absurd (omega arith)
set_here (y ∷ b) zero x l = refl
set_here (y ∷ b) (suc place) x l = set_here b place x (omega arith)

set_elsewhere : (b : List InstrSeq) (place : ℕ) (x : InstrSeq) (p : ℕ) → p ≢ place → slice_get (slice_set b place x) p ≡ slice_get b p
set_elsewhere [] place x p n = refl
set_elsewhere (y ∷ b) zero x zero n = absurd (n refl)
set_elsewhere (y ∷ b) zero x (suc p) n = refl
set_elsewhere (y ∷ b) (suc place) x zero n = refl
set_elsewhere (y ∷ b) (suc place) x (suc p) n = set_elsewhere b place x p (λ e. n (ap suc e))

set_length : (b : List InstrSeq) (place : ℕ) (x : InstrSeq) → length (slice_set b place x) ≡ length b
set_length [] place x = refl
set_length (y ∷ b) zero x = refl
set_length (y ∷ b) (suc place) x = ap suc (set_length b place x)

pub set_written : (b : List InstrSeq) (place : ℕ) (x : InstrSeq) → place < length b → IsWritten b place x (slice_set b place x)
set_written b place x l = record { here = set_here b place x l; elsewhere = set_elsewhere b place x; as_many = set_length b place x }

-- ---- the innermost frame is closed

pub closes_seals : (old new : OpenTrees) (frame : OpenFrame) → Closes old new frame → Seals old.builder.sequences new.builder.sequences frame None
closes_seals old new frame h =
    let b = old.builder.sequences in
    let seq : InstrSeq = record h.was { instrs = frame.instrs } in
    let as_left = ap (λ (t : OpenTrees). t.builder.sequences) (sym h.is) in
    subst (λ c. Seals b c frame None) as_left (record {
      was = h.was;
      seq = seq;
      before = h.before;
      written = set_written b frame.sequence seq (slice_get_within b frame.sequence h.was h.before);
      same_type = refl;
      instrs = refl;
      end_is = refl;
    })
