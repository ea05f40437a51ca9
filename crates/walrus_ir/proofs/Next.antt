-- The steps of a walk, and the stack of open sequences, one more at a time.
use Rattle.std.proofs.Common.{◌≡◌, ◌<◌, ◌-◌, ℕ, zero, suc, List, [], ◌∷◌, ◌++◌, Some, length, subst, arith}
use Rattle.std.proofs.lemmas.Grind.{common_steps}
use Rattle.std.specs.Prelude.{slice_get}
use Rattle.walrus_ir.specs.declared.seq.InstrSeq.{InstrSeq}
use Rattle.walrus_ir.specs.declared.walk.Open.{Open}
use Rattle.walrus_ir.specs.Unfolding.{LocatedInstr, slots_in}
use Rattle.walrus_ir.specs.Events.{WalkEvent, StartSequence, EndSequence, VisitInstruction, names}
use Rattle.walrus_ir.specs.Visiting.{frame, frames, started, IsStretch, no_stretch, continues, Next, starts, visits, ends}

pub frames_push : (opened : List Open) (o : Open) → frames (opened ++ o ∷ []) ≡ frame o ∷ frames opened
frames_push opened o = grind (arith, common_steps)

pub next_starts : (b : List InstrSeq) (seq next : InstrSeq) (rest : List LocatedInstr) (inside p : ℕ) (coming left : List ℕ)
    → 0 < inside → coming ≡ p ∷ left → slice_get b p ≡ Some next
    → Next b (record { seq = seq; rest = rest; inside = inside }) coming (StartSequence next ∷ []) (started next ∷ record { seq = seq; rest = rest; inside = inside - 1 } ∷ []) left
next_starts b seq next rest zero p coming left lt e known = absurd (omega arith)
next_starts b seq next rest (suc n) p coming left lt e known =
    let less : suc n - 1 ≡ n = omega arith in
    rw (less, e) (starts known)

-- a stretch that ends with an instruction that contains sequences is what comes next
pub next_visits : {b : List InstrSeq} (seq : InstrSeq) {rest left : List LocatedInstr} {es : List WalkEvent} (inside n : ℕ) (coming : List ℕ) → inside ≡ 0 → IsStretch rest left n es → 0 < n
    → Next b (record { seq = seq; rest = rest; inside = inside }) coming es (record { seq = seq; rest = left; inside = n } ∷ []) coming
next_visits seq inside n coming none no_stretch some = absurd (omega arith)
next_visits seq inside n coming none (continues s) some = rw none (visits s)

pub next_refused : {b : List InstrSeq} (seq : InstrSeq) {x : LocatedInstr} {rest left : List LocatedInstr} {es : List WalkEvent} (inside : ℕ) (coming : List ℕ) → inside ≡ 0 → IsStretch rest (x ∷ left) 0 es
    → Next b (record { seq = seq; rest = rest; inside = inside }) coming (es ++ VisitInstruction x.0 x.1 ∷ names x.0) (record { seq = seq; rest = left; inside = length (slots_in x.0) } ∷ []) coming
next_refused seq inside coming none s = rw none (visits s)

pub next_ends : {b : List InstrSeq} (seq : InstrSeq) {rest left : List LocatedInstr} {es : List WalkEvent} (inside n : ℕ) (coming : List ℕ) → inside ≡ 0 → n ≡ 0 → left ≡ [] → IsStretch rest left n es
    → Next b (record { seq = seq; rest = rest; inside = inside }) coming (es ++ EndSequence seq ∷ []) [] coming
next_ends {b = b} seq {rest = rest} {es = es} inside n coming none last whole s =
    let P : ℕ → Type 0 = λ m. IsStretch rest [] m es in
    let Q : List LocatedInstr → Type 0 = λ xs. IsStretch rest xs n es in
    rw none (ends (subst P last (subst Q whole s)))
