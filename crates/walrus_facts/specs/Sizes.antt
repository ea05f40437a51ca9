-- `SizeVisitor` counts the instructions that it visits.
use Rattle.std.specs.Prelude.{◌≡◌, ◌+◌, ◌^◌, ◌≤◌, ℕ, List, [], ◌∷◌, length}
use Rattle.walrus_ir.specs.declared.seq.InstrSeq.{InstrSeq}
use Rattle.walrus_ir.specs.declared.error.WalkError.{WalkError}
use Rattle.walrus_ir.specs.declared.error.WalkError.TheVariants.{TooLarge}
use Rattle.walrus_ir.specs.Unfolding.{LocatedInstr}
use Rattle.walrus_ir.specs.Events.{WalkEvent, VisitInstruction}
use Rattle.walrus_facts.specs.declared.sizes.SizeVisitor.{SizeVisitor}
use Rattle.walrus_facts.specs.Facts.{count, TreeHas}

-- the instruction that an event visits
abbrev pub visited : WalkEvent → List LocatedInstr
visited (VisitInstruction i location) = (i, location) ∷ []
visited _ = []

abbrev pub Counts : SizeVisitor → WalkEvent → SizeVisitor → Type 0
Counts s e t = t.size ≡ s.size + length (visited e)

-- the count would not fit 64 bits
abbrev pub Overflows : SizeVisitor → WalkEvent → WalkError → Type 0
Overflows s e f = (f ≡ TooLarge) × (2 ^ 64 ≤ s.size + length (visited e))

-- the sequences are a tree, and its size doesn't fit 64 bits
abbrev pub IsTooLarge : List InstrSeq → ℕ → WalkError → Type 0
IsTooLarge b start error = (error ≡ TooLarge) × TreeHas b start (λ t. 2 ^ 64 ≤ count t.items)
