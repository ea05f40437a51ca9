-- The places of the sequences in items: they rise, in walk order, within an interval.
use Rattle.std.specs.Prelude.{ℕ, suc, ◌≤◌}
use Rattle.walrus_ir.specs.Tree.{Items, no_items, item, Sequences, no_sequences, sequence}
use Rattle.walrus_ir.specs.Unfolding.{SequenceAt, LocatedInstr}

-- from the first place on, and below the second
abbrev mutual
  pub RiseIn : ℕ → Items SequenceAt LocatedInstr → ℕ → Type 0
  RiseIn low no_items high = low ≤ high
  RiseIn low (item x inside rest) high = (middle : ℕ) × AllRiseIn low inside middle × RiseIn middle rest high

  pub AllRiseIn : ℕ → Sequences SequenceAt LocatedInstr → ℕ → Type 0
  AllRiseIn low no_sequences high = low ≤ high
  AllRiseIn low (sequence h items rest) high = (middle : ℕ) × (low ≤ h.slot) × RiseIn (suc h.slot) items middle × AllRiseIn middle rest high
