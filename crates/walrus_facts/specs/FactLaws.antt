-- The facts of a function agree with its other calls.
use Rattle.std.specs.Prelude.{◌≡◌, ◌==◌, ◌↔◌, ℕ, IsTrue, List}
use Rattle.std.specs.HashSet.{HashSet, contains}
use Rattle.walrus_ir.specs.declared.seq.InstrSeq.{InstrSeq}
use Rattle.walrus_ir.specs.Unfolding.{among}
use Rattle.walrus_facts.specs.declared.facts.EmitFacts.{EmitFacts}
use Rattle.walrus_facts.specs.Facts.{count, segments, AreFacts, TreeHas}

-- the size in the facts is the size that `size` returns
abbrev pub FactsHaveSize : Type 0
FactsHaveSize =
    (b : List InstrSeq) (start : ℕ) (f : EmitFacts) (n : ℕ)
    → TreeHas b start (λ t. AreFacts t.items f) → TreeHas b start (λ t. n ≡ count t.items) → f.size ≡ n

-- the facts say that data segments are used exactly if `used_data_segments` finds one
abbrev pub FactsUseFound : Type 0 → Type 0
FactsUseFound S =
    (b : List InstrSeq) (start : ℕ) (f : EmitFacts) (found : HashSet ℕ S)
    → TreeHas b start (λ t. AreFacts t.items f)
    → TreeHas b start (λ t. (d : ℕ) → contains (λ x y. x == y) found d ≡ among d (segments t.items))
    → IsTrue f.uses_data_segments ↔ ((d : ℕ) × IsTrue (contains (λ x y. x == y) found d))
