use Rattle.std.proofs.Common.{◌≡◌, ℕ, suc, ◌<◌, ◌⊎◌, true, length, Some, slice_get}
use Rattle.std.specs.List.{Contains}
use Rattle.reaching.specs.declared.graph.Edge.{Edge}
use Rattle.reaching.specs.Chains.{is_from}
use Rattle.reaching.specs.Reaching.{edges_of}
use Rattle.reaching.specs.Searching.{is_set, IsGrown}
use Rattle.reaching.proofs.graph.Graph.mark_targets.Given as goal

-- The next edge is one from the item, and those from it that come after lead to marked items.
abbrev pub invariant-targets : goal.invariant-targets
invariant-targets l =
    IsGrown (λ x. Contains (edges_of l.self) (l.item, x)) l.fn.search l.search
    × ((k : ℕ) → l.at ≡ suc k → (k < length l.self.edges.items) × (is_from l.self.edges.items l.item k ≡ true))
    × ((k : ℕ) (e : Edge) → slice_get l.self.edges.items k ≡ Some e → e.from ≡ l.item
    → (k < l.at) ⊎ (e.to < length l.search.marks.items → is_set l.search.marks.items e.to ≡ true))

abbrev pub decreases-targets : goal.decreases-targets
decreases-targets l = l.at
