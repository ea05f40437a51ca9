use Rattle.std.proofs.Common.{◌≡◌, ℕ, ◌<◌, true, length, get_or}
use Rattle.reaching.specs.Reaching.{edges_of}
use Rattle.reaching.specs.Searching.{is_set, weight}
use Rattle.reaching.proofs.Searching.{IsBegun, IsSearched}
use Rattle.reaching.proofs.graph.Graph.reachable.Given as goal

-- The roots so far are marked.
abbrev pub invariant-loop-root : goal.invariant-loop-root
invariant-loop-root l =
    IsBegun (length l.self.last.items) l.roots l.search
    × ((k : ℕ) → k < l.root-index → get_or l.roots k 0 < length l.self.last.items → is_set l.search.marks.items (get_or l.roots k 0) ≡ true)

abbrev pub invariant-items : goal.invariant-items
invariant-items l = IsSearched (length l.self.last.items) (edges_of l.self) l.roots l.search

abbrev pub decreases-items : goal.decreases-items
decreases-items l = weight l.search
