-- What is reached along edges, each a pair of items: from and to.
use Rattle.std.specs.Prelude.{◌≡◌, ◌<◌, ℕ, zero, suc, List, map}
use Rattle.std.specs.List.{Contains}
use Rattle.reaching.specs.declared.graph.Edge.{Edge}
use Rattle.reaching.specs.declared.graph.Graph.{Graph}

-- a walk of this many edges
abbrev pub IsWalk : List (ℕ × ℕ) → (from to steps : ℕ) → Type 0
IsWalk es a b zero = a ≡ b
IsWalk es a b (suc n) = (c : ℕ) × IsWalk es a c n × Contains es (c, b)

-- One of this many items is reached if a walk leads to it from a root.
abbrev pub IsReachedFrom : (items : ℕ) → List (ℕ × ℕ) → (roots : List ℕ) → ℕ → Type 0
IsReachedFrom items es roots x = (x < items) × (root : ℕ) × (steps : ℕ) × Contains roots root × IsWalk es root x steps

abbrev pub ends_of : Edge → ℕ × ℕ
ends_of e = (e.from, e.to)

abbrev pub edges_of : Graph → List (ℕ × ℕ)
edges_of g = map ends_of g.edges.items
