use Rattle.std.proofs.Common.{inl, inr, ◌≡◌, ℕ, ◌<◌, ◌-◌, true, length, sym, subst, arith}
use Rattle.std.specs.List.{Contains}
use Rattle.reaching.specs.declared.graph.Edge.{Edge}
use Rattle.reaching.specs.Chains.{IsLastFrom}
use Rattle.reaching.specs.Reaching.{edges_of}
use Rattle.reaching.specs.Searching.{is_set}
use Rattle.reaching.proofs.Chains.{Contains_edge, number_of, first_next, first_before, next_within, next_is, next_from, next_smaller, next_again, before_next}
use Rattle.reaching.proofs.Searching.{same_grown, grown_further, marked}
use Rattle.reaching.proofs.graph.Graph.mark_targets.Goals as goal

pub targets-init : goal.targets-init
targets-init c =
    let g = c.args.self.now in
    let es = g.edges.items in
    let last = subst (λ n. IsLastFrom es c.args.item (length es) n) (sym c.last_of-at.ensures) (g.last_of_item c.args.item) in (
      same_grown _ _,
      first_next es c.args.item _ last,
      λ k e found from. inl (first_before es c.args.item _ last k e found from),
    )

pub index-edge-requires : goal.index-edge-requires
index-edge-requires c =
    let within = next_within c.args.self.now.edges.items c.args.item c.targets.at c.targets-test.true c.targets.invariant.1 in
    omega (arith, within, c.args.self.now.edges.ok.0)

pub targets-smaller : goal.targets-smaller
targets-smaller c =
    let g = c.args.self.now in
    next_smaller g.edges.items c.args.item c.targets.at c.index-edge.result.now c.targets-test.true c.targets.invariant.1 c.index-edge.ensures g.before_edge

pub targets-preserved : goal.targets-preserved
targets-preserved c =
    let g = c.args.self.now in
    let es = g.edges.items in
    let item = c.args.item in
    let edge = c.index-edge.result.now in
    let next = c.targets.invariant.1 in
    let found = next_is es item c.targets.at edge c.targets-test.true next c.index-edge.ensures in
    let from = next_from es item c.targets.at edge c.targets-test.true next c.index-edge.ensures in
    let holds : Contains (edges_of g) (item, edge.to) =
    subst (λ a. Contains (edges_of g) (a, edge.to)) from (Contains_edge es (c.targets.at - 1) edge found) in
    let step = marked (λ x. Contains (edges_of g) (item, x)) c.targets.search c.mark.new.self edge.to holds c.in_ok-mark.ensures.marks c.in_ok-mark.ensures.pending in (
      grown_further _ _ _ _ c.targets.invariant.0 step.0,
      next_again es item c.targets.at edge c.targets-test.true next c.index-edge.ensures g.before_edge,
      λ k e is from_item. elim (c.targets.invariant.2 k e is from_item) [
        | inl lt ↦ elim (before_next es item c.targets.at edge c.targets-test.true next c.index-edge.ensures g.before_edge k e is from_item lt) [
          | inl before ↦ inl before
          | inr same ↦ inr (subst (λ (f : Edge). f.to < length c.mark.new.self.marks.items → is_set c.mark.new.self.marks.items f.to ≡ true) same step.1)
        ]
        | inr is_marked ↦ inr (λ lt. step.0.kept e.to (is_marked (subst (λ n. e.to < n) step.0.items lt)))
      ],
    )

pub returns-clause-closed : goal.returns-clause-closed
returns-clause-closed c x edge lt =
    let of = number_of c.args.self.now.edges.items c.args.item x edge in
    elim (c.targets.invariant.2 of.0 of.1 of.2 of.3) [
      | inl before ↦ absurd (omega (arith, before, c.targets-test.false))
      | inr is_marked ↦
          subst (λ y. y < length c.targets.search.marks.items → is_set c.targets.search.marks.items y ≡ true) of.4 is_marked lt
    ]
