use Rattle.std.proofs.Common.{inl, inr, ◌≡◌, ℕ, ◌<◌, true, List, [], ◌∷◌, ◌++◌, length, get_or, refl, sym, subst, arith}
use Rattle.std.specs.List.{Contains}
use Rattle.std.proofs.lemmas.Bool.{cases_eq}
use Rattle.std.proofs.lemmas.List.Elements.{Contains-get_or}
use Rattle.reaching.specs.declared.search.Search.{Search}
use Rattle.reaching.specs.Reaching.{edges_of}
use Rattle.reaching.specs.Searching.{is_set}
use Rattle.reaching.proofs.Chains.{from_item}
use Rattle.reaching.proofs.Searching.{marked, begun_further, searched_first, searched_next, searched_all, each_root, none_left}
use Rattle.reaching.proofs.graph.Graph.reachable.Goals as goal

pub loop-root-preserved : goal.loop-root-preserved
loop-root-preserved c =
    let roots = c.args.roots.now in
    let items = length c.args.self.now.last.items in
    let i = c.loop-root.root-index in
    let marks = c.mark.new.self.marks.items in
    let step = marked (λ x. Contains roots x) c.loop-root.search c.mark.new.self (get_or roots i 0) (Contains-get_or roots i 0 c.loop-root-test.true) c.in_ok-mark.ensures.marks c.in_ok-mark.ensures.pending in
    let begun = begun_further items roots c.loop-root.search c.mark.new.self step.0 c.loop-root.invariant.0 in (
      begun,
      λ k lt within. elim (cases_eq k i) [
        | inl same ↦
            subst (λ j. is_set marks (get_or roots j 0) ≡ true) (sym same)
            (step.1 (subst (λ j. get_or roots j 0 < length marks) same (subst (λ m. get_or roots k 0 < m) (sym begun.size) within)))
        | inr other ↦ step.0.kept (get_or roots k 0) (c.loop-root.invariant.1 k (omega arith) within)
      ],
    )

pub items-init : goal.items-init
items-init c =
    let roots = c.args.roots.now in
    let items = length c.args.self.now.last.items in
    searched_first items (edges_of c.args.self.now) roots c.loop-root.search c.loop-root.invariant.0
    (each_root roots c.loop-root.search.marks.items items (λ k lt within. c.loop-root.invariant.1 k (omega (arith, lt, c.loop-root-test.false)) within))

pub items-preserved : goal.items-preserved
items-preserved c =
    let taken : Search = record { marks = c.items.search.marks; pending = c.pop.new.self } in
    searched_next (length c.args.self.now.last.items) (edges_of c.args.self.now) c.args.roots.now c.items.search taken c.mark_targets.new.search c.in-Some.item
    c.items.invariant refl c.in-Some.ensures.items c.in_ok-mark_targets.ensures.grown c.in_ok-mark_targets.ensures.closed

pub returns-clause-reached : goal.returns-clause-reached
returns-clause-reached c x =
    let g = c.args.self.now in
    let empty : c.items.search.pending.items ≡ [] = none_left c.items.search.pending.items (omega (arith, c.in_default.ensures.cases.0, c.items.search.pending.ok.0)) in (
      c.items.invariant.reached x,
      searched_all (length g.last.items) (edges_of g) c.args.roots.now c.items.search (λ a b edge. from_item g.edges.items g.last.items g.last_of_item a b edge) c.items.invariant empty x,
    )
