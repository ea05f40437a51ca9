use Rattle.std.proofs.Common.{◌≡◌, ℕ, ◌+◌, refl, subst, ◌∙◌, arith}
use Rattle.reaching.specs.Reaching.{edges_of}
use Rattle.module_removal.specs.declared.item.ItemCounts.{ItemCounts}
use Rattle.module_removal.specs.Gathered.{first_alike, TypeRefersTo, RefersToAlike}
use Rattle.module_removal.specs.SeveralSteps.{SoManySteps}
use Rattle.module_removal.proofs.SeveralStepsLemmas.{no_step_made, one_more_step, all_steps_made}
use Rattle.module_removal.proofs.references.References.refer_alike.Goals as goal

pub types-init : goal.types-init
types-init c =
    let old = c.args.self.now in
    record { counts = refl; taken = refl; left = no_step_made (RefersToAlike c.args.alike.now.types old.counts) old.counts.types (0, edges_of old.graph) }

pub types-preserved : goal.types-preserved
types-preserved c =
    let at = c.types in
    let old = c.args.self.now in
    let new = c.refer_to_first.new.self in
    let types = c.args.alike.now.types in
    record {
      counts = c.refer_to_first.ensures.counts ∙ at.invariant.counts;
      taken = c.refer_to_first.ensures.taken ∙ at.invariant.taken;
      left =
          one_more_step (RefersToAlike types old.counts) old.counts.types at.index (0, edges_of old.graph) (at.index, edges_of at.self.graph)
          (at.index + 1, edges_of new.graph) at.invariant.left c.types-test.true (
            refl,
            subst (λ (k : ItemCounts). TypeRefersTo k at.index (first_alike types at.index) (edges_of at.self.graph) (edges_of new.graph)) at.invariant.counts
                c.in-Ok.ensures.edges,
          );
    }

pub returns-clause-edges : goal.returns-clause-edges
returns-clause-edges c =
    let at = c.types in
    let old = c.args.self.now in
    let Step = RefersToAlike c.args.alike.now.types old.counts in
    let all : at.index ≡ old.counts.types = omega arith in
    subst (λ (n : ℕ). SoManySteps Step old.counts.types (0, edges_of old.graph) (n, edges_of at.self.graph)) all
    (all_steps_made Step old.counts.types at.index (0, edges_of old.graph) (at.index, edges_of at.self.graph) at.invariant.left c.types-test.false)
