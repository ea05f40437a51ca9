use Rattle.std.proofs.Common.{sym, ap, subst, ◌∙◌}
use Rattle.std.proofs.lemmas.Result.{err_from_is_err_and}
use Rattle.wasm_sections.specs.declared.code.Bodies.{Bodies}
use Rattle.wasm_module.specs.ReadModules.{components_of, HasBodiesOf}
use Rattle.wasm_module.proofs.ModuleLemmas.{extends_same, extends_then}
use Rattle.wasm_module.proofs.VisitedLemmas.{none_visited, one_visited, all_visited, visited_up_to}
use Rattle.wasm_module.proofs.parsed.ParsedModule.for_each_function.Goals as goal

pub bodies-init : goal.bodies-init
bodies-init g c =
    let left = c.into_iter-body-iterator.result in
    let same = c.into_iter-body-iterator.ensures.into_iter_gives in
    record {
      callable = c.requires;
      extends = extends_same c.args.self.now;
      so_far = λ source reads.
          none_visited (goal.F-step g) c.args.self.now source c.args.visit left reads (ap (λ (s : Bodies). s.next) same ∙ c.bodies-body-items.ensures.first)
          (subst (λ (s : Bodies). HasBodiesOf (components_of c.args.self.now).code s) (sym same) c.bodies-body-items.ensures.bodies);
    }

pub bodies-preserved : goal.bodies-preserved
bodies-preserved g c =
    let at = c.bodies in
    record {
      callable = c.visit_function.ensures.callable;
      extends = extends_then c.args.self.now at.self c.visit_function.new.self at.invariant.extends c.visit_function.ensures.extends;
      so_far = λ source reads.
          one_visited (goal.F-step g) c.args.self.now at.self c.args.visit at.visit c.visit_function.new.visit at.body-iterator c.next.new.self c.next.result c.in-Some.body
          (at.invariant.so_far source reads) c.in-Some.is c.next.ensures.steps at.invariant.extends c.in_ok-visit_function.ensures.visited;
    }

pub returns-in_err-visit_function-clause-extends : goal.returns-in_err-visit_function-clause-extends
returns-in_err-visit_function-clause-extends g c =
    extends_then c.args.self.now c.bodies.self c.visit_function.new.self c.bodies.invariant.extends c.visit_function.ensures.extends

pub returns-in_err-visit_function-clause-stops : goal.returns-in_err-visit_function-clause-stops
returns-in_err-visit_function-clause-stops g c = λ source reads.
    let at = c.bodies in
    let passed = err_from_is_err_and c.from_residual.result c.from_residual.ensures.1 in
    rw (passed.1, passed.2) (
    visited_up_to (goal.F-step g) c.args.self.now at.self c.args.visit at.visit at.body-iterator c.next.new.self c.next.result c.in-Some.body _ (at.invariant.so_far source reads)
    c.in-Some.is c.next.ensures.steps at.invariant.extends c.in_err-visit_function.ensures.stops
    )

pub returns-clause-visited : goal.returns-clause-visited
returns-clause-visited g c = λ source reads.
    let at = c.bodies in
    (at.visit, all_visited (goal.F-step g) c.args.self.now c.args.visit at.visit at.body-iterator c.next.new.self c.next.result (at.invariant.so_far source reads) c.in-None.is c.next.ensures.steps)
