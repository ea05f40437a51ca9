use Rattle.std.proofs.Common.{sym, ap, subst, ◌∙◌, arith}
use Rattle.wasm_sections.specs.declared.code.Bodies.{Bodies}
use Rattle.wasm_sections.specs.CodeSections.{body_at}
use Rattle.wasm_module.specs.ReadModules.{components_of, HasBodiesOf}
use Rattle.wasm_module.proofs.CheckedLemmas.{accepted_then, none_checked, one_checked, all_checked}
use Rattle.wasm_module.proofs.ModuleLemmas.{extends_same, extends_then}
use Rattle.tool_reading.proofs.checking.check_each.Goals as goal

pub bodies-init : goal.bodies-init
bodies-init g c =
    let left = c.into_iter-body-iterator.result in
    let same = c.into_iter-body-iterator.ensures.into_iter_gives in
    record {
      extends = extends_same c.args.parsed.now;
      so_far = λ source reads none.
          none_checked source c.args.parsed.now 0 left reads (ap (λ (s : Bodies). s.next) same ∙ c.bodies-body-items.ensures.first)
          (subst (λ (s : Bodies). HasBodiesOf (components_of c.args.parsed.now).code s) (sym same) c.bodies-body-items.ensures.bodies);
    }

pub bodies-preserved : goal.bodies-preserved
bodies-preserved g c =
    let at = c.bodies in
    let body = c.in-Some.body in
    record {
      extends = extends_then c.args.parsed.now at.parsed c.fault_of.new.parsed at.invariant.extends c.fault_of.ensures.extends;
      so_far = λ source reads none.
          one_checked c.args.parsed.now 0 at.body-iterator c.next.new.self c.next.result body (at.invariant.so_far source reads none) c.in-Some.is c.next.ensures.steps
          (λ follows. (c.fault_of.new.parsed, accepted_then c.args.parsed.now at.parsed c.fault_of.new.parsed body.func (body_at body) at.invariant.extends c.in_default.ensures.accepted));
    }

-- a body more that is refused
pub bodies-preserved-in-Ok : goal.bodies-preserved-in-Ok
bodies-preserved-in-Ok g c =
    let at = c.bodies in
    record {
      extends = extends_then c.args.parsed.now at.parsed c.fault_of.new.parsed at.invariant.extends c.fault_of.ensures.extends;
      so_far = λ source reads none. absurd (omega (arith, c.saturating_add-count.ensures, none));
    }

pub returns : goal.returns
returns g c = λ source reads none.
    let at = c.bodies in
    all_checked c.args.parsed.now 0 at.body-iterator c.next.new.self c.next.result (at.invariant.so_far source reads none) c.in-None.is c.next.ensures.steps
