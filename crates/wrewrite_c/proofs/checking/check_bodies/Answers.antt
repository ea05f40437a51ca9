use Rattle.std.proofs.Common.{Result, Err, sym, ap, subst, ◌∙◌, arith}
use Rattle.std.proofs.lemmas.Bool.Decides.{nat_tests}
use Rattle.wasm_sections.specs.declared.code.Bodies.{Bodies}
use Rattle.wasm_sections.specs.declared.fault.ModuleError.{ModuleError}
use Rattle.wasm_sections.specs.CodeSections.{body_at}
use Rattle.wasm_module.specs.ReadModules.{components_of, HasBodiesOf}
use Rattle.wasm_module.proofs.CheckedLemmas.{accepted_then, none_checked, one_checked, all_checked}
use Rattle.wasm_module.proofs.ModuleLemmas.{extends_same, extends_then}
use Rattle.wasm_module.proofs.RefusalLemmas.{if_refused_then}
use Rattle.wrewrite_c.proofs.CallLemmas.{first_refused}
use Rattle.wrewrite_c.proofs.checking.check_bodies.Goals as goal

pub bodies-init : goal.bodies-init
bodies-init c =
    let left = c.into_iter-body-iterator.result in
    let same = c.into_iter-body-iterator.ensures.into_iter_gives in
    record {
      extends = extends_same c.args.parsed.now;
      so_far = λ source reads.
          none_checked source c.args.parsed.now c.args.first left reads (ap (λ (s : Bodies). s.next) same ∙ c.bodies-body-items.ensures.first)
          (subst (λ (s : Bodies). HasBodiesOf (components_of c.args.parsed.now).code s) (sym same) c.bodies-body-items.ensures.bodies);
    }

pub bodies-preserved-then-body-first : goal.bodies-preserved-then-body-first
bodies-preserved-then-body-first c =
    let at = c.bodies in
    let body = c.in-Some.body in
    record {
      extends = at.invariant.extends;
      so_far = λ source reads.
          one_checked c.args.parsed.now c.args.first at.body-iterator c.next.new.self c.next.result body (at.invariant.so_far source reads) c.in-Some.is c.next.ensures.steps
          (λ follows. absurd (grind (arith, nat_tests, c.if-body-first.true, follows)));
    }

pub bodies-preserved : goal.bodies-preserved
bodies-preserved c =
    let at = c.bodies in
    let body = c.in-Some.body in
    record {
      extends = extends_then c.args.parsed.now at.parsed c.fault_of.new.parsed at.invariant.extends c.fault_of.ensures.extends;
      so_far = λ source reads.
          one_checked c.args.parsed.now c.args.first at.body-iterator c.next.new.self c.next.result body (at.invariant.so_far source reads) c.in-Some.is c.next.ensures.steps
          (λ follows. (c.fault_of.new.parsed, accepted_then c.args.parsed.now at.parsed c.fault_of.new.parsed body.func (body_at body) at.invariant.extends c.in_default.ensures.accepted));
    }

pub returns-in-Some-fault_of-clause-refused : goal.returns-in-Some-fault_of-clause-refused
returns-in-Some-fault_of-clause-refused c = λ source reads.
    let at = c.bodies in
    let body = c.in-Some.body in
    let refused : Result (Unit {0}) ModuleError = Err c.in-Some-fault_of.error in
    first_refused c.args.parsed.now c.fault_of.new.parsed c.args.first at.body-iterator c.next.new.self c.next.result body c.in-Some-fault_of.error (at.invariant.so_far source reads)
    c.in-Some.is c.next.ensures.steps (grind (arith, nat_tests, c.if-body-first.false))
    (if_refused_then c.args.parsed.now at.parsed c.fault_of.new.parsed body.func (body_at body) refused at.invariant.extends c.in-Some-fault_of.ensures.refused)

pub returns-clause-accepted : goal.returns-clause-accepted
returns-clause-accepted c = λ source reads.
    let at = c.bodies in
    all_checked c.args.parsed.now c.args.first at.body-iterator c.next.new.self c.next.result (at.invariant.so_far source reads) c.in-None.is c.next.ensures.steps
