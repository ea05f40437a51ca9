use Rattle.std.proofs.Common.{◌∙◌, sym, ap, subst}
use Rattle.wasm_sections.specs.declared.code.Bodies.{Bodies}
use Rattle.wasm_module.specs.ReadModules.{components_of, HasBodiesOf}
use Rattle.wasm_module.proofs.PassedLemmas.{none_before, one_before, found_before, none_found_of}
use Rattle.wasm_module.proofs.parsed.ParsedModule.body_of.Goals as goal

pub bodies-init : goal.bodies-init
bodies-init c = λ source reads.
    let same = c.into_iter-body-iterator.ensures.into_iter_gives in
    none_before source c.args.self.now c.args.index c.into_iter-body-iterator.result reads (ap (λ (s : Bodies). s.next) same ∙ c.bodies-body-items.ensures.first)
    (subst (λ (s : Bodies). HasBodiesOf (components_of c.args.self.now).code s) (sym same) c.bodies-body-items.ensures.bodies)

pub bodies-preserved : goal.bodies-preserved
bodies-preserved c = λ source reads.
    one_before c.args.self.now c.args.index c.bodies.body-iterator c.next.new.self c.next.result c.in-Some.body (c.bodies.invariant source reads) c.in-Some.is c.next.ensures.steps
    c.if-body-index.false

pub returns-then-body-index-clause-is : goal.returns-then-body-index-clause-is
returns-then-body-index-clause-is c = λ source reads.
    found_before c.args.self.now c.args.index c.bodies.body-iterator c.next.new.self c.next.result c.in-Some.body (c.bodies.invariant source reads) c.in-Some.is c.next.ensures.steps
    c.if-body-index.true

pub returns-clause-is : goal.returns-clause-is
returns-clause-is c = λ source reads.
    none_found_of c.args.self.now c.args.index c.bodies.body-iterator c.next.new.self c.next.result (c.bodies.invariant source reads) c.in-None.is c.next.ensures.steps
