use Rattle.std.proofs.Common.{length, sym, ap, ◌∙◌, inl, inr, arith}
use Rattle.std.proofs.lemmas.Result.{err_from_is_err_and}
use Rattle.wasm_sections.proofs.LocalLemmas.{none_declared, one_more_declared, none_after}
use Rattle.wasm_sections.proofs.locals.Locals.declared.Goals as goal

pub groups-init : goal.groups-init
groups-init c = record {
  declare = none_declared c.args.indices.now c.number.new.self.rest.now c.args.params.now c.in_ok-locals.locals.types c.in_ok-locals.ensures.types;
  count = c.in_ok-locals.ensures.count ∙ sym (ap length c.in_ok-locals.ensures.types);
  few = λ few. omega (arith, c.in_ok-locals.ensures.count);
}

pub groups-preserved : goal.groups-preserved
groups-preserved c = record {
  declare = one_more_declared c.args.indices.now c.groups.counter c.number.new.self.rest.now c.groups.input.rest.now c.declare.new.input.rest.now c.args.params.now
      c.groups.locals.types c.declare.new.self.types c.groups.invariant.declare c.in_ok-declare.ensures.group;
  count = c.in_ok-declare.ensures.count c.groups.invariant.count;
  few = λ few. c.in_ok-declare.ensures.few;
}

pub returns-clause-few : goal.returns-clause-few
returns-clause-few c = λ few. c.groups.invariant.few few

pub returns-in_err-declare-clause-refused : goal.returns-in_err-declare-clause-refused
returns-in_err-declare-clause-refused c =
    let passed = err_from_is_err_and c.from_residual-in_err-declare.result c.from_residual-in_err-declare.ensures.1 in
    let at = c.groups in
    rw (passed.1, passed.2)
    (elim c.in_err-declare.ensures.refused [
      | inl memory ↦ inl memory
      | inr none ↦ inr
          (none_after c.args.indices.now at.counter c.in_ok-end.end c.args.input.now.rest.now c.number.new.self.rest.now at.input.rest.now c.args.params.now at.locals.types
          at.locals.count c.in_ok-end.ensures.value (omega (arith, c.groups-test.true)) at.invariant.declare at.invariant.count none)
    ])
