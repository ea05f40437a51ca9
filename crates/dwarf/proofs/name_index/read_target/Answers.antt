use Rattle.std.proofs.Common.{◌∙◌, sym, arith}
use Rattle.std.proofs.lemmas.Result.{err_from_is_err_and}
use Rattle.dwarf.proofs.IndexLemmas.{value_unread, target_refused, target_more, target_end, place_kept}
use Rattle.dwarf.proofs.name_index.read_target.Goals as goal

pub returns-in_err-value-clause-gives : goal.returns-in_err-value-clause-gives
returns-in_err-value-clause-gives c =
    let s = c.attributes in
    let p = err_from_is_err_and c.from_residual.result c.from_residual.ensures.1 in
    let value = rw s.invariant.same_end at c.in_err-value.ensures.gives in
    rw (p.1, p.2) (s.invariant.same ∙ value_unread c.args.input.now.end c.args.attributes.now s.attribute-index _ c.attributes-test.true s.target s.input.rest.now c.in_err-value.field-0.0 value)

pub returns-in_err-target-clause-gives : goal.returns-in_err-target-clause-gives
returns-in_err-target-clause-gives c =
    let s = c.attributes in
    let p = err_from_is_err_and c.from_residual-in_err-target.result c.from_residual-in_err-target.ensures.1 in
    let value = rw s.invariant.same_end at c.in_ok-value.ensures.gives in
    rw (p.1, p.2) (s.invariant.same
    ∙ target_refused c.args.input.now.end c.args.attributes.now s.attribute-index _ c.attributes-test.true s.target s.input.rest.now c.in_ok-value.value c.read_value.new.input.rest.now value c.in_err-target.field-0.0
    (sym c.in_err-target.ensures))

pub attributes-preserved : goal.attributes-preserved
attributes-preserved c =
    let s = c.attributes in
    let value = rw s.invariant.same_end at c.in_ok-value.ensures.gives in
    record {
      same = s.invariant.same
          ∙ target_more c.args.input.now.end c.args.attributes.now s.attribute-index _ c.attributes-test.true s.target s.input.rest.now c.in_ok-value.value c.read_value.new.input.rest.now value c.in_ok-target.target
          (sym c.in_ok-target.ensures);
      place = place_kept s.target c.in_ok-target.target _ c.in_ok-value.value (sym c.in_ok-target.ensures) c.in_ok-value.ensures.fits s.invariant.place;
      same_end = c.in_ok-value.ensures.end ∙ s.invariant.same_end;
      shorter = omega (arith, c.in_ok-value.ensures.shorter, s.invariant.shorter);
    }

pub returns-clause-gives : goal.returns-clause-gives
returns-clause-gives c =
    let s = c.attributes in
    s.invariant.same ∙ target_end c.args.input.now.end c.args.attributes.now s.attribute-index c.attributes-test.false s.target s.input.rest.now
