use Rattle.std.proofs.Common.{◌+◌, List, map, inr, refl, subst, sym, ◌∙◌, ap}
use Rattle.std.proofs.lemmas.List.{map-append}
use Rattle.std.proofs.lemmas.Result.{err_from_is_err_and}
use Rattle.dwarf_info.specs.Entries.{SpelledAttribute}
use Rattle.dwarf_info.specs.EntryViews.{attribute_spelled}
use Rattle.dwarf_info.proofs.AttributesRead.{ValuesSoFar, values_more, values_done, form_refused, value_refused}
use Rattle.dwarf_info.proofs.values.read_values.Goals as goal

pub returns-in_err-form-clause-refused : goal.returns-in_err-form-clause-refused
returns-in_err-form-clause-refused c =
    let p = err_from_is_err_and c.from_residual.result c.from_residual.ensures.1 in
    rw (p.1, p.2) (inr (_, refl, form_refused _ _ _ _ _ _ _ c.loop-attribute.invariant.so_far _ c.loop-attribute-test.true _ c.in_err-form.ensures.gives))

pub returns-in_err-value-clause-refused : goal.returns-in_err-value-clause-refused
returns-in_err-value-clause-refused c =
    let p = err_from_is_err_and c.from_residual-in_err-value.result c.from_residual-in_err-value.ensures.1 in
    let same = c.in_ok-form.ensures.end ∙ c.loop-attribute.invariant.same_end in
    rw (p.1, p.2)
    (inr (_, refl, value_refused _ _ _ _ _ _ _ c.loop-attribute.invariant.so_far _ c.loop-attribute-test.true _ _ c.in_ok-form.ensures.gives _ same _ c.in_err-value.ensures.gives))

pub loop-attribute-preserved : goal.loop-attribute-preserved
loop-attribute-preserved c =
    let same = c.in_ok-form.ensures.end ∙ c.loop-attribute.invariant.same_end in
    let more = values_more _ _ _ _ _ _ _ c.loop-attribute.invariant.so_far _ c.loop-attribute-test.true _ _ c.in_ok-form.ensures.gives _ same _ _ c.in_ok-value.ensures.gives
    c.in_ok-form.ensures.shorter c.in_ok-value.ensures.shorter in
    record {
      so_far = subst (λ (vs : List SpelledAttribute). ValuesSoFar c.args.encoding c.args.input.now.end c.args.attributes.now c.args.input.now.rest.now (c.loop-attribute.attribute-index + 1) vs c.read_value.new.input.rest.now)
          (sym (ap (map attribute_spelled) c.in_ok-push.ensures.items ∙ map-append attribute_spelled c.loop-attribute.values.items _)) more;
      same_end = c.in_ok-value.ensures.end ∙ same;
    }

pub returns-clause-read : goal.returns-clause-read
returns-clause-read c = values_done _ _ _ _ _ _ _ c.loop-attribute.invariant.so_far c.loop-attribute-test.false
