use Rattle.std.proofs.Common.{◌≡◌, ◌+◌, ◌≤◌, arith}
use Rattle.wasm_operators.specs.declared.types.Space.TheVariants.{Funcs}
use Rattle.walrus_maps.specs.IndexMaps.{numbers_in}
use Rattle.wasm_sections.proofs.RenumberingLemmas.{renumbered, first_refused, second_refused, third_refused, all_numbered, all_refused}
use Rattle.wasm_sections.proofs.renumbering.push_all_funcs.Goals as goal

pub returns-in-Err-clause-refused : goal.returns-in-Err-clause-refused
returns-in-Err-clause-refused c = λ none.
    let a = c.args in
    let fits : a.imported ≤ a.total = omega arith in
    let end_is : c.in-Some.end ≡ a.total + a.added = c.in-Some.ensures.1 in
    let zeroth = numbers_in a.to.now Funcs in
    first_refused a.total a.imported a.added c.in-Some.end c.in-Err.error zeroth zeroth zeroth fits end_is none c.in-Err.ensures.refused

pub returns-in-Err-push_funcs-clause-refused : goal.returns-in-Err-push_funcs-clause-refused
returns-in-Err-push_funcs-clause-refused c = λ none.
    let a = c.args in
    let fits : a.imported ≤ a.total = omega arith in
    let low : 0 ≤ a.imported = omega arith in
    let end_is : c.in-Some.end ≡ a.total + a.added = c.in-Some.ensures.1 in
    let zeroth = numbers_in a.to.now Funcs in
    second_refused a.total a.imported a.added c.in-Some.end c.in-Err-push_funcs.error zeroth (numbers_in c.push_funcs.new.to Funcs) zeroth fits end_is none
    (c.in-Ok.ensures.pushed low) c.in-Err-push_funcs.ensures.refused

pub returns-clause-numbered : goal.returns-clause-numbered
returns-clause-numbered c = λ none.
    let a = c.args in
    let fits : a.imported ≤ a.total = omega arith in
    let low : 0 ≤ a.imported = omega arith in
    let end_is : c.in-Some.end ≡ a.total + a.added = c.in-Some.ensures.1 in
    let high : a.total ≤ c.in-Some.end = omega (arith, end_is) in
    all_numbered c.push_funcs-3.result
    (λ r. renumbered a.total a.imported a.added c.in-Some.end (numbers_in a.to.now Funcs) (numbers_in c.push_funcs.new.to Funcs)
    (numbers_in c.push_funcs-2.new.to Funcs) c.push_funcs-3.new.to fits end_is none (c.in-Ok.ensures.pushed low) (c.in-Ok-push_funcs.ensures.pushed high) r)
    (c.push_funcs-3.ensures.pushed fits)

pub returns-clause-refused : goal.returns-clause-refused
returns-clause-refused c = λ none.
    let a = c.args in
    let fits : a.imported ≤ a.total = omega arith in
    let low : 0 ≤ a.imported = omega arith in
    let end_is : c.in-Some.end ≡ a.total + a.added = c.in-Some.ensures.1 in
    let high : a.total ≤ c.in-Some.end = omega (arith, end_is) in
    all_refused c.push_funcs-3.result
    (λ e h. third_refused a.total a.imported a.added c.in-Some.end e (numbers_in a.to.now Funcs) (numbers_in c.push_funcs.new.to Funcs) (numbers_in c.push_funcs-2.new.to Funcs)
    fits end_is none (c.in-Ok.ensures.pushed low) (c.in-Ok-push_funcs.ensures.pushed high) h)
    c.push_funcs-3.ensures.refused
