use Rattle.std.proofs.Common.{◌∷◌, ◌∙◌, inr}
use Rattle.module_validator.proofs.ExportLemmas.{named_fails, named_new}
use Rattle.module_validator.proofs.exports.check_export.Goals as goal

pub returns-in-Err-clause-is : goal.returns-in-Err-clause-is
returns-in-Err-clause-is c = λ all has. inr (named_fails all c.args.input.now.end c.args.input.now.rest.now c.in-Err.error c.in-Err.ensures.is)

pub returns-in-Ok-true-clause-is : goal.returns-in-Ok-true-clause-is
returns-in-Ok-true-clause-is c = λ all has.
    let name = c.in-Ok.name.now in
    let both = c.in-Ok-true.ensures.ok all has in (
      name ∷ all,
      named_new all c.args.input.now.end c.args.input.now.rest.now name c.export_name.new.input.rest.now c.in-Ok.ensures.is (both.0 ∙ c.in-Ok-true.field-0-test),
      both.1 c.in-Ok-true.field-0-test,
    )
