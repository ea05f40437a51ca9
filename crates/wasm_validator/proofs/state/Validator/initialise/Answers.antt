use Rattle.std.proofs.Common.{◌≡◌, ◌++◌, refl, sym, ap, ◌∙◌}
use Rattle.wasm_validator.specs.Steps.{setting_of, arguments_of}
use Rattle.wasm_validator.proofs.SetOrInitial.{initial_stays, set_among}
use Rattle.wasm_validator.proofs.state.Validator.initialise.Goals as goal

pub returns-then-starts_set-clause-ok : goal.returns-then-starts_set-clause-ok
returns-then-starts_set-clause-ok c =
    let v = c.args.self.now in initial_stays c.args.local v.set (arguments_of v) (sym (c.starts_set.ensures (setting_of v).operands refl) ∙ c.if-starts_set.true)

pub returns-in-Ok-clause-ok : goal.returns-in-Ok-clause-ok
returns-in-Ok-clause-ok c =
    let v = c.args.self.now in
    ap (λ ls. ls ++ arguments_of v) c.in-Ok.ensures ∙ set_among c.args.local v.set (arguments_of v) (sym (c.starts_set.ensures (setting_of v).operands refl) ∙ c.if-starts_set.false)
