use Rattle.std.proofs.Common.{refl, sym}
use Rattle.wasm_validator.specs.Steps.{setting_of, arguments_of}
use Rattle.wasm_validator.proofs.SetOrInitial.{contains_initial, contains_set}
use Rattle.wasm_validator.proofs.state.Validator.is_initialised.Goals as goal

pub returns-then-starts_set : goal.returns-then-starts_set
returns-then-starts_set c = let v = c.args.self.now in contains_initial c.args.local v.set (arguments_of v) c.starts_set.result (sym (c.starts_set.ensures (setting_of v).operands refl)) c.if-starts_set.true

pub returns-else-starts_set : goal.returns-else-starts_set
returns-else-starts_set c =
    let v = c.args.self.now in contains_set c.args.local v.set (arguments_of v) c.starts_set.result c.contains.result (sym (c.starts_set.ensures (setting_of v).operands refl)) c.if-starts_set.false (sym c.contains.ensures)
