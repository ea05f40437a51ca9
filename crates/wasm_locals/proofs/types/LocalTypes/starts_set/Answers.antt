use Rattle.std.proofs.Common.{Some, length, sym, ◌∙◌}
use Rattle.std.proofs.lemmas.Bool.{lt-ltb}
use Rattle.wasm_locals.specs.LocalTypes.{types_of_locals}
use Rattle.wasm_locals.proofs.Initial.{parameter-is_initial, declared-is_initial}
use Rattle.wasm_locals.proofs.types.LocalTypes.starts_set.Goals as goal

pub returns-then-number-self : goal.returns-then-number-self
returns-then-number-self c = λ m h.
    let locals = c.args.self.now in
    let k = length locals.params.now in
    lt-ltb c.args.number k c.if-number-self.true ∙ sym (parameter-is_initial m (types_of_locals locals) k c.args.number h c.if-number-self.true)

pub returns-else-number-self : goal.returns-else-number-self
returns-else-number-self c = λ m h.
    let locals = c.args.self.now in
    c.has_default.ensures
    ∙ sym (declared-is_initial m (types_of_locals locals) (length locals.params.now) c.args.number (Some c.args.ty) h c.if-number-self.false c.requires)
