use Rattle.std.proofs.Common.{◌≡◌, ℕ, ◌<◌, length, Result, Err, sym, ap, ◌∙◌, arith}
use Rattle.std.proofs.lemmas.Bool.Decides.{nat_tests}
use Rattle.wasm_context.specs.Contexts.{without_locals}
use Rattle.wasm_sections.specs.declared.fault.ModuleError.{ModuleError}
use Rattle.wasm_sections.specs.declared.fault.ModuleFault.{ModuleFault}
use Rattle.module_validator.specs.CodeValidity.{fault_there}
use Rattle.module_validator.proofs.ConstantLemmas.{one_constant, constant_refused, all_constant}
use Rattle.module_validator.proofs.constant.check_operators.Goals as goal

abbrev error_at : ℕ → ModuleFault → Result (Unit {0}) ModuleError
error_at at f = Err (fault_there at f)

pub operators-preserved : goal.operators-preserved
operators-preserved c =
    let at = c.operators.reader in
    let new = c.next_constant.new.reader in
    one_constant (without_locals c.args.context.now) c.args.globals c.args.start c.args.code.now at.place new.place at.rest new.rest c.operators.invariant
    c.in-Ok.ensures.is c.in-Ok.ensures.after.0 c.in-Ok.ensures.after.1

pub returns-in-Err : goal.returns-in-Err
returns-in-Err c =
    let at = c.operators.reader in
    let some : 0 < length at.rest = grind (arith, nat_tests) in
    constant_refused (without_locals c.args.context.now) c.args.globals c.args.start c.args.code.now at.place at.rest c.in-Err.fault c.operators.invariant some
    c.in-Err.ensures.is
    ∙ ap (λ (n : ℕ). error_at n c.in-Err.fault) (sym c.original_position-at.ensures)

pub returns : goal.returns
returns c =
    let at = c.operators.reader in
    let none : length at.rest ≡ 0 = grind (arith, nat_tests) in
    all_constant (without_locals c.args.context.now) c.args.globals c.args.start c.args.code.now at.place at.rest c.operators.invariant none
