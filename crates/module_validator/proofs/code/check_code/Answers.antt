use Rattle.std.proofs.Common.{◌≡◌, ◌⊎◌, length, Err, sym, subst}
use Rattle.wasm_context.specs.Contexts.{context_of}
use Rattle.wasm_context.specs.TypeLists.{types_in}
use Rattle.wasm_locals.specs.LocalTypes.{types_of_locals}
use Rattle.wasm_sections.specs.declared.fault.ModuleError.{ModuleError}
use Rattle.wasm_sections.specs.declared.fault.ModuleFault.TheVariants as fault
use Rattle.wasm_validation.specs.BodyValidation.{BodySetting}
use Rattle.module_validator.specs.CodeValidity.{code_validity}
use Rattle.module_validator.proofs.CodeLemmas.{valid_is_ok, fault_gives}
use Rattle.module_validator.proofs.code.check_code.Goals as goal

pub returns-in-Ok : goal.returns-in-Ok
returns-in-Ok c = valid_is_ok _ c.args.start c.args.code.now c.in-Ok.ensures

pub returns-in-Err : goal.returns-in-Err
returns-in-Err c =
    let g : BodySetting = record {
      context = context_of c.args.context.now (types_of_locals c.args.locals);
      parameters = length c.args.locals.params.now;
      results = types_in c.args.context.now c.args.results;
    } in
    subst (λ (e : ModuleError). (e.fault ≡ fault.Memory) ⊎ (code_validity g c.args.start c.args.code.now ≡ Err e)) (sym c.error_of_body.ensures)
    (fault_gives g c.args.start c.args.code.now c.in-Err.failure c.in-Err.ensures)
