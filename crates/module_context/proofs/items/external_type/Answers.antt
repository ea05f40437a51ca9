use Rattle.std.proofs.Common.{Ok, refl, ◌∙◌}
use Rattle.std.proofs.lemmas.Result.{err_from_is_err_and}
use Rattle.wasm_sections.specs.Format.{table_type_part, global_type_part, import_kind}
use Rattle.wasm_sections.proofs.TypeReadingLemmas.{first_fails}
use Rattle.module_context.specs.declared.items.ImportType.TheVariants as import
use Rattle.module_context.specs.DeclaredItems.{import_type_of}
use Rattle.module_context.proofs.TypePartLemmas.{byte_first}
use Rattle.module_context.proofs.items.external_type.Goals as goal

pub returns-in_err-ty-in-1-clause-is : goal.returns-in_err-ty-in-1-clause-is
returns-in_err-ty-in-1-clause-is c =
    let before = c.args.input.now in
    let new = c.byte.new.self in
    let failed = c.in_err-ty-in-1 in
    let passed = err_from_is_err_and c.from_residual-in_err-ty-in-1.result c.from_residual-in_err-ty-in-1.ensures.1 in
    rw (passed.1, passed.2)
    (byte_first import_kind import_type_of before.end new.end c.in_ok-byte.field-0 1 before.rest.now new.rest.now c.in_ok-byte.ensures.is c.in-1.is refl c.byte.ensures.same_end
    ∙ first_fails (table_type_part new.end new.rest.now) (λ type. Ok (import.Table type.0, type.1)) failed.field-0.0 failed.ensures.is)

pub returns-in_err-ty-in-3-clause-is : goal.returns-in_err-ty-in-3-clause-is
returns-in_err-ty-in-3-clause-is c =
    let before = c.args.input.now in
    let new = c.byte.new.self in
    let failed = c.in_err-ty-in-3 in
    let passed = err_from_is_err_and c.from_residual-in_err-ty-in-3.result c.from_residual-in_err-ty-in-3.ensures.1 in
    rw (passed.1, passed.2)
    (byte_first import_kind import_type_of before.end new.end c.in_ok-byte.field-0 3 before.rest.now new.rest.now c.in_ok-byte.ensures.is c.in-3.is refl c.byte.ensures.same_end
    ∙ first_fails (global_type_part new.end new.rest.now) (λ type. Ok (import.Global type.0, type.1)) failed.field-0.0 failed.ensures.is)
