-- The operators are what follows the declarations.
use Rattle.std.proofs.Common.{slice_get, sym, ◌∙◌, inl, inr}
use Rattle.std.proofs.lemmas.Result.{err_from_is_err_and}
use Rattle.wasm_sections.specs.Declarations.{parameters_of_type}
use Rattle.wasm_sections.proofs.LocalLemmas.{operators_left, none_of_type}
use Rattle.wasm_module.proofs.parsed.ParsedModule.declared.Goals as goal

pub returns-clause-locals : goal.returns-clause-locals
returns-clause-locals c =
    let parsed = c.args.self.now in
    operators_left parsed.spaces.indices (parameters_of_type parsed.module.types c.in-Some.ty) c.params-params.result.now c.args.body.input.rest.now
    c.declared.new.input.rest.now c.until.result.now c.bytes.result.now c.in_ok-locals.locals.types c.params-params.ensures c.in_ok-locals.ensures.types c.until.ensures
    c.bytes.ensures

pub returns-in_err-locals-clause-refused : goal.returns-in_err-locals-clause-refused
returns-in_err-locals-clause-refused c =
    let passed = err_from_is_err_and c.from_residual.result c.from_residual.ensures.1 in
    let parsed = c.args.self.now in
    rw (passed.1, passed.2)
    (elim c.in_err-locals.ensures.refused [
      | inl memory ↦ inl memory
      | inr none ↦ inr
          (none_of_type parsed.spaces.indices parsed.module.types (slice_get parsed.func_types.items c.args.body.func) c.in-Some.ty c.params-params.result.now
          c.args.body.input.rest.now (sym c.type_of.ensures ∙ c.in-Some.is) c.params-params.ensures none)
    ])
