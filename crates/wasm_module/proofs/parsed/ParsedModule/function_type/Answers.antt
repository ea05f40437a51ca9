use Rattle.std.proofs.Common.{ℕ, List, Result, is_err, sym, ap, subst, ◌∙◌}
use Rattle.wasm_body.specs.declared.error.IndexError.{IndexError}
use Rattle.wasm_sections.specs.Sections.{IsModule}
use Rattle.wasm_module.proofs.TypeLemmas.{is_found, is_added}
use Rattle.wasm_module.proofs.parsed.ParsedModule.function_type.Goals as goal

pub returns-in-Ok-get_type_index-clause-ok : goal.returns-in-Ok-get_type_index-clause-ok
returns-in-Ok-get_type_index-clause-ok c = λ all m.
    is_found all c.args.self.now c.type_id.new.self c.args.changes.now c.args.params.now c.args.results.now c.in-Ok.id c.in-Ok-get_type_index.field-0
    c.in-Ok.ensures.first c.in-Ok.ensures.extends c.in-Ok.ensures.kept c.in-Ok.ensures.spaces
    (sym c.get_type_index.ensures ∙ c.in-Ok-get_type_index.is)

pub returns-in-Ok-add_function_type-clause-ok : goal.returns-in-Ok-add_function_type-clause-ok
returns-in-Ok-add_function_type-clause-ok c = λ all m.
    let e = c.in-Ok.ensures.extends in
    let missing = sym c.get_type_index.ensures ∙ c.in-Err-get_type_index.is in
    let made = c.in-Ok-add_function_type.ensures in
    is_added all c.args.self.now c.type_id.new.self c.add_function_type.new.self c.args.changes.now c.add_function_type.new.changes c.args.params.now
    c.args.results.now c.in-Ok.id c.in-Err-get_type_index.field-0 c.in-Ok.ensures.first e c.in-Ok.ensures.kept c.in-Ok.ensures.spaces missing made.kept.kept
    (made.adds all (subst (λ (b : List ℕ). IsModule b all) (sym e.bytes) m))
    (made.defined (ap (λ (r : Result ℕ IndexError). is_err r) missing))
