use Rattle.wasm_sections.proofs.ExportNameLemmas.{too_much_never}
use Rattle.wasm_module.proofs.parsed.ParsedModule.export_function.Goals as goal

pub returns-in-Err-clause-taken : goal.returns-in-Err-clause-taken
returns-in-Err-clause-taken c = λ all m p e taken. absurd (too_much_never c.in-Err.error c.in-Err.ensures.refused taken)
