use Rattle.wasm_sections.specs.Additions.{contents_with}
use Rattle.wasm_sections.proofs.ExportNameLemmas.{too_much_never, not_added_never}
use Rattle.wasm_module.proofs.parsed.ParsedModule.add_export.Goals as goal

pub returns-in-Err-clause-refused : goal.returns-in-Err-clause-refused
returns-in-Err-clause-refused c = λ all m p e. too_much_never c.in-Err.error c.in-Err.ensures.refused

pub returns-clause-refused : goal.returns-clause-refused
returns-clause-refused c = λ all m p e.
    not_added_never (contents_with all c.args.changes.now 7) c.in-Err-add_item.error (c.in-Err-add_item.ensures.refused all m p e)
