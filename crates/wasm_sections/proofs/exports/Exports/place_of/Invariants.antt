use Rattle.wasm_sections.proofs.ExportNameLemmas.{HasNoneBefore}
use Rattle.wasm_sections.proofs.exports.Exports.place_of.Given as goal

abbrev pub invariant-exports : goal.invariant-exports
invariant-exports l = HasNoneBefore l.name l.fn.self.items l.export-iterator.items
