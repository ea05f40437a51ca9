use Rattle.std.proofs.Common.{◌≡◌, ◌+◌, Ok}
use Rattle.wasm_sections.specs.declared.sections.SectionKind.TheVariants as kind
use Rattle.wasm_sections.specs.Parts.{repeated}
use Rattle.wasm_sections.proofs.ExportNameLemmas.{HasNoneBefore}
use Rattle.module_items.specs.Items.{item_part}
use Rattle.module_items.proofs.exports.export_among.Given as goal

abbrev pub invariant-exports : goal.invariant-exports
invariant-exports l = record {
  same_end : l.exports.items.left.end ≡ l.items.left.end;
  count : l.exports.items.count + l.place ≡ l.items.count;
  none : HasNoneBefore l.name l.items l.exports.items;
  passed : repeated (λ u. item_part kind.Export) l.place tt l.items.left.end l.items.left.rest.now ≡ Ok (tt, l.exports.items.left.rest.now);
}
