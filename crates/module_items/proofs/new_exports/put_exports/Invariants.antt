use Rattle.std.proofs.Common.{drop}
use Rattle.std.specs.BTreeSet.{contains_text}
use Rattle.module_items.proofs.NewExportLemmas.{HavePut}
use Rattle.module_items.proofs.new_exports.put_exports.Given as goal

abbrev pub invariant-exports : goal.invariant-exports
invariant-exports l =
    HavePut (contains_text l.fn.names.names) (contains_text l.names.names) l.fn.exports (drop l.export-index l.fn.exports)
    l.fn.out.items l.out.items
