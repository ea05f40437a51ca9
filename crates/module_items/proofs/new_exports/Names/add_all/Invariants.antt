use Rattle.std.proofs.Common.{◌≡◌, ℕ, List, true}
use Rattle.std.specs.BTreeSet.{contains_text}
use Rattle.module_items.proofs.NewExportLemmas.{KnowsName}
use Rattle.module_items.proofs.new_exports.Names.add_all.Given as goal

abbrev pub invariant-exports : goal.invariant-exports
invariant-exports l = (name : List ℕ) → KnowsName (contains_text l.self.names name ≡ true) name l.fn.items l.export-iterator.items
