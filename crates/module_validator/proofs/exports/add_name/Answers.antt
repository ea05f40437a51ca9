use Rattle.std.proofs.Common.{◌≡◌, not, rules}
use Rattle.std.specs.Prelude.{is_some}
use Rattle.std.proofs.lemmas.Map.Text.{btree_map_updates_str}
use Rattle.module_validator.proofs.NameLemmas.{one_more_name, is_new_name}
use Rattle.module_validator.proofs.exports.add_name.Goals as goal

pub returns-clause-ok : goal.returns-clause-ok
returns-clause-ok c = λ all has.
    let old = c.args.names.now in
    let new = c.insert.new.self in
    let name = c.args.name.now in
    let none : c.is_none.result ≡ not (is_some c.in_ok-before.before) = search rules in (
      is_new_name old name c.in_ok-before.before c.is_none.result c.in_ok-before.ensures.old none all has,
      λ fresh. one_more_name old new name (btree_map_updates_str name old new _ c.in_ok-before.ensures.updates) all has,
    )
