use Rattle.std.proofs.Common.{◌≡◌, ℕ, List, true, cond, subst}
use Rattle.std.specs.BTreeSet.{contains_text}
use Rattle.std.specs.Str.{bytes_eq}
use Rattle.std.specs.String.{string_bytes}
use Rattle.std.proofs.lemmas.Map.Text.{btree_set_updates_text}
use Rattle.module_items.proofs.new_exports.Names.add.Goals as goal

pub returns-clause-added : goal.returns-clause-added
returns-clause-added c = λ other.
    subst (λ (bytes : List ℕ). contains_text c.insert.new.self other ≡ cond (bytes_eq bytes other) true (contains_text c.args.self.now.names other))
    c.in_ok-name.ensures.ok
    (btree_set_updates_text (string_bytes c.in_ok-name.name) c.args.self.now.names c.insert.new.self true c.in_ok-insert.ensures.updates other)
