use Rattle.std.proofs.Common.{rules, Some, ◌==◌, ◌≡◌, ◌++◌, subst}
use Rattle.std.specs.HashSet.{contains}
use Rattle.walrus_rewrite.specs.RawBodies.{emit_input, WritesRawBody}
use Rattle.walrus_rewrite.proofs.RawBodyLemmas.{of_both, why_not}
use Rattle.walrus_rewrite.proofs.whole_body.append_raw_body_with_map.Goals as goal

pub returns-in-Ok-raw_body_with_map-clause-ok : goal.returns-in-Ok-raw_body_with_map-clause-ok
returns-in-Ok-raw_body_with_map-clause-ok c =
    let a = c.args in
    let by = emit_input a.indices.now a.module.now a.function.now in
    let found = c.in-Ok.ensures.ok in
    let used = contains (λ x y. x == y) c.in-Ok.facts.used_locals in
    let bytes = c.in-Ok-raw_body_with_map.bytes.items in
    let pairs = c.raw_body_with_map.new.map.items in
    let written = subst (λ l. WritesRawBody by used a.function.now.builder bytes (Some (l, pairs))) c.new-pairs.ensures.items c.in-Ok-raw_body_with_map.ensures.ok in
    let bytes_after : c.append_lists.new.dst.items ≡ a.dst.now.items ++ bytes = search rules in
    let pairs_after : c.append_lists.new.map.items ≡ a.map.now.items ++ pairs = search rules in
    record {
      raw = bytes;
      pairs = pairs;
      is_raw_body = of_both a.function.now.builder found.tree found.is_tree used found.holds.used_locals by bytes pairs written;
      appends = bytes_after;
      appends_pairs = pairs_after;
    }

pub returns-clause-err : goal.returns-clause-err
returns-clause-err c =
    let a = c.args in
    let found = c.in-Ok.ensures.ok in
    why_not a.function.now.builder found.tree found.is_tree (contains (λ x y. x == y) c.in-Ok.facts.used_locals) found.holds.used_locals
    (emit_input a.indices.now a.module.now a.function.now) c.in-Err-raw_body_with_map.fault c.in-Err-raw_body_with_map.ensures.err
