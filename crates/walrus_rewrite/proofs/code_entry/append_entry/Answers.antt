use Rattle.std.proofs.Common.{rules, Some, arith, ◌==◌, ◌≡◌, ◌++◌, ◌+◌, ◌≤◌, length, map, inl, inr, ap, sym, subst, ◌∙◌}
use Rattle.std.specs.HashSet.{contains}
use Rattle.std.specs.List.{AllByRecursion}
use Rattle.wasm_body.specs.Pairs.{Pair}
use Rattle.walrus_rewrite.specs.RawBodies.{emit_input, moved_pair, WritesRawBody}
use Rattle.walrus_rewrite.proofs.RawBodyLemmas.{of_both, why_not, raw_pairs_within, moved_within}
use Rattle.walrus_rewrite.proofs.code_entry.append_entry.Goals as goal

pub returns-in-Err-raw_body_with_map-clause-err : goal.returns-in-Err-raw_body_with_map-clause-err
returns-in-Err-raw_body_with_map-clause-err c =
    let a = c.args in
    let found = c.in-Ok.ensures.ok in
    let why = why_not a.function.now.builder found.tree found.is_tree (contains (λ x y. x == y) c.in-Ok.facts.used_locals) found.holds.used_locals
    (emit_input a.indices.now a.module.now a.function.now) c.in-Err-raw_body_with_map.fault c.in-Err-raw_body_with_map.ensures.err in
    elim why [ inl memory ↦ inl memory | inr h ↦ inr (inr h) ]

pub moved_pairs-requires : goal.moved_pairs-requires
moved_pairs-requires c =
    let a = c.args in
    let by = emit_input a.indices.now a.module.now a.function.now in
    let found = c.in-Ok.ensures.ok in
    let used = contains (λ x y. x == y) c.in-Ok.facts.used_locals in
    let bytes = c.in-Ok-raw_body_with_map.raw.items in
    let pairs = c.raw_body_with_map.new.map.items in
    let written = subst (λ l. WritesRawBody by used a.function.now.builder bytes (Some (l, pairs))) c.new-pairs.ensures.items c.in-Ok-raw_body_with_map.ensures.ok in
    let raw = of_both a.function.now.builder found.tree found.is_tree used found.holds.used_locals by bytes pairs written in
    let room : c.len-2.result + length bytes ≤ c.capacity.result = grind (arith, rules) in
    subst (AllByRecursion (λ (p : Pair). c.len-2.result + p.1 ≤ c.capacity.result)) (sym c.deref.ensures.value)
    (moved_within c.len-2.result c.capacity.result (length bytes) pairs room (raw_pairs_within by a.function.now.builder bytes pairs raw))

pub returns-clause-ok : goal.returns-clause-ok
returns-clause-ok c =
    let a = c.args in
    let by = emit_input a.indices.now a.module.now a.function.now in
    let found = c.in-Ok.ensures.ok in
    let used = contains (λ x y. x == y) c.in-Ok.facts.used_locals in
    let bytes = c.in-Ok-raw_body_with_map.raw.items in
    let pairs = c.raw_body_with_map.new.map.items in
    let written = subst (λ l. WritesRawBody by used a.function.now.builder bytes (Some (l, pairs))) c.new-pairs.ensures.items c.in-Ok-raw_body_with_map.ensures.ok in
    let raw = of_both a.function.now.builder found.tree found.is_tree used found.holds.used_locals by bytes pairs written in
    let base : c.len-2.result ≡ length a.bytes.now.items = search rules in
    let bytes_after : c.append_both.new.dst.items ≡ a.bytes.now.items ++ bytes = search rules in
    let pairs_after : c.append_both.new.map.items ≡ a.map.now.items ++ c.in_ok-pairs.pairs.items = search rules in
    record {
      written = record { bytes = bytes; code_transform = c.in_ok-pairs.pairs.items };
      writes = record {
        has_entry = c.requires;
        pairs = pairs;
        is_raw_body = raw;
        are_moved = c.in_ok-pairs.ensures ∙ (ap (map (moved_pair c.len-2.result)) c.deref.ensures.value ∙ ap (λ n. map (moved_pair n) pairs) base);
      };
      appends = bytes_after;
      appends_pairs = pairs_after;
    }
