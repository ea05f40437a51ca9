use Rattle.std.proofs.Common.{rules, ◌==◌, ◌≡◌, ◌++◌, None}
use Rattle.std.specs.HashSet.{contains}
use Rattle.walrus_rewrite.specs.RawBodies.{emit_input}
use Rattle.walrus_rewrite.proofs.RawBodyLemmas.{of_written, why_not}
use Rattle.walrus_rewrite.proofs.whole_body.append_raw_body.Goals as goal

pub returns-in-Ok-raw_body-clause-ok : goal.returns-in-Ok-raw_body-clause-ok
returns-in-Ok-raw_body-clause-ok c =
    let a = c.args in
    let found = c.in-Ok.ensures.ok in
    let bytes = c.in-Ok-raw_body.bytes.items in
    let made = of_written a.function.now.builder found.tree found.is_tree (contains (λ x y. x == y) c.in-Ok.facts.used_locals) found.holds.used_locals
    (emit_input a.indices.now a.module.now a.function.now) bytes None c.in-Ok-raw_body.ensures.ok in
    let appends : c.extend_from_slice.new.self.items ≡ a.dst.now.items ++ bytes = search rules in
    record { raw = bytes; pairs = made.0; is_raw_body = made.1; appends = appends; appends_pairs = tt }

pub returns-clause-err : goal.returns-clause-err
returns-clause-err c =
    let a = c.args in
    let found = c.in-Ok.ensures.ok in
    why_not a.function.now.builder found.tree found.is_tree (contains (λ x y. x == y) c.in-Ok.facts.used_locals) found.holds.used_locals
    (emit_input a.indices.now a.module.now a.function.now) c.in-Err-raw_body.fault c.in-Err-raw_body.ensures.err
