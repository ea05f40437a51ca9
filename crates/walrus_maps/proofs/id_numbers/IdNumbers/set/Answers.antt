use Rattle.std.proofs.Common.{◌≡◌, ◌<◌, ◌≤◌, length, ap, sym, ◌∙◌, arith, rules}
use Rattle.std.specs.FinMap as map
use Rattle.std.specs.Ordering.{nat_cmp}
use Rattle.walrus_maps.proofs.EntryMaps.{one_put, absent}
use Rattle.walrus_maps.proofs.IdTables.{table_set, table_push, table_insert, others_push, others_insert}
use Rattle.walrus_maps.specs.IdTables.{with_table}
use Rattle.walrus_maps.proofs.id_numbers.IdNumbers.set.Goals as goal

pub returns-then-index-len-clause-ok : goal.returns-then-index-len-clause-ok
returns-then-index-len-clause-ok g c =
    let k = c.index-index.result in
    let xs = c.self.inside.table.items in
    let m = map.from_entries {R = nat_cmp} c.self.inside.numbers.entries in
    let within : k < length xs = omega (arith, c.len.ensures) in
    table_set xs m k c.args.number within
    ∙ ap (λ j. map.insert (with_table 0 xs m) j c.args.number) c.index-index.ensures
    ∙ ap (λ n. map.insert n c.args.id c.args.number) c.self.view_is

pub invariant_of-self-then-not-contains_key : goal.invariant_of-self-then-not-contains_key
invariant_of-self-then-not-contains_key g c =
    let xs = c.self.inside.table.items in
    let m = map.from_entries {R = nat_cmp} c.self.inside.numbers.entries in
    let next : c.new.result ≡ length xs = omega (arith, c.new.ensures, c.len-2.ensures) in
    let none = ap (map.get m) (sym next) ∙ absent c.self.inside.numbers.entries c.new.result (search rules) in
    let pushed = ap length c.in_ok-push.ensures.items in
    λ id within. others_push xs m c.args.number c.self.invariant none id (omega (arith, within, pushed))

pub returns-then-not-contains_key-clause-ok : goal.returns-then-not-contains_key-clause-ok
returns-then-not-contains_key-clause-ok g c =
    let k = c.index-index.result in
    let xs = c.self.inside.table.items in
    let m = map.from_entries {R = nat_cmp} c.self.inside.numbers.entries in
    let next : k ≡ length xs = omega (arith, c.len-2.ensures) in
    ap (λ ys. with_table 0 ys m) c.in_ok-push.ensures.items
    ∙ table_push xs m k c.args.number next
    ∙ ap (λ j. map.insert (with_table 0 xs m) j c.args.number) c.index-index.ensures
    ∙ ap (λ n. map.insert n c.args.id c.args.number) c.self.view_is

pub invariant_of-self-2 : goal.invariant_of-self-2
invariant_of-self-2 g c =
    let k = c.new-2.result in
    let xs = c.self.inside.table.items in
    let es = c.self.inside.numbers.entries in
    let past : length xs ≤ k = omega (arith, c.len.ensures, c.new-2.ensures) in
    let put = one_put es c.insert.new.self.entries k c.args.number c.in_ok-insert.ensures.updates.0 in
    λ id within. ap (λ n. map.get n id) put ∙ others_insert xs (map.from_entries {R = nat_cmp} es) k c.args.number c.self.invariant past id within

pub returns-clause-ok : goal.returns-clause-ok
returns-clause-ok g c =
    let k = c.new-2.result in
    let xs = c.self.inside.table.items in
    let es = c.self.inside.numbers.entries in
    let m = map.from_entries {R = nat_cmp} es in
    let past : length xs ≤ k = omega (arith, c.len.ensures, c.new-2.ensures) in
    ap (with_table 0 xs) (one_put es c.insert.new.self.entries k c.args.number c.in_ok-insert.ensures.updates.0)
    ∙ table_insert xs m k c.args.number past
    ∙ ap (λ j. map.insert (with_table 0 xs m) j c.args.number) (c.new-2.ensures ∙ c.index-index.ensures)
    ∙ ap (λ n. map.insert n c.args.id c.args.number) c.self.view_is
