use Rattle.std.proofs.Common.{◌+◌, inl, inr, get_or, arith}
use Rattle.walrus_numbering.specs.NumberTables.{entries_in}
use Rattle.walrus_numbering.proofs.LocalNumbering.{in_order, sorted_declared, unknown_local, found_apart, apart_distinct}
use Rattle.walrus_numbering.proofs.listed_locals.declared_listed.Goals as goal

pub returns-in-Err-clause-err : goal.returns-in-Err-clause-err
returns-in-Err-clause-err c =
    elim c.in-Err.ensures.err [
      | inl memory ↦ inl memory
      | inr fault ↦ inr (unknown_local c.args.locals.now c.args.args.now c.args.used.now (entries_in c.args.table.now) c.requires.numbered _ fault)
    ]

pub returns-clause-ok : goal.returns-clause-ok
returns-clause-ok c =
    let numbers = entries_in c.args.table.now in
    let found = c.in-Ok.others.items in
    let apart = found_apart c.args.locals.now numbers c.args.used.now found (apart_distinct c.args.used.now c.requires.apart) c.in-Ok.ensures.ok in
    sorted_declared c.args.locals.now c.args.args.now c.args.used.now numbers c.requires.numbered found c.sort_unstable.new.self.items
    apart c.in-Ok.ensures.ok c.sort_unstable.ensures.permutation (λ k d within.
    let ls = c.sort_unstable.new.self.items in
    let types = c.law_type_order.ensures.order (get_or ls (k + 1) d).0 (get_or ls k d).0 in
    let ids = c.law_ids.ensures.order (get_or ls (k + 1) d).1 (get_or ls k d).1 in
    in_order (get_or ls (k + 1) d) (get_or ls k d) _ _ types ids (c.sort_unstable.ensures.sorted k d (omega arith) within))
