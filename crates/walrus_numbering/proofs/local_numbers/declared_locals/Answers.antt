use Rattle.std.proofs.Common.{◌+◌, inl, inr, get_or, arith}
use Rattle.walrus_numbering.proofs.LocalNumbering.{in_order, sorted_declared, unknown_local}
use Rattle.walrus_numbering.proofs.local_numbers.declared_locals.Goals as goal

pub returns-in-Err-clause-err : goal.returns-in-Err-clause-err
returns-in-Err-clause-err c =
    elim c.in-Err.ensures.err [
      | inl memory ↦ inl memory
      | inr fault ↦ inr (unknown_local c.args.locals.now c.args.args.now c.args.used.now.keys c.args.numbers.now.entries c.requires _ fault)
    ]

pub returns-clause-ok : goal.returns-clause-ok
returns-clause-ok c =
    sorted_declared c.args.locals.now c.args.args.now c.args.used.now.keys c.args.numbers.now.entries c.requires c.in-Ok.others.items c.sort_unstable.new.self.items
    c.in-Ok.ensures.apart c.in-Ok.ensures.ok c.sort_unstable.ensures.permutation (λ k d within.
    let ls = c.sort_unstable.new.self.items in
    let types = c.law_type_order.ensures.order (get_or ls (k + 1) d).0 (get_or ls k d).0 in
    let ids = c.law_ids.ensures.order (get_or ls (k + 1) d).1 (get_or ls k d).1 in
    in_order (get_or ls (k + 1) d) (get_or ls k d) _ _ types ids (c.sort_unstable.ensures.sorted k d (omega arith) within))
