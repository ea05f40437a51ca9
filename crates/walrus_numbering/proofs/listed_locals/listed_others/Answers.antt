use Rattle.std.proofs.Common.{[], ◌∷◌, ◌++◌, Ok, append-nil, cond, not, sym, ap, ◌∙◌, inr, length, arith}
use Rattle.walrus_numbering.specs.EmittedLocals.{unnumbered}
use Rattle.walrus_numbering.specs.NumberTables.{entries_in}
use Rattle.walrus_maps.proofs.Listed.{after_these}
use Rattle.walrus_numbering.proofs.LocalNumbering.{other_skipped, other_found, other_unknown}
use Rattle.walrus_numbering.proofs.ListedLocals.{has_entry, none_left}
use Rattle.walrus_numbering.proofs.listed_locals.listed_others.Goals as goal

pub returns-in-None-clause-err : goal.returns-in-None-clause-err
returns-in-None-clause-err c =
    let table = c.args.table.now in
    let free = has_entry table c.in-Some.id.now _ _ _ c.number_at.ensures c.is_none.ensures c.if-is_none.true in
    inr (other_unknown c.args.locals.now (entries_in table) c.in-Some.id.now c.in-Some.following.now c.left.left.now c.left.others.items _ c.in-Some.ensures.cases.0
    free (sym c.get.ensures ∙ c.in-None.is) c.left.invariant)

pub left-preserved : goal.left-preserved
left-preserved c =
    let table = c.args.table.now in
    let taken = has_entry table c.in-Some.id.now _ _ _ c.number_at.ensures c.is_none.ensures c.if-is_none.false in
    other_skipped c.args.locals.now (entries_in table) c.in-Some.id.now c.in-Some.following.now c.left.left.now c.left.others.items _ c.in-Some.ensures.cases.0
    taken c.left.invariant

pub left-preserved-else-is_err : goal.left-preserved-else-is_err
left-preserved-else-is_err c =
    let table = c.args.table.now in
    let free = has_entry table c.in-Some.id.now _ _ _ c.number_at.ensures c.is_none.ensures c.if-is_none.true in
    let pushed = c.push.ensures.items ∙ ap (λ b. cond b (c.left.others.items ++ (c.in-Some-get.ty, c.in-Some.id.now) ∷ []) c.left.others.items) (c.is_err.ensures.negation ∙ ap not c.if-is_err.false) in
    other_found c.args.locals.now (entries_in table) c.in-Some.id.now c.in-Some-get.ty c.in-Some.following.now c.left.left.now c.left.others.items c.push.new.self.items _
    c.in-Some.ensures.cases.0 free (sym c.get.ensures ∙ c.in-Some-get.is) pushed c.left.invariant

pub returns-clause-ok : goal.returns-clause-ok
returns-clause-ok c =
    let found = c.left.others.items in
    sym c.left.invariant
    ∙ (ap (λ ids. after_these found (unnumbered c.args.locals.now (entries_in c.args.table.now) ids)) (none_left c.left.left.now c.in_default.ensures.cases) ∙ ap Ok (append-nil found))

pub left-smaller : goal.left-smaller
left-smaller c = omega (arith, ap length c.in-Some.ensures.cases.0)

pub left-smaller-else-is_err : goal.left-smaller-else-is_err
left-smaller-else-is_err c = omega (arith, ap length c.in-Some.ensures.cases.0)
