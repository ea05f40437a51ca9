use Rattle.std.proofs.Common.{◌<◌, [], sym, ap, subst, ◌∙◌}
use Rattle.std.specs.List.{All}
use Rattle.walrus_ir.specs.Unfolding.{among, Apart}
use Rattle.walrus_numbering.specs.NumberMaps.{numbers_by}
use Rattle.walrus_numbering.specs.NumberTables.{entries_in}
use Rattle.walrus_flat.specs.UsedLocals.{is_used}
use Rattle.walrus_flat.proofs.UsedLocals.{are_apart, small_args, small_listed, same_declared, same_not_declared, only_listed, no_map}
use Rattle.walrus_flat.proofs.local_numbers.declare_in_table.Goals as goal

pub emit_listed_locals-requires-clause-apart : goal.emit_listed_locals-requires-clause-apart
emit_listed_locals-requires-clause-apart c =
    let used = c.args.used.now in
    subst Apart (sym c.deref.ensures.value) (are_apart used.listed.items used.apart)

pub emit_listed_locals-requires-clause-small_args : goal.emit_listed_locals-requires-clause-small_args
emit_listed_locals-requires-clause-small_args c = small_args c.args.len c.args.args.now c.requires.args

pub emit_listed_locals-requires-clause-small_used : goal.emit_listed_locals-requires-clause-small_used
emit_listed_locals-requires-clause-small_used c =
    let used = c.args.used.now in
    subst (All (λ id. id < c.args.len)) (sym c.deref.ensures.value) (small_listed used.reach used.listed.items c.args.len used.below c.requires.reach)

pub returns-in-Ok-clause-ok : goal.returns-in-Ok-clause-ok
returns-in-Ok-clause-ok c =
    let a = c.args in
    let used = a.used.now in
    let to = numbers_by a.module.now.types a.indices.now [] in
    let made = c.in-Ok.table.items in
    same_declared to a.module.now.locals a.args.now (λ id. among id c.deref.result.now) (is_used used)
    (λ x. ap (among x) c.deref.ensures.value ∙ only_listed used.listed.items used.others c.requires.listed x) _ (entries_in made) _
    (no_map made _ c.new-map.ensures.empty) c.in-Ok.ensures.ok

pub returns-in-Err-clause-err : goal.returns-in-Err-clause-err
returns-in-Err-clause-err c =
    let a = c.args in
    let used = a.used.now in
    let to = numbers_by a.module.now.types a.indices.now [] in
    same_not_declared to a.module.now.locals a.args.now (λ id. among id c.deref.result.now) (is_used used)
    (λ x. ap (among x) c.deref.ensures.value ∙ only_listed used.listed.items used.others c.requires.listed x) _ c.in-Err.ensures.err
