use Rattle.std.proofs.Common.{rules, ◌≡◌, false, refl}
use Rattle.walrus_numbering.specs.NumberMaps.{numbers_of}
use Rattle.walrus_emitter.proofs.TreeWriting.Trees.{is_first, draft_is, unwritten_is, none_there, entry_missing}
use Rattle.walrus_emitter.proofs.emit.draft_tree.Goals as goal

pub returns-then-not-has-clause-err : goal.returns-then-not-has-clause-err
returns-then-not-has-clause-err c =
    let lacks : c.has.result ≡ false = search rules in
    entry_missing c.args.builder.now.sequences c.args.entry (numbers_of c.args.numbers.now)
    (none_there c.args.builder.now.sequences c.args.entry c.has.result c.has.ensures lacks)

pub returns-in-Ok-dfs_in_order-clause-ok : goal.returns-in-Ok-dfs_in_order-clause-ok
returns-in-Ok-dfs_in_order-clause-ok c =
    draft_is c.args.builder.now.sequences c.args.entry (numbers_of c.args.numbers.now) c.args.base c.args.has_map _ _
    (is_first c.args.builder.now.sequences (numbers_of c.args.numbers.now) c.args.entry c.in-Ok.scopes c.new.result c.args.base
    c.args.has_map _ c.in-Ok.ensures c.new.ensures refl)
    c.in-Ok-dfs_in_order.ensures.ok

pub returns-in-Err-dfs_in_order-clause-err : goal.returns-in-Err-dfs_in_order-clause-err
returns-in-Err-dfs_in_order-clause-err c =
    unwritten_is c.args.builder.now.sequences c.args.entry (numbers_of c.args.numbers.now) c.args.base c.args.has_map _ _
    c.in-Err-dfs_in_order.fault
    (is_first c.args.builder.now.sequences (numbers_of c.args.numbers.now) c.args.entry c.in-Ok.scopes c.new.result c.args.base
    c.args.has_map _ c.in-Ok.ensures c.new.ensures refl)
    c.in-Err-dfs_in_order.ensures.err
