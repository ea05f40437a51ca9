use Rattle.module_items.proofs.NewExportLemmas.{fewer_taken}
use Rattle.module_items.proofs.new_exports.with_exports.Goals as goal

pub returns-in-Err-put_exports-clause-taken : goal.returns-in-Err-put_exports-clause-taken
returns-in-Err-put_exports-clause-taken c = λ taken free.
    c.in-Err-put_exports.ensures.taken taken
    (fewer_taken _ _ (λ name h. (c.in-Ok.ensures.named name).1 ((c.in-Ok-add_all.ensures.named name).0 h)) c.args.exports.now free)

pub returns-in-Ok-join-clause-free : goal.returns-in-Ok-join-clause-free
returns-in-Ok-join-clause-free c =
    fewer_taken _ _ (λ name h. (c.in-Ok-add_all.ensures.named name).1 ((c.in-Ok.ensures.named name).0 h)) c.args.exports.now c.in-Ok-put_exports.ensures.free
