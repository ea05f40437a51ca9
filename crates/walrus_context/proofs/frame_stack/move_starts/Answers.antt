use Rattle.std.proofs.Common.{◌≡◌, ◌-◌, suc, Some, ap, sym, ◌∙◌, arith}
use Rattle.std.proofs.lemmas.Option.{slice_get-get_or}
use Rattle.walrus_context.proofs.FrameStacks.{moved_none, same_count, one_moved, fits_moved}
use Rattle.walrus_context.proofs.frame_stack.move_starts.Goals as goal

pub loop-index-init : goal.loop-index-init
loop-index-init c =
    let is = c.len-index.ensures ∙ c.args.controls.now.ok.0 in
    let within = c.requires.within in
    (sym (moved_none c.args.controls.now.items c.len-index.result is), omega arith, omega arith)

pub index_mut-requires : goal.index_mut-requires
index_mut-requires c =
    let k = c.loop-index.index in
    let inv = c.loop-index.invariant in
    let test = c.loop-index-test.true in
    let next : k ≡ suc (k - 1) = omega arith in
    let same = same_count c.args.controls.now.items c.loop-index.controls.items k (k - 1) inv.0 next in
    let high = inv.2 in
    let ok = c.loop-index.controls.ok.0 in
    omega arith

pub overflow_add-index_mut : goal.overflow_add-index_mut
overflow_add-index_mut c =
    let xs = c.args.controls.now.items in
    let cs = c.loop-index.controls.items in
    let k = c.loop-index.index in
    let inv = c.loop-index.invariant in
    let test = c.loop-index-test.true in
    let next : k ≡ suc (k - 1) = omega arith in
    let same = same_count xs cs k (k - 1) inv.0 next in
    let high = inv.2 in
    let f = c.index_mut.result.now in
    let at = slice_get-get_or cs (k - 1) f (omega arith) ∙ ap Some (sym c.index_mut.ensures.value) in
    let bound = fits_moved xs cs k (k - 1) inv.0 next f at c.requires.fit.0 c.requires.fit.2 in
    let fits = c.requires.fit.1 in
    omega arith

pub loop-index-preserved : goal.loop-index-preserved
loop-index-preserved c =
    let xs = c.args.controls.now.items in
    let cs = c.loop-index.controls.items in
    let k = c.loop-index.index in
    let inv = c.loop-index.invariant in
    let test = c.loop-index-test.true in
    let next : k ≡ suc (k - 1) = omega arith in
    let same = same_count xs cs k (k - 1) inv.0 next in
    let high = inv.2 in
    let f = c.index_mut.result.now in
    let at = slice_get-get_or cs (k - 1) f (omega arith) ∙ ap Some (sym c.index_mut.ensures.value) in
    (one_moved xs cs k (k - 1) inv.0 next f at, omega arith, omega arith)
