use Rattle.std.proofs.Common.{◌+◌, List, drop, get_or, subst, arith, rules}
use Rattle.dwarf_bytes.specs.declared.patches.Patch.{Patch}
use Rattle.dwarf_bytes.specs.Changes.{are_resized}
use Rattle.dwarf_bytes.specs.Order.{no_patch}
use Rattle.dwarf_bytes.specs.Patches.{changes}
use Rattle.dwarf_bytes.proofs.PatchLemmas.{ResizedLeft, next_is, is_other_size, resized_none, resized_more, resized_all}
use Rattle.dwarf_bytes.proofs.patches.Patches.resizes.Goals as goal

pub loop-patch-init : goal.loop-patch-init
loop-patch-init c = let s = c.args.self.now in resized_none s.patches.items s.bytes.items s.are_patches

pub returns-then-patch-start : goal.returns-then-patch-start
returns-then-patch-start c =
    let s = c.args.self.now in
    let list = c.deref-patch-items.result.now in
    let index = c.loop-patch.patch-index in
    let here = subst (λ (l : List Patch). ResizedLeft l s.bytes.items (are_resized (changes s)) c.loop-patch.start)
    (next_is s.patches.items list index c.deref-patch-items.ensures.value c.loop-patch-test.true) c.loop-patch.invariant in
    is_other_size (get_or list index no_patch) (drop (index + 1) s.patches.items) s.bytes.items (are_resized (changes s)) c.loop-patch.start here c.if-patch-start.true

pub loop-patch-preserved : goal.loop-patch-preserved
loop-patch-preserved c =
    let s = c.args.self.now in
    let list = c.deref-patch-items.result.now in
    let index = c.loop-patch.patch-index in
    let here = subst (λ (l : List Patch). ResizedLeft l s.bytes.items (are_resized (changes s)) c.loop-patch.start)
    (next_is s.patches.items list index c.deref-patch-items.ensures.value c.loop-patch-test.true) c.loop-patch.invariant in
    resized_more (get_or list index no_patch) (drop (index + 1) s.patches.items) s.bytes.items (are_resized (changes s)) c.loop-patch.start here c.if-patch-start.false

pub returns : goal.returns
returns c =
    let s = c.args.self.now in
    resized_all s.patches.items c.loop-patch.patch-index s.bytes.items (are_resized (changes s)) c.loop-patch.start (search (arith, rules)) c.loop-patch.invariant
