use Rattle.std.proofs.Common.{◌≡◌, ℕ, ◌+◌, List, ◌++◌, length, drop, get_or, slice_range, sym, ap, subst, rules, arith}
use Rattle.dwarf_bytes.specs.declared.patches.Patch.{Patch}
use Rattle.dwarf_bytes.specs.Order.{no_patch}
use Rattle.dwarf_bytes.specs.Changes.{patched}
use Rattle.dwarf_bytes.specs.Patches.{changes}
use Rattle.dwarf_bytes.proofs.PatchLemmas.{Applied, applied_none, turn_within, turn}
use Rattle.dwarf_bytes.proofs.patches.Patches.apply.Goals as goal

pub loop-patch-init : goal.loop-patch-init
loop-patch-init c =
    let s = c.args.self.now in
    rw c.in_ok-out.ensures.items (applied_none s.patches.items s.bytes.items c.args.section.now s.are_patches (omega (arith, c.end.ensures.end, c.if-section-end.false)))

pub slice_bounds-extend_from_slice-count : goal.slice_bounds-extend_from_slice-count
slice_bounds-extend_from_slice-count c =
    let s = c.args.self.now in
    (turn_within s.patches.items c.deref-patch-items.result.now c.loop-patch.patch-index c.deref-patch-items.ensures.value c.loop-patch-test.true (patched (changes s) c.args.section.now) s.bytes.items c.args.section.now
    c.loop-patch.out.items c.loop-patch.from c.loop-patch.start c.loop-patch.invariant).0.0

pub slice_bounds-extend_from_slice-end : goal.slice_bounds-extend_from_slice-end
slice_bounds-extend_from_slice-end c =
    let s = c.args.self.now in
    (turn_within s.patches.items c.deref-patch-items.result.now c.loop-patch.patch-index c.deref-patch-items.ensures.value c.loop-patch-test.true (patched (changes s) c.args.section.now) s.bytes.items c.args.section.now
    c.loop-patch.out.items c.loop-patch.from c.loop-patch.start c.loop-patch.invariant).0.1

pub slice_bounds-extend_from_slice-end-in-loop-patch : goal.slice_bounds-extend_from_slice-end-in-loop-patch
slice_bounds-extend_from_slice-end-in-loop-patch c =
    let s = c.args.self.now in
    let within = turn_within s.patches.items c.deref-patch-items.result.now c.loop-patch.patch-index c.deref-patch-items.ensures.value c.loop-patch-test.true (patched (changes s) c.args.section.now) s.bytes.items c.args.section.now
    c.loop-patch.out.items c.loop-patch.from c.loop-patch.start c.loop-patch.invariant in
    omega (arith, within, ap length c.deref.ensures.value)

pub loop-patch-preserved : goal.loop-patch-preserved
loop-patch-preserved c =
    let s = c.args.self.now in
    let section = c.args.section.now in
    let here : Patch = get_or c.deref-patch-items.result.now c.loop-patch.patch-index no_patch in
    let written : c.extend_from_slice-in-loop-patch.new.self.items ≡ (c.loop-patch.out.items ++ slice_range section c.loop-patch.from here.at) ++ slice_range s.bytes.items c.loop-patch.start here.end = search rules in
    let one = turn s.patches.items c.deref-patch-items.result.now c.loop-patch.patch-index c.deref-patch-items.ensures.value c.loop-patch-test.true (patched (changes s) section) s.bytes.items section
    c.loop-patch.out.items c.loop-patch.from c.loop-patch.start c.loop-patch.invariant in
    subst (λ (out : List ℕ). Applied (drop (c.loop-patch.patch-index + 1) s.patches.items) (patched (changes s) section) s.bytes.items section out here.stop here.end) (sym written) one
