use Rattle.std.proofs.Common.{◌≡◌, ℕ, ◌-◌, ◌≤◌, List, length, Some, take, refl, sym, ap, ◌∙◌, subst, rules, arith}
use Rattle.std.specs.Prelude.{slice_get, slice_range}
use Rattle.std.proofs.lemmas.Option.{slice_get_read}
use Rattle.dwarf_bytes.specs.declared.patches.Patch.{Patch}
use Rattle.dwarf_bytes.specs.Order.{no_patch, last_of}
use Rattle.dwarf_bytes.specs.Patches.{part_of}
use Rattle.dwarf_bytes.proofs.PatchLemmas.{part_at, no_part_at, part_within}
use Rattle.dwarf_bytes.proofs.patches.Patches.get.Goals as goal
use Rattle.dwarf_bytes.proofs.patches.Patches.get.Goals.{In_ok-patch}

-- the patch is at the index
got : (c : In_ok-patch) → slice_get c.args.self.now.patches.items c.args.index ≡ Some c.in_ok-patch.patch.now
got c =
    let found = c.in_ok-patch.ensures.lookup in
    subst (λ (ps : List Patch). slice_get ps c.args.index ≡ Some c.in_ok-patch.patch.now) c.deref.ensures.value
    (slice_get_read c.deref.result.now (length c.deref.result.now) c.args.index c.in_ok-patch.patch.now refl found.3.0 found.1)

pub returns-in_err-patch-clause-part : goal.returns-in_err-patch-clause-part
returns-in_err-patch-clause-part c =
    let s = c.args.self.now in
    let few : length s.patches.items ≤ c.args.index = search (arith, rules) in
    rw c.from_residual.ensures (sym (no_part_at 0 s.patches.items s.bytes.items c.args.index few))

pub slice_bounds-new-count : goal.slice_bounds-new-count
slice_bounds-new-count c =
    let s = c.args.self.now in
    let within = part_within no_patch s.patches.items (length s.bytes.items) c.args.index c.in_ok-patch.patch.now s.are_patches (got (goal.at.slice_bounds-new-count c).In_ok-patch) in
    omega (arith, within, c.start_of.ensures)

pub slice_bounds-new-start : goal.slice_bounds-new-start
slice_bounds-new-start c =
    let s = c.args.self.now in
    let within = part_within no_patch s.patches.items (length s.bytes.items) c.args.index c.in_ok-patch.patch.now s.are_patches (got (goal.at.slice_bounds-new-start c).In_ok-patch) in
    omega (arith, within, c.start_of.ensures)

pub slice_bounds-new-end : goal.slice_bounds-new-end
slice_bounds-new-end c =
    let s = c.args.self.now in
    let within = part_within no_patch s.patches.items (length s.bytes.items) c.args.index c.in_ok-patch.patch.now s.are_patches (got (goal.at.slice_bounds-new-end c).In_ok-patch) in
    omega (arith, within, ap length c.deref-2.ensures.value)

pub size_between-old-requires : goal.size_between-old-requires
size_between-old-requires c =
    let s = c.args.self.now in
    let within = part_within no_patch s.patches.items (length s.bytes.items) c.args.index c.in_ok-patch.patch.now s.are_patches (got (goal.at.size_between-old-requires c).In_ok-patch) in
    omega (arith, within)

pub returns-clause-part : goal.returns-clause-part
returns-clause-part c =
    let s = c.args.self.now in
    let p = c.in_ok-patch.patch.now in
    ap (λ (n : ℕ). Some (part_of p.at n (slice_range c.deref-2.result.now c.start_of.result p.end))) c.size_between-old.ensures.size
    ∙ (ap (λ (n : ℕ). Some (part_of p.at (p.stop - p.at) (slice_range c.deref-2.result.now n p.end))) c.start_of.ensures
    ∙ (ap (λ (bytes : List ℕ). Some (part_of p.at (p.stop - p.at) (slice_range bytes (last_of no_patch (take c.args.index s.patches.items)).end p.end))) c.deref-2.ensures.value
    ∙ sym (part_at no_patch s.patches.items s.bytes.items c.args.index p (got (goal.at.returns-clause-part c).In_ok-patch))))
