use Rattle.std.proofs.Common.{◌≡◌, ℕ, ◌+◌, ◌-◌, ◌≤◌, length, take, sym, ap, ◌∙◌, subst}
use Rattle.dwarf_bytes.specs.declared.patches.Patch.{Patch}
use Rattle.dwarf_bytes.specs.Changes.{moved_offset}
use Rattle.dwarf_bytes.specs.Order.{no_patch, last_of}
use Rattle.dwarf_bytes.specs.Patches.{changes}
use Rattle.dwarf_bytes.proofs.PatchLemmas.{last_before, less_before, moved_before}
use Rattle.dwarf_bytes.proofs.patches.Patches.before.Goals as goal

pub returns-then-count-eq0-clause-moved : goal.returns-then-count-eq0-clause-moved
returns-then-count-eq0-clause-moved c =
    let s = c.args.self.now in
    let last : last_of no_patch (take c.count_before-count.result s.patches.items) ≡ c.none.result =
    ap (λ (n : ℕ). last_of no_patch (take n s.patches.items)) c.if-count-eq0.true ∙ sym c.none.ensures in
    subst (λ (p : Patch). moved_offset (changes s) c.args.offset ≡ (c.args.offset - p.replaced) + p.end) last
    (moved_before s.patches.items s.bytes.items c.args.offset c.count_before-count.result s.are_patches c.count_before-count.ensures)

pub returns-clause-less : goal.returns-clause-less
returns-clause-less c =
    let s = c.args.self.now in
    let last = last_before s.patches.items c.args.offset c.count_before-count.result c.count_before-count.ensures c.if-count-eq0.false c.index.result.now ∙ sym c.index.ensures in
    subst (λ (p : Patch). p.replaced ≤ c.args.offset) last
    (less_before s.patches.items (length s.bytes.items) c.args.offset c.count_before-count.result s.are_patches c.count_before-count.ensures)

pub returns-clause-moved : goal.returns-clause-moved
returns-clause-moved c =
    let s = c.args.self.now in
    let last = last_before s.patches.items c.args.offset c.count_before-count.result c.count_before-count.ensures c.if-count-eq0.false c.index.result.now ∙ sym c.index.ensures in
    subst (λ (p : Patch). moved_offset (changes s) c.args.offset ≡ (c.args.offset - p.replaced) + p.end) last
    (moved_before s.patches.items s.bytes.items c.args.offset c.count_before-count.result s.are_patches c.count_before-count.ensures)
