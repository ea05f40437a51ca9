use Rattle.std.proofs.Common.{◌≤◌, length, sym, ap, ◌∙◌, subst, arith}
use Rattle.dwarf_bytes.specs.declared.patches.Patch.{Patch}
use Rattle.dwarf_bytes.specs.Order.{no_patch, last_of}
use Rattle.dwarf_bytes.proofs.PatchLemmas.{last_is, last_end, last_replaced}
use Rattle.dwarf_bytes.proofs.patches.Patches.last.Goals as goal

pub returns-in-Some-clause-last : goal.returns-in-Some-clause-last
returns-in-Some-clause-last c =
    let xs = c.deref.result.now in
    let found = c.in-Some.ensures.item.3 in
    found.1 no_patch ∙ (sym (last_is no_patch xs no_patch found.0) ∙ ap (last_of no_patch) c.deref.ensures.value)

pub returns-in-Some-clause-ended : goal.returns-in-Some-clause-ended
returns-in-Some-clause-ended c =
    let s = c.args.self.now in
    sym (ap (λ (p : Patch). p.end) (returns-in-Some-clause-last c) ∙ last_end no_patch s.patches.items (length s.bytes.items) s.are_patches)

pub returns-in-Some-clause-less : goal.returns-in-Some-clause-less
returns-in-Some-clause-less c =
    let s = c.args.self.now in
    subst (λ (p : Patch). p.replaced ≤ p.stop) (sym (returns-in-Some-clause-last c)) (last_replaced no_patch s.patches.items (length s.bytes.items) s.are_patches (omega arith))
