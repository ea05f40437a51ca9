use Rattle.std.proofs.Common.{ℕ, take, sym, ap, ◌∙◌}
use Rattle.dwarf_bytes.specs.declared.patches.Patch.{Patch}
use Rattle.dwarf_bytes.specs.Order.{no_patch, last_of}
use Rattle.dwarf_bytes.proofs.PatchLemmas.{last_taken}
use Rattle.dwarf_bytes.proofs.patches.Patches.start_of.Goals as goal

pub returns-then-index-eq0 : goal.returns-then-index-eq0
returns-then-index-eq0 c = sym (ap (λ (n : ℕ). (last_of no_patch (take n c.args.self.now.patches.items)).end) c.if-index-eq0.true)

pub returns : goal.returns
returns c =
    let last = last_taken c.args.self.now.patches.items c.args.index c.requires c.if-index-eq0.false c.index.result.now in
    ap (λ (p : Patch). p.end) (c.index.ensures ∙ sym last)
