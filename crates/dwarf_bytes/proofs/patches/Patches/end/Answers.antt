use Rattle.std.proofs.Common.{length, sym, ap, ◌∙◌}
use Rattle.dwarf_bytes.specs.Order.{no_patch}
use Rattle.dwarf_bytes.proofs.PatchLemmas.{end_is, in_order}
use Rattle.dwarf_bytes.proofs.patches.Patches.end.Goals as goal

pub returns-clause-end : goal.returns-clause-end
returns-clause-end c = let s = c.args.self.now in ap (λ p. p.stop) c.last.ensures.last ∙ sym (end_is no_patch s.patches.items s.bytes.items (length s.bytes.items) s.are_patches)

pub returns-clause-order : goal.returns-clause-order
returns-clause-order c = let s = c.args.self.now in in_order no_patch s.patches.items s.bytes.items (length s.bytes.items) s.are_patches
