use Rattle.std.proofs.Common.{leb, length, rules}
use Rattle.std.proofs.lemmas.List.Sorted.{IsPartitionPoint-from_clause, IsPartitionedBy-leb}
use Rattle.dwarf_bytes.specs.declared.patches.Patch.{Patch}
use Rattle.dwarf_bytes.proofs.PatchLemmas.{cut_from, sorted}
use Rattle.dwarf_bytes.proofs.patches.Patches.count_before.Goals as goal

pub returns : goal.returns
returns c =
    let s = c.args.self.now in
    let by = sorted s.patches.items (length s.bytes.items) s.are_patches in
    let point = IsPartitionPoint-from_clause (λ (p : Patch). leb p.stop c.args.offset) c.deref.result.now c.partition_point.result c.partition_point.ensures.partitioned
    (rw c.deref.ensures.value (IsPartitionedBy-leb (λ (p : Patch). p.stop) s.patches.items c.args.offset by)) (λ a r f k. search rules) in
    rw (← c.deref.ensures.value) (cut_from c.deref.result.now c.args.offset c.partition_point.result point c.partition_point.ensures.bound)
