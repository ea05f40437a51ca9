use Rattle.std.proofs.Common.{ℕ, inl, inr, ap, subst}
use Rattle.std.proofs.lemmas.Result.{err_from_is_err_and}
use Rattle.dwarf_bytes.specs.Merging.{MergeSteps, merging, AreMerged, IsFaultOfMerging}
use Rattle.dwarf_bytes.specs.Patches.{changes}
use Rattle.dwarf_bytes.proofs.MergingLemmas.{merges_after, merges_front}
use Rattle.dwarf_info.specs.Following.{length_steps}
use Rattle.dwarf_info.proofs.Taking.{on_ok, other_fault}
use Rattle.dwarf.specs.ListTables.{table_offsets_steps, list_table_steps}
use Rattle.dwarf.specs.ListTablesViews.{list_table_of}
use Rattle.dwarf.proofs.list_tables.follow_table.Goals as goal

pub returns-in_err-follow_length-clause-refused : goal.returns-in_err-follow_length-clause-refused
returns-in_err-follow_length-clause-refused c =
    let own = changes c.args.own.now in
    let t = list_table_of c.args.table.now in
    let old = merging c.args.out.now in
    let same = ap (λ (n : ℕ). length_steps own t.format t.start n) c.end.ensures in
    let p = err_from_is_err_and c.from_residual.result c.from_residual.ensures.1 in
    rw (p.1, p.2) (elim c.in_err-follow_length.ensures.refused [
      | inl memory ↦ inl memory
      | inr x ↦ inr (
        x.0,
        x.1,
        merges_front (length_steps own t.format t.start t.end) (table_offsets_steps own t) old x.0 (subst (λ (ss : MergeSteps). IsFaultOfMerging ss old x.0) same x.2),
      )
    ])

pub returns-clause-merged : goal.returns-clause-merged
returns-clause-merged c =
    let own = changes c.args.own.now in
    let t = list_table_of c.args.table.now in
    let old = merging c.args.out.now in
    let mid = merging c.follow_length.new.out in
    let new = merging c.follow_offsets.new.out in
    let same = ap (λ (n : ℕ). length_steps own t.format t.start n) c.end.ensures in
    let first = subst (λ (ss : MergeSteps). AreMerged ss old mid) same c.in_ok-follow_length.ensures.merged in
    let left = merges_after (length_steps own t.format t.start t.end) (table_offsets_steps own t) old mid first in
    on_ok c.follow_offsets.result (AreMerged (table_offsets_steps own t) mid new) (AreMerged (list_table_steps own t) old new) (left.merged new) c.follow_offsets.ensures.merged

pub returns-clause-refused : goal.returns-clause-refused
returns-clause-refused c =
    let own = changes c.args.own.now in
    let t = list_table_of c.args.table.now in
    let old = merging c.args.out.now in
    let mid = merging c.follow_length.new.out in
    let same = ap (λ (n : ℕ). length_steps own t.format t.start n) c.end.ensures in
    let first = subst (λ (ss : MergeSteps). AreMerged ss old mid) same c.in_ok-follow_length.ensures.merged in
    let left = merges_after (length_steps own t.format t.start t.end) (table_offsets_steps own t) old mid first in
    other_fault c.follow_offsets.result (IsFaultOfMerging (table_offsets_steps own t) mid) (IsFaultOfMerging (list_table_steps own t) old) left.refused c.follow_offsets.ensures.refused
