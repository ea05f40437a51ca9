use Rattle.std.proofs.Common.{inl, inr}
use Rattle.std.proofs.lemmas.Result.{err_from_is_err_and}
use Rattle.dwarf_bytes.specs.Merging.{merging}
use Rattle.dwarf_bytes.specs.Patches.{part_of}
use Rattle.dwarf_bytes.proofs.MergingLemmas.{first_overlap, push_refused}
use Rattle.dwarf_bytes.proofs.merging.MergedPatches.push.Goals as goal

pub returns-in_err-take_before-clause-refused : goal.returns-in_err-take_before-clause-refused
returns-in_err-take_before-clause-refused c =
    let part = part_of c.args.at c.args.old c.args.new.now in
    let p = err_from_is_err_and c.from_residual.result c.from_residual.ensures.1 in
    rw (p.1, p.2) (elim c.in_err-take_before.ensures.refused [
      | inl memory ↦ inl memory
      | inr x ↦ inr (x.0, x.1, inl (x.2.0, first_overlap part (merging c.args.self.now) x.2.1))
    ])

pub returns-clause-refused : goal.returns-clause-refused
returns-clause-refused c =
    push_refused c.push.result (part_of c.args.at c.args.old c.args.new.now) (merging c.args.self.now) (merging c.take_before.new.self) c.in_ok-take_before.ensures.taken c.push.ensures.refused
