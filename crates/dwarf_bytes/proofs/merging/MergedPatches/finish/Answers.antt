use Rattle.std.proofs.Common.{List, inl, inr, ap, subst, ◌∙◌}
use Rattle.std.proofs.lemmas.Result.{err_from_is_err_and}
use Rattle.dwarf_bytes.specs.Changes.{SectionChange}
use Rattle.dwarf_bytes.specs.Merging.{Merging, merging, IsOverlap}
use Rattle.dwarf_bytes.proofs.MergingLemmas.{taken_none}
use Rattle.dwarf_bytes.proofs.merging.MergedPatches.finish.Goals as goal

pub returns-in_err-take_before-clause-refused : goal.returns-in_err-take_before-clause-refused
returns-in_err-take_before-clause-refused c =
    let p = err_from_is_err_and c.from_residual.result c.from_residual.ensures.1 in
    rw (p.1, p.2) (elim c.in_err-take_before.ensures.refused [
      | inl memory ↦ inl memory
      | inr x ↦ inr (x.0, x.1, subst (λ (cs : List SectionChange). IsOverlap cs x.0) (taken_none (merging c.args.self)) x.2)
    ])

pub returns-clause-merged : goal.returns-clause-merged
returns-clause-merged c = ap (λ (m : Merging). m.all) c.in_ok-take_before.ensures.taken ∙ taken_none (merging c.args.self)
