use Rattle.std.proofs.Common.{inl, inr, refl, sym, ◌∙◌}
use Rattle.std.proofs.lemmas.Result.{err_from_is_err_and}
use Rattle.dwarf_bytes.specs.declared.fault.DebugFault.TheVariants.{Overlap}
use Rattle.dwarf_bytes.specs.Patches.{changes}
use Rattle.dwarf.specs.NameIndexViews.{index_following}
use Rattle.dwarf.proofs.IndexLemmas.{names_end, name_overlaps, name_refused}
use Rattle.dwarf.proofs.name_index.Following.follow_names.Goals as goal

pub returns-then-offset-end-clause-refused : goal.returns-then-offset-end-clause-refused
returns-then-offset-end-clause-refused c =
    let s = c.names in
    let f = index_following c.args.self.now in
    inr (
      Overlap,
      refl,
      s.invariant ∙ name_overlaps f s.end s.before c.args.names.now s.offset-index (changes s.out) _ c.names-test.true (sym c.repeats_number.ensures ∙ c.if-not-repeats_number.true) c.if-offset-end.true,
    )

pub returns-in_err-end-clause-refused : goal.returns-in_err-end-clause-refused
returns-in_err-end-clause-refused c =
    let s = c.names in
    let f = index_following c.args.self.now in
    let p = err_from_is_err_and c.from_residual.result c.from_residual.ensures.1 in
    rw (p.1, p.2) (elim c.in_err-end.ensures.refused [
      | inl memory ↦ inl memory
      | inr x ↦ inr (
        x.0,
        x.1,
        s.invariant
            ∙ name_refused f s.end s.before c.args.names.now s.offset-index (changes s.out) _ c.names-test.true (sym c.repeats_number.ensures ∙ c.if-not-repeats_number.true) c.if-offset-end.false x.0 x.2,
      )
    ])

pub returns-clause-followed : goal.returns-clause-followed
returns-clause-followed c =
    c.names.invariant ∙ names_end (index_following c.args.self.now) c.names.end c.names.before c.args.names.now c.names.offset-index (changes c.names.out) c.names-test.false
