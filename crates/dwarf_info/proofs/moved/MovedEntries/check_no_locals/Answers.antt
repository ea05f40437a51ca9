use Rattle.std.proofs.Common.{ℕ, List, ◌++◌, inl, inr, refl, sym, ap, ◌∙◌}
use Rattle.std.proofs.lemmas.Result.{err_from_is_err_and}
use Rattle.dwarf_bytes.specs.declared.fault.DebugFault.TheVariants.{Unsupported}
use Rattle.dwarf_info.proofs.WithoutLocals.{no_bytes, some_bytes, names_no_local, names_local}
use Rattle.dwarf_info.proofs.moved.MovedEntries.check_no_locals.Goals as goal

pub returns-in_err-moved_expression-clause-refused : goal.returns-in_err-moved_expression-clause-refused
returns-in_err-moved_expression-clause-refused c =
    let p = err_from_is_err_and c.from_residual.result c.from_residual.ensures.1 in
    rw (p.1, p.2) (elim c.in_err-moved_expression.ensures.refused [
      | inl memory ↦ inl memory
      | inr x ↦ inr (x.0, x.1, elim x.2 [ inl fault ↦ inl fault | inr b ↦ inr (b.0, b.1, b.3, inr b.4) ])
    ])

pub returns-then-is_empty-clause-none : goal.returns-then-is_empty-clause-none
returns-then-is_empty-clause-none c =
    let m = c.in_ok-moved_expression.ensures.moved in
    let none = no_bytes c.args.expression.now c.is_empty.result c.is_empty.ensures c.if-is_empty.true in (
      m.0,
      m.2,
      names_no_local c.body_without_locals-body.result c.body_without_locals-body.ensures.none c.body_without_locals-body.ensures.parameters
          c.args.encoding c.args.expression.now m.0 m.1 c.in_ok-moved_expression.field-0 m.2 m.4 (λ empty. none),
    )

pub returns-then-is_empty-2-clause-refused : goal.returns-then-is_empty-2-clause-refused
returns-then-is_empty-2-clause-refused c =
    let m = c.in_ok-moved_expression.ensures.moved in
    let some = some_bytes c.args.expression.now c.is_empty.result c.is_empty.ensures c.if-is_empty.false in
    let added = m.3 ∙ ap (λ (bytes : List ℕ). bytes ++ m.1) c.clear.ensures.items in
    let empty = sym added ∙ (sym c.as_slice.ensures.value ∙ no_bytes c.as_slice.result.now c.is_empty-2.result c.is_empty-2.ensures c.if-is_empty-2.true) in
    inr (
      Unsupported,
      refl,
      inr (
        refl,
        m.0,
        m.2,
        inl (names_local c.body_without_locals-body.result c.body_without_locals-body.ensures.none c.body_without_locals-body.ensures.parameters
            c.args.encoding c.args.expression.now m.0 m.1 c.in_ok-moved_expression.field-0 m.2 m.4 empty some),
      ),
    )

pub returns-clause-none : goal.returns-clause-none
returns-clause-none c =
    let m = c.in_ok-moved_expression.ensures.moved in
    let added = m.3 ∙ ap (λ (bytes : List ℕ). bytes ++ m.1) c.clear.ensures.items in
    let some = some_bytes c.as_slice.result.now c.is_empty-2.result c.is_empty-2.ensures c.if-is_empty-2.false in (
      m.0,
      m.2,
      names_no_local c.body_without_locals-body.result c.body_without_locals-body.ensures.none c.body_without_locals-body.ensures.parameters
          c.args.encoding c.args.expression.now m.0 m.1 c.in_ok-moved_expression.field-0 m.2 m.4 (λ empty. absurd (some (c.as_slice.ensures.value ∙ (added ∙ empty)))),
    )
