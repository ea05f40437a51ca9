use Rattle.std.proofs.Common.{◌≡◌, ◌<◌, ◌++◌, true, false, inl, inr, [], Some, None, option_map, is_some, refl, sym, ap, ◌∙◌, subst, rules}
use Rattle.std.proofs.lemmas.List.{append-nil}
use Rattle.std.proofs.lemmas.Result.{err_from_is_err_and}
use Rattle.dwarf_bytes.specs.declared.fault.DebugFault.TheVariants.{DoesNotFit}
use Rattle.dwarf_new_lists.specs.declared.kind.Operand.{Operand}
use Rattle.dwarf_new_lists.specs.Refusals.{address_operand, addresses_fit}
use Rattle.dwarf_new_lists.proofs.Passing.{operands_fit, first_too_great, second_too_great}
use Rattle.dwarf_new_lists.specs.declared.entry.Expression.{Expression}
use Rattle.dwarf_new_lists.specs.Writing.{IsMovedExpression}
use Rattle.dwarf_new_lists.proofs.Texts.{appended, kept, with_expression, without_expression}
use Rattle.dwarf_new_lists.proofs.writing.write_entry.Goals as goal

pub returns-in-None-clause-written : goal.returns-in-None-clause-written
returns-in-None-clause-written c = λ lists is.
    let entry = c.args.entry.now in
    let size = c.args.encoding.address_size in
    let kinds = c.operands-first.result in
    let has = ap is_some (sym c.in-None.is) ∙ is.1 in
    let small : entry.code < 256 = search rules in
    let last = c.write_operand-2.new.out.items in (
      kept entry None,
      appended lists size entry kinds c.args.out.now.items c.push.new.self.items c.write_operand.new.out.items last last [] None c.in_ok-push.ensures.items c.in_ok-write_operand.ensures.written
          c.in_ok-write_operand-2.ensures.written (sym (append-nil last)) c.operands-first.ensures c.in_ok-write_operand.ensures.fits c.in_ok-write_operand-2.ensures.fits small is.0
          (without_expression lists entry.kind has),
      record {
        kind = refl;
        one = refl;
        two = refl;
        expression = subst (λ (x : _). IsMovedExpression c.args.encoding (option_map (λ b. b.now) c.args.body) (option_map (λ (y : Expression). y.bytes.now) x) None) (sym c.in-None.is) tt;
      },
    )

pub returns-in_ok-write_expression-in-Some-clause-written : goal.returns-in_ok-write_expression-in-Some-clause-written
returns-in_ok-write_expression-in-Some-clause-written c = λ lists is.
    let entry = c.args.entry.now in
    let size = c.args.encoding.address_size in
    let kinds = c.operands-first.result in
    let has = ap is_some (sym c.in-Some.is) ∙ is.1 in
    let small : entry.code < 256 = search rules in
    let second = c.write_operand-2.new.out.items in
    let e = c.in_ok-write_expression-in-Some.ensures.written in (
      kept entry (Some e.0),
      appended lists size entry kinds c.args.out.now.items c.push.new.self.items c.write_operand.new.out.items second c.write_expression.new.out.items e.1.0 (Some e.0) c.in_ok-push.ensures.items
          c.in_ok-write_operand.ensures.written c.in_ok-write_operand-2.ensures.written e.1.1 c.operands-first.ensures c.in_ok-write_operand.ensures.fits c.in_ok-write_operand-2.ensures.fits small is.0
          (with_expression lists entry.kind e.1.0 e.0 has e.1.2),
      record {
        kind = refl;
        one = refl;
        two = refl;
        expression = subst (λ (x : _). IsMovedExpression c.args.encoding (option_map (λ b. b.now) c.args.body) (option_map (λ (y : Expression). y.bytes.now) x) (Some e.0)) (sym c.in-Some.is) e.2;
      },
    )

pub returns-in-None-clause-fits : goal.returns-in-None-clause-fits
returns-in-None-clause-fits c =
    let entry = c.args.entry.now in
    let size = c.args.encoding.address_size in
    let kinds = c.operands-first.result in
    let fits = operands_fit size kinds.0 kinds.1 entry.one.value entry.two.value c.in_ok-write_operand.ensures.fits c.in_ok-write_operand-2.ensures.fits in
    subst (λ (ks : Operand × Operand). addresses_fit size (address_operand ks.0 entry.one.value ++ address_operand ks.1 entry.two.value) ≡ true) c.operands-first.ensures fits

pub returns-in_ok-write_expression-in-Some-clause-fits : goal.returns-in_ok-write_expression-in-Some-clause-fits
returns-in_ok-write_expression-in-Some-clause-fits c =
    let entry = c.args.entry.now in
    let size = c.args.encoding.address_size in
    let kinds = c.operands-first.result in
    let fits = operands_fit size kinds.0 kinds.1 entry.one.value entry.two.value c.in_ok-write_operand.ensures.fits c.in_ok-write_operand-2.ensures.fits in
    subst (λ (ks : Operand × Operand). addresses_fit size (address_operand ks.0 entry.one.value ++ address_operand ks.1 entry.two.value) ≡ true) c.operands-first.ensures fits

pub returns-in_err-write_operand-clause-refused : goal.returns-in_err-write_operand-clause-refused
returns-in_err-write_operand-clause-refused c =
    let entry = c.args.entry.now in
    let size = c.args.encoding.address_size in
    let kinds = c.operands-first.result in
    let up = subst (λ (ks : Operand × Operand). addresses_fit size (address_operand ks.0 entry.one.value ++ address_operand ks.1 entry.two.value) ≡ false) c.operands-first.ensures in
    let p = err_from_is_err_and c.from_residual-in_err-write_operand.result c.from_residual-in_err-write_operand.ensures.1 in
    rw (p.1, p.2) (elim c.in_err-write_operand.ensures.refused [
      | inl memory ↦ inl memory
      | inr x ↦ inr (DoesNotFit, x.0, inl (refl, up (first_too_great size kinds.0 kinds.1 entry.one.value entry.two.value x.1 x.2)))
    ])

pub returns-in_err-write_operand-2-clause-refused : goal.returns-in_err-write_operand-2-clause-refused
returns-in_err-write_operand-2-clause-refused c =
    let entry = c.args.entry.now in
    let size = c.args.encoding.address_size in
    let kinds = c.operands-first.result in
    let up = subst (λ (ks : Operand × Operand). addresses_fit size (address_operand ks.0 entry.one.value ++ address_operand ks.1 entry.two.value) ≡ false) c.operands-first.ensures in
    let p = err_from_is_err_and c.from_residual-in_err-write_operand-2.result c.from_residual-in_err-write_operand-2.ensures.1 in
    rw (p.1, p.2) (elim c.in_err-write_operand-2.ensures.refused [
      | inl memory ↦ inl memory
      | inr x ↦ inr (DoesNotFit, x.0, inl (refl, up (second_too_great size kinds.0 kinds.1 entry.one.value entry.two.value c.in_ok-write_operand.ensures.fits x.1 x.2)))
    ])

pub returns-in_err-write_expression-in-Some-clause-refused : goal.returns-in_err-write_expression-in-Some-clause-refused
returns-in_err-write_expression-in-Some-clause-refused c =
    let entry = c.args.entry.now in
    let size = c.args.encoding.address_size in
    let kinds = c.operands-first.result in
    let fits = operands_fit size kinds.0 kinds.1 entry.one.value entry.two.value c.in_ok-write_operand.ensures.fits c.in_ok-write_operand-2.ensures.fits in
    let all = subst (λ (ks : Operand × Operand). addresses_fit size (address_operand ks.0 entry.one.value ++ address_operand ks.1 entry.two.value) ≡ true) c.operands-first.ensures fits in
    let p = err_from_is_err_and c.from_residual-in_err-write_expression-in-Some.result c.from_residual-in_err-write_expression-in-Some.ensures.1 in
    rw (p.1, p.2) (elim c.in_err-write_expression-in-Some.ensures.refused [
      | inl memory ↦ inl memory
      | inr x ↦ inr (x.0, x.1, inr (all, (_, ap (option_map (λ (y : Expression). y.bytes.now)) c.in-Some.is, x.2)))
    ])
