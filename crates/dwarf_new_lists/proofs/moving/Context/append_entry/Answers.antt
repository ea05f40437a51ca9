use Rattle.std.proofs.Common.{◌≡◌, true, false, Err, option_map, inl, inr, refl, ap, sym, subst, ◌∙◌}
use Rattle.std.proofs.lemmas.Result.{err_from_is_err_and}
use Rattle.dwarf_bytes.specs.declared.fault.DebugFault.TheVariants as faults
use Rattle.dwarf_bytes.specs.Uses.{told}
use Rattle.dwarf_expressions.specs.Moving.{IsRefusedOfExpression}
use Rattle.dwarf_new_lists.specs.declared.entry.Expression.{Expression}
use Rattle.dwarf_new_lists.specs.declared.kind.Kind.{Kind}
use Rattle.dwarf_new_lists.specs.declared.saying.Saying.{Saying}
use Rattle.dwarf_new_lists.specs.Tellings.{Tells, indices_of_code}
use Rattle.dwarf_new_lists.specs.Contexts.{bodies, addresses}
use Rattle.dwarf_new_lists.specs.Reading.{new_list_entry_of}
use Rattle.dwarf_new_lists.specs.Sayings.{next_base, new_list_body_of}
use Rattle.dwarf_new_lists.specs.Refusals.{address_operands, addresses_fit, numbers_said}
use Rattle.dwarf_new_lists.proofs.Passing.{said_ok, said_err, written, steps_default, steps_named, steps_says, steps_fit, steps_all}
use Rattle.dwarf_new_lists.proofs.Steps.{still_of, step_moved}
use Rattle.dwarf_new_lists.proofs.moving.Context.append_entry.Goals as goal

pub returns-clause-moved : goal.returns-clause-moved
returns-clause-moved c =
    let self = c.args.self.now in
    let bs = bodies self in
    let base = c.args.base in
    let entry = c.in_ok-entry.entry in
    let moved = c.in_ok-moved.moved in
    let same = c.in_ok-moved.ensures.same in
    let size = self.encoding.address_size in
    let w = c.in_ok-write_entry.ensures.written self.lists (still_of self.lists entry moved same c.in_ok-entry.ensures.code) in
    let b = said_ok self.addresses.now base.old entry.kind entry.one.value entry.two.value c.in_ok-said.said c.in_ok-said.ensures in
    let said = b.2 in
    let says_moved = c.in_ok-moved.ensures.says (sym said) in
    let step =
    step_moved self.encoding bs (addresses self) base.old base.new entry moved c.in_ok-said.said _ w.0 said same c.in_ok-entry.ensures.operands says_moved c.in_ok-moved.ensures.body w.2 in
    let known : _ ≡ false = sym c.is_default.ensures ∙ c.if-is_default.false in
    let numbers = subst (λ (s : Saying). numbers_said bs base.new entry.kind s ≡ true) said c.in_ok-moved.ensures.passes in
    let fits = subst (λ (k : Kind). addresses_fit size (address_operands k moved.one.value moved.two.value) ≡ true) same.kind c.in_ok-write_entry.ensures.fits in
    let all = ap (addresses_fit size) (sym (written bs (addresses self) base.old base.new entry.kind entry.one.value entry.two.value moved.one.value moved.two.value says_moved)) ∙ fits in (
      new_list_entry_of entry,
      w.0,
      c.in_ok-entry.ensures.gives,
      w.1,
      step,
      c.base_after.ensures.old ∙ ap (next_base base.old) said,
      c.is_end.ensures,
      subst (λ (s : Saying). Tells bs self.addresses.now (told c.args.uses.now) (told c.moved_entry.new.uses) (indices_of_code bs s entry.kind entry.one.value entry.two.value)) said
          c.in_ok-moved.ensures.told,
      (steps_all _ _ _ _ b.0 known b.1 numbers all, (w.0.expression, step.expression)),
    )

pub returns-in_err-entry-clause-refused : goal.returns-in_err-entry-clause-refused
returns-in_err-entry-clause-refused c =
    let p = err_from_is_err_and c.from_residual.result c.from_residual.ensures.1 in
    rw (p.1, p.2) (inr (_, refl, inl c.in_err-entry.ensures.gives))

pub returns-then-is_default-clause-refused : goal.returns-then-is_default-clause-refused
returns-then-is_default-clause-refused c =
    let is : _ ≡ true = sym c.is_default.ensures ∙ c.if-is_default.true in
    inr (faults.Unsupported, refl, inr (new_list_entry_of c.in_ok-entry.entry, _, c.in_ok-entry.ensures.gives, inl (steps_default _ _ _ _ is)))

pub returns-in_err-said-clause-refused : goal.returns-in_err-said-clause-refused
returns-in_err-said-clause-refused c =
    let self = c.args.self.now in
    let entry = c.in_ok-entry.entry in
    let known : _ ≡ false = sym c.is_default.ensures ∙ c.if-is_default.false in
    let fault = said_err self.addresses.now c.args.base.old entry.kind entry.one.value entry.two.value _ c.in_err-said.ensures in
    let p = err_from_is_err_and c.from_residual-in_err-said.result c.from_residual-in_err-said.ensures.1 in
    rw (p.1, p.2) (inr (_, refl, inr (new_list_entry_of entry, _, c.in_ok-entry.ensures.gives, inl (steps_named _ _ _ _ _ known fault))))

pub returns-in_err-moved-clause-refused : goal.returns-in_err-moved-clause-refused
returns-in_err-moved-clause-refused c =
    let self = c.args.self.now in
    let bs = bodies self in
    let base = c.args.base in
    let entry = c.in_ok-entry.entry in
    let b = said_ok self.addresses.now base.old entry.kind entry.one.value entry.two.value c.in_ok-said.said c.in_ok-said.ensures in
    let known : _ ≡ false = sym c.is_default.ensures ∙ c.if-is_default.false in
    let p = err_from_is_err_and c.from_residual-in_err-moved.result c.from_residual-in_err-moved.ensures.1 in
    rw (p.1, p.2) (elim c.in_err-moved.ensures.refused [
      | inl memory ↦ inl memory
      | inr x ↦ inr (
        x.0,
        x.1,
        inr (
          new_list_entry_of entry,
          _,
          c.in_ok-entry.ensures.gives,
          inl (elim x.2 [
            | inl unnamed ↦ steps_named _ _ _ _ x.0 known unnamed
            | inr numbers ↦
                let none = subst (λ (s : Saying). numbers_said bs base.new entry.kind s ≡ false) b.2 numbers.1 in
                steps_says _ _ _ _ b.0 known b.1 none ∙ ap Err (sym numbers.0)
          ]),
        ),
      )
    ])

pub returns-in_err-write_entry-clause-refused : goal.returns-in_err-write_entry-clause-refused
returns-in_err-write_entry-clause-refused c =
    let self = c.args.self.now in
    let bs = bodies self in
    let base = c.args.base in
    let entry = c.in_ok-entry.entry in
    let moved = c.in_ok-moved.moved in
    let same = c.in_ok-moved.ensures.same in
    let size = self.encoding.address_size in
    let b = said_ok self.addresses.now base.old entry.kind entry.one.value entry.two.value c.in_ok-said.said c.in_ok-said.ensures in
    let known : _ ≡ false = sym c.is_default.ensures ∙ c.if-is_default.false in
    let numbers = subst (λ (s : Saying). numbers_said bs base.new entry.kind s ≡ true) b.2 c.in_ok-moved.ensures.passes in
    let goes = written bs (addresses self) base.old base.new entry.kind entry.one.value entry.two.value moved.one.value moved.two.value (c.in_ok-moved.ensures.says (sym b.2)) in
    let at_kind = ap (λ (k : Kind). addresses_fit size (address_operands k moved.one.value moved.two.value)) same.kind ∙ ap (addresses_fit size) goes in
    let body_is = c.in_ok-moved.ensures.body ∙ ap (new_list_body_of bs) b.2 in
    let p = err_from_is_err_and c.from_residual-in_err-write_entry.result c.from_residual-in_err-write_entry.ensures.1 in
    rw (p.1, p.2) (elim c.in_err-write_entry.ensures.refused [
      | inl memory ↦ inl memory
      | inr x ↦ inr (
        x.0,
        x.1,
        inr (
          new_list_entry_of entry,
          _,
          c.in_ok-entry.ensures.gives,
          elim x.2 [
            | inl great ↦ inl (steps_fit _ _ _ _ b.0 known b.1 numbers (sym at_kind ∙ great.1) ∙ ap Err (sym great.0))
            | inr other ↦ inr (
              steps_all _ _ _ _ b.0 known b.1 numbers (sym at_kind ∙ other.0),
              (
                other.1.0,
                ap (option_map (λ (y : Expression). y.bytes.now)) (sym same.expression) ∙ other.1.1,
                subst (λ (o : _). IsRefusedOfExpression self.encoding o other.1.0 x.0) body_is other.1.2,
              ),
            )
          ],
        ),
      )
    ])
