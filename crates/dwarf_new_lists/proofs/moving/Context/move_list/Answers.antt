use Rattle.std.proofs.Common.{inl, inr, refl, ◌<◌, ◌≡◌, ℕ, ◌+◌, ◌-◌, List, [], ◌∷◌, ◌++◌, length, drop, sym, ap, ◌∙◌, subst, rules, arith}
use Rattle.dwarf_bytes.specs.Changes.{SectionChange}
use Rattle.dwarf_bytes.specs.Patches.{changes}
use Rattle.dwarf_bytes.specs.declared.fault.DebugFault.TheVariants as faults
use Rattle.std.proofs.lemmas.Result.{err_from_is_err_and}
use Rattle.dwarf_new_lists.specs.Contexts.{bodies}
use Rattle.dwarf_new_lists.specs.Refusals.{IsRefusedAfter}
use Rattle.std.proofs.lemmas.List.{length-drop}
use Rattle.dwarf_expressions.specs.Expressions.{BeginWith}
use Rattle.dwarf_new_lists.specs.NewLists.{BeginsEntry}
use Rattle.dwarf_new_lists.proofs.Ends.{front_of, no_longer, rest_at}
use Rattle.dwarf_new_lists.proofs.Found.{list_shorter}
use Rattle.dwarf_new_lists.proofs.moving.Context.move_list.Goals as goal

pub returns-clause-moved : goal.returns-clause-moved
returns-clause-moved c =
    let self = c.args.self.now in
    let section = c.args.section.now in
    let offset = c.args.list.now.offset in
    let m = c.in_ok-rest.ensures.moved in
    let text = c.append_list.new.out.items in
    let rest = c.in_ok-rest.rest.now in
    let bytes = c.in_ok-bytes.bytes.now in
    let is = c.in_ok-bytes.ensures.bytes in
    let fits = c.in_ok-bytes.ensures.within in
    let size = c.saturating_sub-size.result in
    let f = front_of self.lists self.encoding.address_size bytes m.0 rest m.3.0 in
    let less = no_longer bytes f.0 rest f.1 in
    let size_is : size ≡ length bytes - length rest = search rules in
    let text_is : text ≡ m.2 = search rules in
    let at = rest_at section bytes f.0 rest offset is f.1 in
    let rest_is : drop (offset + size) section ≡ rest = ap (λ (n : ℕ). drop (offset + n) section) size_is ∙ at in
    let new : c.deref.result.now ≡ text = search rules in
    let pushed = c.in_ok-push.ensures.pushed in
    let shorter = list_shorter self.lists self.encoding.address_size bytes m.0 rest m.3 in
    let ends : size ≡ offset + size - offset = omega arith in
    let before = changes c.args.patches.now in
    record {
      olds = m.0;
      news = m.1;
      text = m.2;
      is_list = (
        subst (λ (l : List ℕ). BeginWith (BeginsEntry self.lists self.encoding.address_size) l m.0 (drop (offset + size) section)) is
            (subst (λ (l : List ℕ). BeginWith (BeginsEntry self.lists self.encoding.address_size) bytes m.0 l) (sym rest_is) m.3.0),
        m.3.1,
      );
      is_text = m.5;
      moved = m.6;
      some = omega (arith, size_is, shorter);
      within = omega (arith, ap length is, length-drop offset section, size_is);
      free = c.in_ok-push.ensures.after;
      changed =
          pushed
          ∙ (ap (λ (n : ℕ). before ++ (let one : SectionChange = record { at = offset; old = n; new = c.deref.result.now } in one) ∷ []) ends
          ∙ ap (λ (l : List ℕ). before ++ (let one : SectionChange = record { at = offset; old = offset + size - offset; new = l } in one) ∷ []) (new ∙ text_is));
      tells = m.7;
    }

pub returns-in_err-bytes-clause-refused : goal.returns-in_err-bytes-clause-refused
returns-in_err-bytes-clause-refused c =
    let p = err_from_is_err_and c.from_residual.result c.from_residual.ensures.1 in
    rw (p.1, p.2) (inr (_, refl, inl c.in_err-bytes.ensures.refused))

pub returns-in_err-rest-clause-refused : goal.returns-in_err-rest-clause-refused
returns-in_err-rest-clause-refused c =
    let self = c.args.self.now in
    let p = err_from_is_err_and c.from_residual-in_err-rest.result c.from_residual-in_err-rest.ensures.1 in
    rw (p.1, p.2) (elim c.in_err-rest.ensures.refused [
      | inl memory ↦ inl memory
      | inr x ↦ inr (
        x.0,
        x.1,
        inr (inl (
          c.in_ok-bytes.ensures.within,
          subst (λ (l : List ℕ). IsRefusedAfter self.lists self.encoding (bodies self) self.addresses.now c.args.list.now.base l x.0) c.in_ok-bytes.ensures.bytes x.2,
        )),
      )
    ])

pub returns-in_err-push-clause-refused : goal.returns-in_err-push-clause-refused
returns-in_err-push-clause-refused c =
    let self = c.args.self.now in
    let section = c.args.section.now in
    let offset = c.args.list.now.offset in
    let m = c.in_ok-rest.ensures.moved in
    let rest = c.in_ok-rest.rest.now in
    let bytes = c.in_ok-bytes.bytes.now in
    let is = c.in_ok-bytes.ensures.bytes in
    let within = c.in_ok-bytes.ensures.within in
    let size = c.saturating_sub-size.result in
    let size_is : size ≡ length bytes - length rest = search rules in
    let few : length section < 18446744073709551616 = search rules in
    let end : offset + size < 18446744073709551616 = omega (arith, ap length is, length-drop offset section, size_is, within, few) in
    let begins = subst (λ (l : List ℕ). BeginWith (BeginsEntry self.lists self.encoding.address_size) l m.0 rest) is m.3.0 in
    let p = err_from_is_err_and c.from_residual-in_err-push.result c.from_residual-in_err-push.ensures.1 in
    rw (p.1, p.2) (elim c.in_err-push.ensures.refused [
      | inl memory ↦ inl memory
      | inr fault ↦ elim fault [
        | inl overlap ↦ inr (faults.Overlap, overlap.0, inr (inr (m.0, rest, (begins, m.3.1), m.8, refl, overlap.1)))
        | inr beyond ↦ absurd (omega (arith, end, beyond.1))
      ]
    ])
