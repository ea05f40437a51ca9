use Rattle.std.proofs.Common.{rules, ◌≡◌, [], List, Bool, ℕ, Ok, Err, inl, inr, ap, subst, ◌∙◌, if◌then◌else◌}
use Rattle.std.proofs.lemmas.Result.{err_from_is_err_and}
use Rattle.dwarf_bytes.specs.Patches.{changes}
use Rattle.dwarf.specs.Names.{name_followed}
use Rattle.dwarf.specs.NamesViews.{names_of_unit}
use Rattle.dwarf.proofs.Repeating.{all_replaced, fault_of_next, replaced_next, replaced_last}
use Rattle.dwarf.proofs.names.Names.follow_entries.Goals as goal

pub returns-in_err-follow_entry-clause-refused : goal.returns-in_err-follow_entry-clause-refused
returns-in_err-follow_entry-clause-refused c =
    let rest = c.entries.input.rest.now in
    let now = changes c.entries.out in
    let some : rest ≡ [] → ⊥ = search rules in
    let p = err_from_is_err_and c.from_residual.result c.from_residual.ensures.1 in
    rw (p.1, p.2) (elim c.in_err-follow_entry.ensures.refused [
      | inl memory ↦ inl memory
      | inr x ↦ inr (
        x.0,
        x.1,
        fault_of_next (name_followed (names_of_unit c.args.self.now c.args.input.now.end)) c.args.input.now.rest.now (changes c.args.out.now) rest now c.entries.invariant.so_far some x.0
            (subst (λ (n : ℕ). name_followed (names_of_unit c.args.self.now n) rest now ≡ Err x.0) c.entries.invariant.same_end x.2),
      )
    ])

pub returns-then-not-branch-clause-followed : goal.returns-then-not-branch-clause-followed
returns-then-not-branch-clause-followed c =
    let rest = c.entries.input.rest.now in
    let now = changes c.entries.out in
    let new = changes c.follow_entry.new.out in
    let after = c.follow_entry.new.input.rest.now in
    let some : rest ≡ [] → ⊥ = search rules in
    let last = ap (λ (b : Bool). if b then after else []) c.if-not-branch.true in
    let at_end = subst (λ (n : ℕ). name_followed (names_of_unit c.args.self.now n) rest now ≡ Ok (new, if c.in_ok-follow_entry.field-0 then after else [])) c.entries.invariant.same_end
    c.in_ok-follow_entry.ensures.followed in
    replaced_last (name_followed (names_of_unit c.args.self.now c.args.input.now.end)) c.args.input.now.rest.now (changes c.args.out.now) rest now c.entries.invariant.so_far some new
    (at_end ∙ ap (λ (l : List ℕ). Ok (new, l)) last)

pub entries-preserved : goal.entries-preserved
entries-preserved c =
    let rest = c.entries.input.rest.now in
    let now = changes c.entries.out in
    let new = changes c.follow_entry.new.out in
    let after = c.follow_entry.new.input.rest.now in
    let some : rest ≡ [] → ⊥ = search rules in
    let more = ap (λ (b : Bool). if b then after else []) c.if-not-branch.false in
    let at_end = subst (λ (n : ℕ). name_followed (names_of_unit c.args.self.now n) rest now ≡ Ok (new, if c.in_ok-follow_entry.field-0 then after else [])) c.entries.invariant.same_end
    c.in_ok-follow_entry.ensures.followed in
    record {
      so_far = replaced_next (name_followed (names_of_unit c.args.self.now c.args.input.now.end)) c.args.input.now.rest.now (changes c.args.out.now) rest now c.entries.invariant.so_far some new after
          (at_end ∙ ap (λ (l : List ℕ). Ok (new, l)) more) c.in_ok-follow_entry.ensures.shorter;
      same_end = c.in_ok-follow_entry.ensures.end ∙ c.entries.invariant.same_end;
    }

pub returns-clause-followed : goal.returns-clause-followed
returns-clause-followed c =
    let none : c.entries.input.rest.now ≡ [] = search rules in
    all_replaced (name_followed (names_of_unit c.args.self.now c.args.input.now.end)) c.args.input.now.rest.now (changes c.args.out.now) c.entries.input.rest.now (changes c.entries.out) c.entries.invariant.so_far none
