use Rattle.std.proofs.Common.{rules, ◌≡◌, [], ℕ, Ok, Err, inl, inr, subst, ◌∙◌}
use Rattle.std.proofs.lemmas.Result.{err_from_is_err_and}
use Rattle.dwarf_bytes.specs.Patches.{changes}
use Rattle.dwarf.specs.AddressRanges.{range_followed}
use Rattle.dwarf.specs.RangesViews.{ranges_following}
use Rattle.dwarf.proofs.Repeating.{all_replaced, fault_of_next, replaced_next}
use Rattle.dwarf.proofs.address_ranges.Ranges.follow_ranges.Goals as goal

pub returns-in_err-follow_range-clause-refused : goal.returns-in_err-follow_range-clause-refused
returns-in_err-follow_range-clause-refused c =
    let rest = c.each.input.rest.now in
    let now = changes c.each.out in
    let range = λ (n : ℕ). range_followed (ranges_following c.args.self.now) c.args.unit c.args.size n in
    let end = c.args.input.now.end in
    let some : rest ≡ [] → ⊥ = search rules in
    let p = err_from_is_err_and c.from_residual.result c.from_residual.ensures.1 in
    rw (p.1, p.2) (elim c.in_err-follow_range.ensures.refused [
      | inl memory ↦ inl memory
      | inr x ↦ inr (
        x.0,
        x.1,
        fault_of_next (range end) c.args.input.now.rest.now (changes c.args.out.now) rest now c.each.invariant.so_far some x.0
            (subst (λ (n : ℕ). range n rest now ≡ Err x.0) c.each.invariant.same_end x.2),
      )
    ])

pub each-preserved : goal.each-preserved
each-preserved c =
    let rest = c.each.input.rest.now in
    let now = changes c.each.out in
    let new = changes c.follow_range.new.out in
    let after = c.follow_range.new.input.rest.now in
    let range = λ (n : ℕ). range_followed (ranges_following c.args.self.now) c.args.unit c.args.size n in
    let some : rest ≡ [] → ⊥ = search rules in
    let at_end = subst (λ (n : ℕ). range n rest now ≡ Ok (new, after)) c.each.invariant.same_end c.in_ok-follow_range.ensures.followed in
    record {
      so_far = replaced_next (range c.args.input.now.end) c.args.input.now.rest.now (changes c.args.out.now) rest now c.each.invariant.so_far some new after at_end c.in_ok-follow_range.ensures.shorter;
      same_end = c.in_ok-follow_range.ensures.end ∙ c.each.invariant.same_end;
    }

pub returns-clause-followed : goal.returns-clause-followed
returns-clause-followed c =
    let none : c.each.input.rest.now ≡ [] = search rules in
    all_replaced (range_followed (ranges_following c.args.self.now) c.args.unit c.args.size c.args.input.now.end) c.args.input.now.rest.now (changes c.args.out.now) c.each.input.rest.now (changes c.each.out)
    c.each.invariant.so_far none
