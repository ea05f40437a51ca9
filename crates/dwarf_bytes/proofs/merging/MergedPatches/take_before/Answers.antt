use Rattle.std.proofs.Common.{◌≡◌, ◌+◌, ◌∷◌, List, drop, inl, inr, refl, sym, ap, subst, ◌∙◌, arith}
use Rattle.std.proofs.lemmas.Option.{slice_get_within}
use Rattle.std.proofs.lemmas.Result.{err_from_is_err_and}
use Rattle.dwarf_bytes.specs.declared.fault.DebugFault.TheVariants.{Overlap}
use Rattle.dwarf_bytes.specs.Changes.{SectionChange, AreChangesInOrder}
use Rattle.dwarf_bytes.specs.Merging.{Merging, merging, first_taken}
use Rattle.dwarf_bytes.specs.Patches.{changes, part_of}
use Rattle.dwarf_bytes.proofs.MergingLemmas.{state, left_at, none_left, taken_more, taken_until, taken_all, head_not_in_order}
use Rattle.dwarf_bytes.proofs.merging.MergedPatches.take_before.Goals as goal
use Rattle.dwarf_bytes.proofs.merging.MergedPatches.take_before.Goals.{In-Some}

-- the first of those that are left
here : (c : In-Some) → drop c.parts.self.taken (changes c.parts.self.first.now) ≡ part_of c.in-Some.at c.in-Some.old c.in-Some.new.now ∷ drop (c.parts.self.taken + 1) (changes c.parts.self.first.now)
here c = left_at (changes c.parts.self.first.now) c.parts.self.taken (part_of c.in-Some.at c.in-Some.old c.in-Some.new.now) (sym c.in-Some.ensures.part)

so_far : (c : In-Some) → first_taken c.args.place (state (changes c.parts.self.all) (part_of c.in-Some.at c.in-Some.old c.in-Some.new.now ∷ drop (c.parts.self.taken + 1) (changes c.parts.self.first.now)))
    ≡ first_taken c.args.place (merging c.args.self.now)
so_far c = sym (ap (λ (l : List SectionChange). first_taken c.args.place (state (changes c.parts.self.all) l)) (here c)) ∙ c.parts.invariant

pub returns-then-not-begins_before-clause-taken : goal.returns-then-not-begins_before-clause-taken
returns-then-not-begins_before-clause-taken c =
    let part = part_of c.in-Some.at c.in-Some.old c.in-Some.new.now in
    let all = changes c.parts.self.all in
    let rest = drop (c.parts.self.taken + 1) (changes c.parts.self.first.now) in
    let at = (goal.at.returns-then-not-begins_before-clause-taken c).In-Some in
    let not_before = sym c.begins_before.ensures ∙ c.if-not-begins_before.true in
    ap (λ (l : List SectionChange). state all l) (here at) ∙ (taken_until c.args.place all rest part not_before ∙ so_far at)

pub returns-in_err-push-clause-refused : goal.returns-in_err-push-clause-refused
returns-in_err-push-clause-refused c =
    let part = part_of c.in-Some.at c.in-Some.old c.in-Some.new.now in
    let all = changes c.parts.self.all in
    let rest = drop (c.parts.self.taken + 1) (changes c.parts.self.first.now) in
    let at = (goal.at.returns-in_err-push-clause-refused c).In-Some in
    let before = sym c.begins_before.ensures ∙ c.if-not-begins_before.false in
    let p = err_from_is_err_and c.from_residual.result c.from_residual.ensures.1 in
    rw (p.1, p.2) (elim c.in_err-push.ensures.refused [
      | inl memory ↦ inl memory
      | inr (inl overlap) ↦ inr (
        Overlap,
        overlap.0,
        (refl, λ order. head_not_in_order c.args.place all rest part before overlap.1 (subst (λ (m : Merging). AreChangesInOrder 0 m.all) (sym (so_far at)) order)),
      )
      | inr (inr offset) ↦ absurd (omega (arith, offset.1, c.in-Some.ensures.fits))
    ])

pub parts-smaller : goal.parts-smaller
parts-smaller c =
    let within = slice_get_within (changes c.parts.self.first.now) c.parts.self.taken (part_of c.in-Some.at c.in-Some.old c.in-Some.new.now) (sym c.in-Some.ensures.part) in
    omega (arith, within)

pub parts-preserved : goal.parts-preserved
parts-preserved c =
    let part = part_of c.in-Some.at c.in-Some.old c.in-Some.new.now in
    let all = changes c.parts.self.all in
    let rest = drop (c.parts.self.taken + 1) (changes c.parts.self.first.now) in
    let at = (goal.at.parts-preserved c).In-Some in
    let before = sym c.begins_before.ensures ∙ c.if-not-begins_before.false in
    ap (λ (l : List SectionChange). first_taken c.args.place (state l rest)) c.in_ok-push.ensures.pushed ∙ (taken_more c.args.place all rest part before ∙ so_far at)

pub returns-clause-taken : goal.returns-clause-taken
returns-clause-taken c =
    let first = changes c.parts.self.first.now in
    let none = none_left first c.parts.self.taken (sym (rw c.in_default.is at c.get.ensures.part)) in
    ap (λ (l : List SectionChange). state (changes c.parts.self.all) l) none
    ∙ (taken_all c.args.place (changes c.parts.self.all)
    ∙ (sym (ap (λ (l : List SectionChange). first_taken c.args.place (state (changes c.parts.self.all) l)) none) ∙ c.parts.invariant))
