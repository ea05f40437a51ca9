use Rattle.std.proofs.Common.{◌≡◌, ◌++◌, ◌-◌, ℕ, suc, List, [], codes, length, Ok, refl, sym, ap, subst, ◌∙◌, append_assoc}
use Rattle.std.proofs.lemmas.List.{append-nil}
use Rattle.wasm_sections.specs.CodeSections.{entry}
use Rattle.module_removal.specs.LeftNames.{LeavesNext, LeavesSubsection, subsection_part}
use Rattle.module_removal.proofs.SeveralStepsLemmas.{nowhere, steps_then}
use Rattle.module_removal.proofs.names.left_names.Goals as goal

pub subsections-init : goal.subsections-init
subsections-init c =
    let contents = c.args.contents in
    record {
      same_end = refl;
      left = (
        0,
        [],
        c.in-Ok.ensures.written ∙ ap (λ (l : List ℕ). l ++ entry (codes "name")) c.new-out.ensures.items ∙ sym (append-nil (entry (codes "name"))),
        nowhere (LeavesNext c.args.left.now c.args.code.now contents.end) ([], contents.rest.now),
      );
    }

pub subsections-preserved : goal.subsections-preserved
subsections-preserved c =
    let at = c.subsections in
    let end = c.args.contents.end in
    let so = at.invariant.left in
    let next = c.in-Ok-next_subsection in
    let made = c.in-Ok-left_subsection.ensures in
    let following = c.next_subsection.new.input.rest.now in
    record {
      same_end = c.next_subsection.ensures.same_end ∙ at.invariant.same_end;
      left = (
        suc so.0,
        so.1 ++ made.0,
        made.1 ∙ ap (λ (l : List ℕ). l ++ made.0) so.2 ∙ append_assoc (entry (codes "name")) so.1 made.0,
        steps_then (LeavesNext c.args.left.now c.args.code.now end) so.0 ([], c.args.contents.rest.now) (so.1, at.contents.rest.now) (so.1 ++ made.0, following) so.3 (
          next.value.0,
          next.value.1.rest.now,
          made.0,
          subst (λ (n : ℕ). subsection_part n at.contents.rest.now ≡ Ok ((next.value.0, next.value.1.rest.now), following)) at.invariant.same_end next.ensures.is,
          subst (λ (n : ℕ). LeavesSubsection c.args.left.now c.args.code.now next.value.0 n next.value.1.rest.now made.0)
              (next.ensures.place ∙ ap (λ (n : ℕ). n - length following) at.invariant.same_end) made.2,
          refl,
        ),
      );
    }
