use Rattle.std.proofs.Common.{rules, ◌≡◌, [], Bool, true, false, Ok, arith, refl, ap, ◌∙◌}
use Rattle.std.proofs.lemmas.Result.{err_from_is_err_and}
use Rattle.dwarf.specs.Macros.{macro_entry}
use Rattle.dwarf.proofs.MacroLemmas.{none_passed, passed_without_end, entry_not_passed, entry_passed, end_passed}
use Rattle.dwarf.proofs.macros.skip_entries.Goals as goal

pub entries-init : goal.entries-init
entries-init c = record { so_far = none_passed c.args.size c.args.input.now.rest.now; same_end = refl; shorter = omega arith }

pub returns-in_err-skip_entry-clause-gives : goal.returns-in_err-skip_entry-clause-gives
returns-in_err-skip_entry-clause-gives c =
    let rest = c.entries.input.rest.now in
    let some : rest ≡ [] → ⊥ = search rules in
    let p = err_from_is_err_and c.from_residual.result c.from_residual.ensures.1 in
    rw (p.1, p.2) (entry_not_passed c.args.size c.args.input.now.rest.now rest c.entries.invariant.so_far some c.in_err-skip_entry.field-0.0 c.in_err-skip_entry.ensures.gives)

pub returns-then-not-branch-clause-gives : goal.returns-then-not-branch-clause-gives
returns-then-not-branch-clause-gives c =
    let rest = c.entries.input.rest.now in
    let after = c.skip_entry.new.input.rest.now in
    let some : rest ≡ [] → ⊥ = search rules in
    let last : macro_entry c.args.size rest ≡ Ok (false, after) = c.in_ok-skip_entry.ensures.gives ∙ ap (λ (b : Bool). Ok (b, after)) c.if-not-branch.true in
    end_passed c.args.size c.args.input.now.rest.now rest c.entries.invariant.so_far some after last

pub entries-preserved : goal.entries-preserved
entries-preserved c =
    let rest = c.entries.input.rest.now in
    let after = c.skip_entry.new.input.rest.now in
    let some : rest ≡ [] → ⊥ = search rules in
    let more : macro_entry c.args.size rest ≡ Ok (true, after) = c.in_ok-skip_entry.ensures.gives ∙ ap (λ (b : Bool). Ok (b, after)) c.if-not-branch.false in
    let less = c.in_ok-skip_entry.ensures.shorter in
    record {
      so_far = entry_passed c.args.size c.args.input.now.rest.now rest c.entries.invariant.so_far some after more less;
      same_end = c.in_ok-skip_entry.ensures.end ∙ c.entries.invariant.same_end;
      shorter = omega (arith, less, c.entries.invariant.shorter);
    }

pub returns-clause-gives : goal.returns-clause-gives
returns-clause-gives c =
    let none : c.entries.input.rest.now ≡ [] = search rules in
    passed_without_end c.args.size c.args.input.now.rest.now c.entries.input.rest.now c.entries.invariant.so_far none
