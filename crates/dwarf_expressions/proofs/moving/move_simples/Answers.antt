use Rattle.std.proofs.Common.{◌≡◌, ℕ, ◌-◌, List, [], ◌∷◌, ◌++◌, None, length, refl, sym, ap, ◌∙◌, subst, append_assoc, rules, eqb-true}
use Rattle.std.proofs.lemmas.List.{append-nil}
use Rattle.std.proofs.lemmas.Bool.{MatchBool-at_true}
use Rattle.dwarf_expressions.specs.Expressions.{BeginWith, BeginsSimple}
use Rattle.dwarf_expressions.specs.Moving.{expression_all_of, moved_simple, expression_written}
use Rattle.dwarf_expressions.specs.Reading.{simple_of}
use Rattle.dwarf_expressions.proofs.Again.{shorter}
use Rattle.dwarf_expressions.proofs.Loops.{begin_more, next_of_all, all_more, all_none, writes_none, writes_more, is_empty}
use Rattle.dwarf_expressions.proofs.Moves.{one_way_simple, written_read, no_fault}
use Rattle.dwarf_expressions.proofs.moving.move_simples.Goals as goal

pub loop-rest-init : goal.loop-rest-init
loop-rest-init c = ([], [], [], refl, refl, sym (append-nil c.args.out.now.items), writes_none (BeginsSimple c.args.encoding))

pub loop-rest-smaller : goal.loop-rest-smaller
loop-rest-smaller c = shorter c.args.encoding c.loop-rest.rest.now _ c.in_ok-operation.after.now c.in_ok-operation.ensures.gives

pub returns-in_err-operation-clause-memory : goal.returns-in_err-operation-clause-memory
returns-in_err-operation-clause-memory c = λ ss all.
    let so_far = c.loop-rest.invariant in
    absurd (no_fault c.args.encoding c.args.expression.now c.loop-rest.rest.now so_far.0 ss c.in_err-operation.field-0.0 so_far.3 all c.loop-rest-test.ensures c.in_err-operation.ensures.gives)

pub returns-then-not-branch-clause-moved : goal.returns-then-not-branch-clause-moved
returns-then-not-branch-clause-moved c = λ ss all.
    let B = BeginsSimple c.args.encoding in
    let s = simple_of c.in_ok-operation.operation in
    let so_far = c.loop-rest.invariant in
    let lost : moved_simple c.args.body.now s ≡ None = search rules in
    let is = next_of_all B (one_way_simple c.args.encoding) c.args.expression.now c.loop-rest.rest.now c.in_ok-operation.after.now so_far.0 ss s so_far.3 c.in_ok-operation.ensures.gives all in
    ap (expression_all_of (moved_simple c.args.body.now)) is.1 ∙ all_none (moved_simple c.args.body.now) so_far.0 is.0 s lost

pub loop-rest-preserved : goal.loop-rest-preserved
loop-rest-preserved c =
    let B = BeginsSimple c.args.encoding in
    let s = simple_of c.in_ok-operation.operation in
    let width = length c.in_ok-operation.operation.bytes.now - 1 in
    let so_far = c.loop-rest.invariant in
    let kept = MatchBool-at_true _ _ c.if-not-branch.false c.in_ok-move_simple.ensures.moved in
    let read = written_read c.args.encoding c.args.body.now c.loop-rest.rest.now s kept.0 c.in_ok-operation.after.now width c.in_ok-operation.ensures.gives kept.1 kept.2 in (
      so_far.0 ++ s ∷ [],
      so_far.1 ++ kept.0 ∷ [],
      so_far.2 ++ expression_written width kept.0,
      begin_more B c.args.expression.now c.loop-rest.rest.now c.in_ok-operation.after.now so_far.0 s so_far.3 c.in_ok-operation.ensures.gives,
      all_more (moved_simple c.args.body.now) so_far.0 so_far.1 s kept.0 so_far.4 kept.1,
      kept.3 ∙ (ap (λ (l : List ℕ). l ++ expression_written width kept.0) so_far.5 ∙ append_assoc c.args.out.now.items so_far.2 (expression_written width kept.0)),
      writes_more B so_far.2 (expression_written width kept.0) so_far.1 kept.0 so_far.6 read,
    )

pub returns-clause-moved : goal.returns-clause-moved
returns-clause-moved c =
    let so_far = c.loop-rest.invariant in
    let end = is_empty c.loop-rest.rest.now (eqb-true (length c.loop-rest.rest.now) 0 (sym c.is_empty.ensures ∙ c.loop-rest-test.false)) in
    let all = subst (λ (l : List ℕ). BeginWith (BeginsSimple c.args.encoding) c.args.expression.now so_far.0 l) end so_far.3 in
    (so_far.0, so_far.1, so_far.2, all, so_far.4, so_far.5, so_far.6)
