use Rattle.std.proofs.Common.{◌≡◌, ℕ, ◌-◌, List, [], ◌∷◌, ◌++◌, length, option_map, refl, sym, ap, ◌∙◌, subst, append_assoc, rules}
use Rattle.std.proofs.lemmas.List.{append-nil}
use Rattle.std.proofs.lemmas.Bool.{MatchBool-at_true, MatchBool-at_false}
use Rattle.dwarf_bytes.specs.Writing.{padded}
use Rattle.dwarf_expressions.specs.Expressions.{Simple, ExpressionOperation, simple, entry_value, BeginWith, BeginsSimple, Begins}
use Rattle.dwarf_expressions.specs.Moving.{expression_moved, moved_simple, moved_operation, expression_written}
use Rattle.dwarf_expressions.specs.Reading.{simple_of}
use Rattle.wasm_numbers.proofs.ResultLemmas.{ok_same}
use Rattle.dwarf_expressions.proofs.Again.{shorter, entry_shorter, not_both}
use Rattle.dwarf_expressions.proofs.Loops.{begin_more, all_more, all_none, writes_none, writes_more}
use Rattle.dwarf_expressions.proofs.Moves.{next_entry, next_simple, entry_read, written_read}
use Rattle.dwarf_expressions.proofs.moving.move_operations.Goals as goal

pub loop-rest-init : goal.loop-rest-init
loop-rest-init c = ([], [], [], refl, refl, sym (append-nil c.args.out.now.items), writes_none (Begins c.args.encoding))

pub loop-rest-smaller-then-is_entry_value : goal.loop-rest-smaller-then-is_entry_value
loop-rest-smaller-then-is_entry_value c = (entry_shorter c.loop-rest.rest.now _ _ c.in_ok-value.after.now c.in_ok-value.ensures).2

pub loop-rest-smaller : goal.loop-rest-smaller
loop-rest-smaller c = shorter c.args.encoding c.loop-rest.rest.now _ c.in_ok-operation.after.now c.in_ok-operation.ensures.gives

pub returns-in_err-value-clause-memory : goal.returns-in_err-value-clause-memory
returns-in_err-value-clause-memory c = λ os all.
    let so_far = c.loop-rest.invariant in
    let is = sym c.is_entry_value.ensures ∙ c.if-is_entry_value.true in
    let x = next_entry c.args.encoding c.args.expression.now c.loop-rest.rest.now so_far.0 os so_far.3 all c.loop-rest-test.ensures is in
    absurd (not_both c.in_err-value.ensures x.4)

pub returns-in_err-move_entry_value-clause-memory : goal.returns-in_err-move_entry_value-clause-memory
returns-in_err-move_entry_value-clause-memory c = λ os all.
    let so_far = c.loop-rest.invariant in
    let is = sym c.is_entry_value.ensures ∙ c.if-is_entry_value.true in
    let x = next_entry c.args.encoding c.args.expression.now c.loop-rest.rest.now so_far.0 os so_far.3 all c.loop-rest-test.ensures is in
    let both = ok_same _ _ (sym c.in_ok-value.ensures ∙ x.4) in
    let inside : c.in_ok-value.value.expression.now ≡ x.2 = ap (λ (z : (ℕ × List ℕ) × List ℕ). z.0.1) both in
    let memory = c.in_err-move_entry_value.ensures.memory x.1 (subst (λ (l : List ℕ). BeginWith (BeginsSimple c.args.encoding) l x.1 []) (sym inside) x.5) in
    search (rules, memory)

pub returns-then-not-branch-clause-moved : goal.returns-then-not-branch-clause-moved
returns-then-not-branch-clause-moved c = λ os all.
    let so_far = c.loop-rest.invariant in
    let is = sym c.is_entry_value.ensures ∙ c.if-is_entry_value.true in
    let x = next_entry c.args.encoding c.args.expression.now c.loop-rest.rest.now so_far.0 os so_far.3 all c.loop-rest-test.ensures is in
    let both = ok_same _ _ (sym c.in_ok-value.ensures ∙ x.4) in
    let inside : c.in_ok-value.value.expression.now ≡ x.2 = ap (λ (z : (ℕ × List ℕ) × List ℕ). z.0.1) both in
    let reads = subst (λ (l : List ℕ). BeginWith (BeginsSimple c.args.encoding) l x.1 []) (sym inside) x.5 in
    let lost = MatchBool-at_false _ _ c.if-not-branch.true c.in_ok-move_entry_value.ensures.moved in
    ap (expression_moved c.args.body.now) x.6.1 ∙ all_none (moved_operation c.args.body.now) so_far.0 x.6.0 (entry_value x.0 x.1) (ap (option_map (entry_value x.0)) (lost.0 x.1 reads))

pub loop-rest-preserved-then-is_entry_value : goal.loop-rest-preserved-then-is_entry_value
loop-rest-preserved-then-is_entry_value c =
    let e = c.args.encoding in
    let value = c.in_ok-value.value in
    let so_far = c.loop-rest.invariant in
    let is = sym c.is_entry_value.ensures ∙ c.if-is_entry_value.true in
    let kept = MatchBool-at_true _ _ c.if-not-branch.false c.in_ok-move_entry_value.ensures.moved in
    let o : ExpressionOperation = entry_value value.code kept.0 in let new : ExpressionOperation = entry_value value.code kept.1 in
    let text = value.code ∷ (padded value.width (length kept.2) ++ kept.2) in
    let read = entry_read e c.loop-rest.rest.now value.code value.width value.expression.now c.in_ok-value.after.now kept.2 kept.1 is c.in_ok-value.ensures kept.6 kept.5 in (
      so_far.0 ++ o ∷ [],
      so_far.1 ++ new ∷ [],
      so_far.2 ++ text,
      begin_more (Begins e) c.args.expression.now c.loop-rest.rest.now c.in_ok-value.after.now so_far.0 o so_far.3 (value.expression.now, is, c.in_ok-value.ensures, kept.3),
      all_more (moved_operation c.args.body.now) so_far.0 so_far.1 o new so_far.4 (ap (option_map (entry_value value.code)) kept.4),
      kept.7 ∙ (ap (λ (l : List ℕ). l ++ text) so_far.5 ∙ append_assoc c.args.out.now.items so_far.2 text),
      writes_more (Begins e) so_far.2 text so_far.1 new so_far.6 read,
    )

pub returns-in_err-operation-clause-memory : goal.returns-in_err-operation-clause-memory
returns-in_err-operation-clause-memory c = λ os all.
    let so_far = c.loop-rest.invariant in
    let is = sym c.is_entry_value.ensures ∙ c.if-is_entry_value.false in
    let x = next_simple c.args.encoding c.args.expression.now c.loop-rest.rest.now so_far.0 os so_far.3 all c.loop-rest-test.ensures is in
    absurd (not_both c.in_err-operation.ensures.gives x.2)

pub returns-then-not-branch-2-clause-moved : goal.returns-then-not-branch-2-clause-moved
returns-then-not-branch-2-clause-moved c = λ os all.
    let s = simple_of c.in_ok-operation.operation in
    let so_far = c.loop-rest.invariant in
    let is = sym c.is_entry_value.ensures ∙ c.if-is_entry_value.false in
    let x = next_simple c.args.encoding c.args.expression.now c.loop-rest.rest.now so_far.0 os so_far.3 all c.loop-rest-test.ensures is in
    let both = ok_same _ _ (sym x.2 ∙ c.in_ok-operation.ensures.gives) in
    let same : x.0 ≡ s = ap (λ (z : Simple × List ℕ). z.0) both in
    let lost = MatchBool-at_false _ _ c.if-not-branch-2.true c.in_ok-move_simple.ensures.moved in
    ap (expression_moved c.args.body.now) x.3.1 ∙ all_none (moved_operation c.args.body.now) so_far.0 x.3.0 (simple x.0) (ap (option_map simple) (ap (moved_simple c.args.body.now) same ∙ lost.0))

pub loop-rest-preserved : goal.loop-rest-preserved
loop-rest-preserved c =
    let B = Begins c.args.encoding in
    let s = simple_of c.in_ok-operation.operation in
    let width = length c.in_ok-operation.operation.bytes.now - 1 in
    let so_far = c.loop-rest.invariant in
    let kept = MatchBool-at_true _ _ c.if-not-branch-2.false c.in_ok-move_simple.ensures.moved in
    let read = written_read c.args.encoding c.args.body.now c.loop-rest.rest.now s kept.0 c.in_ok-operation.after.now width c.in_ok-operation.ensures.gives kept.1 kept.2 in
    let o : ExpressionOperation = simple s in let new : ExpressionOperation = simple kept.0 in (
      so_far.0 ++ o ∷ [],
      so_far.1 ++ new ∷ [],
      so_far.2 ++ expression_written width kept.0,
      begin_more B c.args.expression.now c.loop-rest.rest.now c.in_ok-operation.after.now so_far.0 o so_far.3 c.in_ok-operation.ensures.gives,
      all_more (moved_operation c.args.body.now) so_far.0 so_far.1 o new so_far.4 (ap (option_map simple) kept.1),
      kept.3 ∙ (ap (λ (l : List ℕ). l ++ expression_written width kept.0) so_far.5 ∙ append_assoc c.args.out.now.items so_far.2 (expression_written width kept.0)),
      writes_more B so_far.2 (expression_written width kept.0) so_far.1 new so_far.6 read,
    )
