use Rattle.std.proofs.Common.{◌≡◌, ℕ, ◌+◌, List, [], ◌++◌, Option, Some, option_map, true, false, length, length-append, inr, refl, sym, ap, ◌∙◌, subst, arith}
use Rattle.std.specs.List.{list_any}
use Rattle.std.proofs.lemmas.List.{append-nil}
use Rattle.std.proofs.lemmas.Bool.{MatchBool-at_true}
use Rattle.code_moves.specs.declared.body.Body.{Body}
use Rattle.dwarf_bytes.specs.declared.fault.DebugFault.TheVariants as faults
use Rattle.dwarf_expressions.specs.Expressions.{ExpressionOperation, Begins, IsExpression, expression_has, is_branch, expression_is_entry}
use Rattle.dwarf_expressions.specs.Moving.{IsAppendedOfExpression, IsRefusedOfExpression}
use Rattle.dwarf_expressions.proofs.Loops.{all_are}
use Rattle.dwarf_expressions.proofs.Moves.{one_way}
use Rattle.dwarf_expressions.proofs.Same.{is_appended}
use Rattle.dwarf_expressions.proofs.moving.moved_expression.Goals as goal
use Rattle.dwarf_expressions.proofs.moving.moved_expression.Goals.{else-facts-via-then-facts+else-len-begin, else-facts-via-else-facts}

pub returns-then-len-begin-clause-refused : goal.returns-then-len-begin-clause-refused
returns-then-len-begin-clause-refused c =
    let e = c.args.encoding in
    let old = c.args.expression.now in
    let kept = MatchBool-at_true _ _ c.if-not-branch.false c.in_ok-move_operations.ensures.moved in
    let read = c.in_ok-facts.ensures.read in
    let same = all_are (Begins e) (one_way e) old kept.0 read.0 kept.3 read.1 in
    let branches : list_any (expression_has is_branch) kept.0 ≡ true = ap (list_any (expression_has is_branch)) (sym same) ∙ (sym read.2 ∙ c.if-facts.true) in
    let body = ap (option_map (λ b. b.now)) c.in-Some.is in
    let refused : IsRefusedOfExpression e (Some c.in-Some.body.now) old faults.Unsupported = inr (refl, kept.0, kept.1, kept.3, branches, kept.4) in
    inr (faults.Unsupported, refl, subst (λ (b : Option Body). IsRefusedOfExpression e b old faults.Unsupported) (sym body) refused)

-- the expression is moved, and keeps its length if it has to
module _ (c : goal.Joined-else-facts) where
  abbrev pub Appended : Type 0
  Appended = (os : List ExpressionOperation) × (added : List ℕ) × IsExpression c.args.encoding c.args.expression.now os × (c.move_operations.new.out.items ≡ c.args.out.now.items ++ added)
      × IsAppendedOfExpression c.args.encoding (option_map (λ b. b.now) c.args.body) c.args.expression.now os added c.in_ok-facts.facts.names_entries

  pub appended : (c.in_ok-facts.facts.branches ≡ true → length c.move_operations.new.out.items ≡ length c.args.out.now.items + length c.args.expression.now) → Appended
  appended len =
      let e = c.args.encoding in
      let old = c.args.expression.now in
      let kept = MatchBool-at_true _ _ c.if-not-branch.false c.in_ok-move_operations.ensures.moved in
      let read = c.in_ok-facts.ensures.read in
      let same = all_are (Begins e) (one_way e) old kept.0 read.0 kept.3 read.1 in
      let expression : IsExpression e kept.2 kept.1 = subst (λ (l : List ℕ). IsExpression e l kept.1) (append-nil kept.2) (kept.6 []) in
      let names : c.in_ok-facts.facts.names_entries ≡ list_any (expression_has expression_is_entry) kept.0 = read.3 ∙ ap (list_any (expression_has expression_is_entry)) same in
      let fits : list_any (expression_has is_branch) kept.0 ≡ true → length kept.2 ≡ length old = λ t.
      let whole = len (read.2 ∙ (ap (list_any (expression_has is_branch)) same ∙ t)) in
      omega (arith, whole, ap length kept.5, length-append c.args.out.now.items kept.2) in
      let body = ap (option_map (λ b. b.now)) c.in-Some.is in
      let is = is_appended e c.in-Some.body.now old kept.2 kept.0 kept.1 c.in_ok-facts.facts.names_entries expression kept.4 names fits in
      (kept.0, kept.2, kept.3, kept.5, subst (λ (b : Option Body). IsAppendedOfExpression e b old kept.0 kept.2 c.in_ok-facts.facts.names_entries) (sym body) is)

pub returns-clause-moved : goal.returns-clause-moved
returns-clause-moved c =
    elim c.else-facts.branch [
      | else-facts-via-then-facts+else-len-begin w ↦
          let kept = MatchBool-at_true _ _ c.if-not-branch.false c.in_ok-move_operations.ensures.moved in
          appended c (λ t. omega (arith, w.if-len-begin.false, w.len.ensures, c.len-begin.ensures, c.args.out.now.ok.0, c.move_operations.new.out.ok.0, ap length kept.5, length-append c.args.out.now.items kept.2))
      | else-facts-via-else-facts w ↦ appended c (λ t. let both : true ≡ false = sym t ∙ w.if-facts.false in absurd cc)
    ]
