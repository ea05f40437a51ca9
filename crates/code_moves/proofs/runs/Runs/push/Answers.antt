use Rattle.std.proofs.Common.{◌≡◌, suc, ◌-◌, ◌∷◌, ◌++◌, [], length, set, rules, refl, sym, ap, subst, ◌∙◌, arith}
use Rattle.code_moves.specs.Order.{AreRunsOfCode}
use Rattle.code_moves.specs.declared.run.Run.{Run}
use Rattle.code_moves.proofs.NextRuns.{NextRuns, next_run, next_longer}
use Rattle.code_moves.proofs.runs.Runs.push.Goals as goal
use Rattle.code_moves.proofs.runs.Runs.push.Goals.{Joined-longer, in-Some, in-None+in_ok-push-in-None}

next : (c : Joined-longer) → NextRuns c.args.self.now c.args.old c.args.end c.args.own c.match-longer.self.1.0.items
next c = elim c.match-longer.branch [
  | in-Some w ↦
      let built = c.args.self.now in
      let rs = built.runs.items in
      let len : w.len-last.result ≡ length rs = search rules in
      let is : c.match-longer.self.1.0.items ≡ set rs (w.len-last.result - 1) w.in-Some.run' = ap (λ s. s.1.0.items) w.self-is in
      subst (NextRuns built c.args.old c.args.end c.args.own) (sym (is ∙ ap (λ n. set rs (n - 1) w.in-Some.run') len))
      (next_longer built c.args.old c.args.end c.args.own w.in-Some.run' w.in-Some.ensures c.if-old-self.false c.if-end-old.false c.if-own-self.false)
  | in-None+in_ok-push-in-None w ↦
      let built = c.args.self.now in
      let run : Run = record { old = c.args.old; end = c.args.end; gap = w.unwrap_or-gap.result; own = c.args.own } in
      let is : c.match-longer.self.1.0.items ≡ built.runs.items ++ run ∷ [] = ap (λ s. s.1.0.items) w.self-is ∙ w.in_ok-push-in-None.ensures.items in
      subst (NextRuns built c.args.old c.args.end c.args.own) (sym is)
      (next_run built run w.unwrap_or-gap.ensures c.if-old-self.false c.if-end-old.false c.if-own-self.false)
]

pub invariant_of-self-2 : goal.invariant_of-self-2
invariant_of-self-2 c =
    let built = c.args.self.now in
    let runs = (next c).are_runs in
    let end_is : c.args.end ≡ suc (c.args.end - 1) = omega arith in
    record {
      are_runs = subst (λ e. AreRunsOfCode (suc built.begin) (suc built.new_begin) c.match-longer.self.1.0.items e (suc c.args.own)) end_is runs;
      added_by_last = omega arith;
    }

pub returns-clause-written : goal.returns-clause-written
returns-clause-written c = λ _.
    let facts = next (goal.at.returns-clause-written c).Joined-longer in
    record { written = facts.written; front = facts.front; ends = facts.ends; none_added = refl; last = refl; source = omega arith }

pub returns-clause-keeps : goal.returns-clause-keeps
returns-clause-keeps c =
    let facts = next (goal.at.returns-clause-keeps c).Joined-longer in
    record { written = facts.kept; places = facts.places }
