use Rattle.std.proofs.Common.{◌≡◌, ◌-◌, length, Some, rules, refl, sym, subst, arith}
use Rattle.std.specs.Prelude.{slice_get}
use Rattle.code_moves.proofs.Building.{none_of}
use Rattle.code_moves.proofs.NextRuns.{last_within}
use Rattle.code_moves.proofs.runs.Runs.longer.Goals as goal
use Rattle.code_moves.proofs.runs.Runs.longer.Goals.{In_ok-last}

last : (c : In_ok-last) → slice_get c.args.self.now.runs.items (length c.args.self.now.runs.items - 1) ≡ Some c.in_ok-last.last.now
last c = sym (subst (λ rs. Some c.in_ok-last.last.now ≡ slice_get rs (length rs - 1)) c.deref.ensures.value c.in_ok-last.ensures.value)

pub overflow_sub-own : goal.overflow_sub-own
overflow_sub-own c =
    let within = last_within c.args.self.now c.in_ok-last.last.now (last (goal.at.overflow_sub-own c).In_ok-last) in
    omega arith

pub overflow_sub-old : goal.overflow_sub-old
overflow_sub-old c =
    let within = last_within c.args.self.now c.in_ok-last.last.now (last (goal.at.overflow_sub-old c).In_ok-last) in
    omega arith

pub returns : goal.returns
returns c =
    let within = last_within c.args.self.now c.in_ok-last.last.now (last (goal.at.returns c).In_ok-last) in
    record {
      none_added = none_of c.args.self.now.added c.if-is_some.ensures;
      last = c.in_ok-last.last.now;
      is_last = last (goal.at.returns c).In_ok-last;
      ends = search rules;
      next = omega arith;
      longer = refl;
    }
