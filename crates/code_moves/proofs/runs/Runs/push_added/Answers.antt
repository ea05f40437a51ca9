use Rattle.std.proofs.Common.{◌≤◌, suc, unwrap_or, sym, subst, arith}
use Rattle.code_moves.proofs.Building.{later_default, default_until, runs_longer, written_longer, place_longer}
use Rattle.code_moves.proofs.runs.Runs.push_added.Goals as goal
use Rattle.code_moves.proofs.runs.Runs.push_added.Goals.{After-unwrap_or}

-- where that begins which is added in front of the next operator of the source, before and after
later : (c : After-unwrap_or) → unwrap_or c.args.self.now.added (suc c.args.self.now.last) ≤ c.unwrap_or.result
later c = subst (λ n. unwrap_or c.args.self.now.added (suc c.args.self.now.last) ≤ n) (sym c.unwrap_or.ensures)
    (later_default c.args.self.now.added (suc c.args.self.now.last) c.args.own (omega arith))

pub invariant_of-self : goal.invariant_of-self
invariant_of-self c =
    let built = c.args.self.now in
    let until = default_until built.added (suc built.last) c.args.own built.added_by_last (omega arith) in
    let is = c.unwrap_or.ensures in
    record {
      are_runs = runs_longer (suc built.begin) (suc built.new_begin) built.runs.items (suc built.source) (unwrap_or built.added (suc built.last)) built.are_runs (suc built.source) c.unwrap_or.result (omega arith) (later c);
      added_by_last = omega arith;
    }

pub returns-clause-keeps : goal.returns-clause-keeps
returns-clause-keeps c =
    let built = c.args.self.now in
    let le = later (goal.at.returns-clause-keeps c).After-unwrap_or in
    record {
      written = λ old own. written_longer built.runs.items (unwrap_or built.added (suc built.last)) c.unwrap_or.result old own le;
      places = λ old own a. place_longer (suc built.begin) (suc built.new_begin) built.runs.items (suc built.source) (unwrap_or built.added (suc built.last)) built.are_runs c.unwrap_or.result old own a le;
    }
