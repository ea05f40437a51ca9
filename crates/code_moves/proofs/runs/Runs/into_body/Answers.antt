use Rattle.std.proofs.Common.{◌≤◌, suc, unwrap_or, refl, subst, arith}
use Rattle.code_moves.specs.Order.{AreLocals}
use Rattle.code_moves.proofs.Building.{runs_longer, written_longer, place_longer}
use Rattle.code_moves.proofs.runs.Runs.into_body.Goals as goal
use Rattle.code_moves.proofs.runs.Runs.into_body.Goals.{Else-not-are_locals}

-- the runs end before the body does
ends : (c : Else-not-are_locals) → unwrap_or c.args.self.added (suc c.args.self.last) ≤ c.args.new_end
ends c =
    let by_last = c.args.self.added_by_last in
    omega arith

pub invariant_of-result : goal.invariant_of-result
invariant_of-result c =
    let built = c.args.self in
    record {
      are_runs = runs_longer (suc built.begin) (suc built.new_begin) built.runs.items (suc built.source) (unwrap_or built.added (suc built.last)) built.are_runs c.args.end c.args.new_end (omega arith) (ends c);
      are_locals = subst (AreLocals c.args.parameters) c.deref.ensures.value (c.if-not-are_locals.ensures.0 refl);
    }

pub returns-clause-keeps : goal.returns-clause-keeps
returns-clause-keeps c =
    let built = c.args.self in
    let le = ends (goal.at.returns-clause-keeps c).Else-not-are_locals in
    record {
      written = λ old own. written_longer built.runs.items (unwrap_or built.added (suc built.last)) c.args.new_end old own le;
      places = λ old own a. place_longer (suc built.begin) (suc built.new_begin) built.runs.items (suc built.source) (unwrap_or built.added (suc built.last)) built.are_runs c.args.new_end old own a le;
    }
