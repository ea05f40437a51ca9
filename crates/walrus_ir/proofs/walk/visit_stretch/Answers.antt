use Rattle.std.proofs.Common.{◌≡◌, ◌∙◌, arith, sym}
use Rattle.std.proofs.lemmas.Result.{err_from_is_err_and}
use Rattle.walrus_ir.specs.Events.{through}
use Rattle.walrus_ir.specs.Visiting.{no_stretch}
use Rattle.walrus_ir.proofs.Stretches.{stretch_visited, stretch_refused}
use Rattle.walrus_ir.proofs.walk.visit_stretch.Goals as goal

pub stretch-init : goal.stretch-init
stretch-init g c = record { events = _; stretch = no_stretch; visited = through }

pub returns-in_err-visit_with_names-clause-visited : goal.returns-in_err-visit_with_names-clause-visited
returns-in_err-visit_with_names-clause-visited g c =
    let passed = err_from_is_err_and c.from_residual.result c.from_residual.ensures.1 in
    rw (passed.1, passed.2) (stretch_refused _ _ _ c.in-Some.ensures.cases.0 c.stretch.invariant c.in_err-visit_with_names.ensures)

pub returns-then-inside-gt0-clause-visited : goal.returns-then-inside-gt0-clause-visited
returns-then-inside-gt0-clause-visited g c =
    stretch_visited _ g.V.Visitor.refuses g.V.Visitor.same _ c.in-Some.ensures.cases.0 c.count_inside-inside.ensures c.stretch.invariant c.in_ok-visit_with_names.ensures

pub stretch-preserved : goal.stretch-preserved
stretch-preserved g c =
    let none : c.count_inside-inside.result ≡ 0 = omega arith in
    stretch_visited _ g.V.Visitor.refuses g.V.Visitor.same 0 c.in-Some.ensures.cases.0 (sym none ∙ c.count_inside-inside.ensures) c.stretch.invariant c.in_ok-visit_with_names.ensures
