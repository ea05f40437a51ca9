use Rattle.std.proofs.Common.{◌+◌, Some, ap, sym, ◌∙◌, arith}
use Rattle.walrus_machine.specs.Controls.{control_meaning}
use Rattle.walrus_machine.specs.Tables.{place_from}
use Rattle.walrus_machine.specs.declared.machine.control.Control.{Control}
use Rattle.walrus_machine.proofs.Tables.{within}
use Rattle.walrus_machine.proofs.Tracing.{clause_here, no_clause_here, no_clause}
use Rattle.walrus_machine.proofs.machine.respond.catch.Goals as goal

pub returns-in_default : goal.returns-in_default
returns-in_default c = no_clause_here c.args.tags.now.keys c.args.table.now _ _ c.seek-found.result.position c.seek-found.ensures (sym c.in_default.ensures.control)

pub overflow_add-place : goal.overflow_add-place
overflow_add-place c = omega (arith, within c.args.table.now c.seek-found.result.position (control_meaning c.in-Some.control.now) (sym c.in-Some.ensures.control), c.in-Some.ensures.fits)

pub returns-in-Catch : goal.returns-in-Catch
returns-in-Catch c =
    let at = sym c.in-Some.ensures.control ∙ ap (λ (x : Control). Some (control_meaning x)) c.in-Catch.is in
    clause_here c.args.tags.now.keys c.args.table.now _ c.seek-found.result.passed c.seek-found.result.position _ c.seek-found.ensures at

pub returns-in-CatchAll : goal.returns-in-CatchAll
returns-in-CatchAll c =
    let at = sym c.in-Some.ensures.control ∙ ap (λ (x : Control). Some (control_meaning x)) c.in-CatchAll.is in
    clause_here c.args.tags.now.keys c.args.table.now _ c.seek-found.result.passed c.seek-found.result.position _ c.seek-found.ensures at

pub returns-in-Delegate : goal.returns-in-Delegate
returns-in-Delegate c =
    let at = sym c.in-Some.ensures.control ∙ ap (λ (x : Control). Some (control_meaning x)) c.in-Delegate.is in
    clause_here c.args.tags.now.keys c.args.table.now _ c.seek-found.result.passed c.seek-found.result.position _ c.seek-found.ensures at

pub returns-in_default-control : goal.returns-in_default-control
returns-in_default-control c =
    let cs = c.args.table.now in
    let f = c.seek-found.result in
    no_clause c.in-Some.control.now f.passed (place_from cs (f.position + 1)) c.in_default-control.not-Catch c.in_default-control.not-CatchAll c.in_default-control.not-Delegate
    ∙ clause_here c.args.tags.now.keys cs _ f.passed f.position _ c.seek-found.ensures (sym c.in-Some.ensures.control)
