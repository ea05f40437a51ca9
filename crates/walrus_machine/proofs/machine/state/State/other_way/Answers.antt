use Rattle.std.proofs.Common.{◌+◌, true, false, ap, sym, ◌∙◌, arith}
use Rattle.wasm_body.specs.Control as C
use Rattle.wasm_body.specs.Machine as M
use Rattle.walrus_machine.specs.declared.machine.control.Control.{Control}
use Rattle.walrus_machine.specs.Controls.{control_meaning}
use Rattle.walrus_machine.specs.Tables.{place_from}
use Rattle.walrus_machine.proofs.Tables.{within}
use Rattle.walrus_machine.proofs.Tracing.{same_on, other_here, nothing_other, not_else}
use Rattle.walrus_machine.proofs.machine.state.State.other_way.Goals as goal

pub returns-in_default : goal.returns-in_default
returns-in_default c = λ again go.
    let cs = c.args.table.now in
    let i = c.args.position in
    let l = M.label i C.If (place_from cs (i + 1)) in
    let f = c.seek-found.result in
    same_on cs c.args.self.now _ _ (λ ls o. nothing_other go cs l _ f.passed f.position c.seek-found.ensures ls o (sym c.in_default.ensures.control))

pub overflow_add-following : goal.overflow_add-following
overflow_add-following c = omega (arith, within c.args.table.now c.seek-found.result.position (control_meaning c.in-Some.control.now) (sym c.in-Some.ensures.control), c.in-Some.ensures.fits)

pub returns-in_ok-open_construct-in-Else : goal.returns-in_ok-open_construct-in-Else
returns-in_ok-open_construct-in-Else c = λ again go.
    let cs = c.args.table.now in
    let i = c.args.position in
    let l = M.label i C.If (place_from cs (i + 1)) in
    let f = c.seek-found.result in
    same_on cs c.args.self.now _ _ (λ ls o.
    other_here go cs l _ f.passed f.position c.seek-found.ensures ls o (control_meaning c.in-Some.control.now) true (sym c.in-Some.ensures.control) (ap (λ (x : Control). M.is_else (control_meaning x)) c.in-Else.is))
    ∙ c.in_ok-open_construct-in-Else.ensures cs (go (place_from cs (f.position + 1)))

pub returns-in_default-control : goal.returns-in_default-control
returns-in_default-control c = λ again go.
    let cs = c.args.table.now in
    let i = c.args.position in
    let l = M.label i C.If (place_from cs (i + 1)) in
    let f = c.seek-found.result in
    same_on cs c.args.self.now _ _ (λ ls o.
    other_here go cs l _ f.passed f.position c.seek-found.ensures ls o (control_meaning c.in-Some.control.now) false (sym c.in-Some.ensures.control) (not_else c.in-Some.control.now c.in_default-control.not-Else))
