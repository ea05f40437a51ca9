use Rattle.std.proofs.Common.{◌+◌, sym, ◌∙◌, arith}
use Rattle.walrus_machine.specs.Controls.{control_meaning}
use Rattle.walrus_machine.specs.Tables.{test_of}
use Rattle.walrus_machine.proofs.Tables.{length_left, next_part, stops_here, passes_here, ends_here, fewer_here}
use Rattle.walrus_machine.proofs.machine.table.Table.seek.Goals as goal

pub parts-init : goal.parts-init
parts-init c =
    let cs = c.args.self.now in
    let first = next_part (test_of c.args.sought) cs (c.args.opener + 1) c.part-position.result c.part-position.ensures 0 in
    (omega (arith, first.0, length_left cs (c.args.opener + 1)), first.1)

pub returns-then-not-passes : goal.returns-then-not-passes
returns-then-not-passes c =
    c.parts.invariant.1
    ∙ stops_here (test_of c.args.sought) c.args.self.now c.parts.position (control_meaning c.in-Some.control.now) (sym c.in-Some.ensures.control) c.parts.passed (sym c.if-not-passes.true ∙ c.passes.ensures)

pub overflow_add-passed : goal.overflow_add-passed
overflow_add-passed c =
    let fewer = fewer_here c.args.self.now c.parts.position (control_meaning c.in-Some.control.now) (sym c.in-Some.ensures.control) in
    omega (arith, fewer, c.parts.invariant.0, c.in-Some.ensures.fits)

pub parts-smaller : goal.parts-smaller
parts-smaller c =
    let cs = c.args.self.now in
    let fewer = fewer_here cs c.parts.position (control_meaning c.in-Some.control.now) (sym c.in-Some.ensures.control) in
    let next = next_part (test_of c.args.sought) cs (c.parts.position + 1) c.part-position-in-Some.result c.part-position-in-Some.ensures 0 in
    omega (arith, fewer, next.0)

pub parts-preserved : goal.parts-preserved
parts-preserved c =
    let cs = c.args.self.now in
    let test = test_of c.args.sought in
    let at = sym c.in-Some.ensures.control in
    let fewer = fewer_here cs c.parts.position (control_meaning c.in-Some.control.now) at in
    let next = next_part test cs (c.parts.position + 1) c.part-position-in-Some.result c.part-position-in-Some.ensures 0 in (
      omega (arith, fewer, next.0, c.parts.invariant.0),
      c.parts.invariant.1
          ∙ passes_here test cs c.parts.position (control_meaning c.in-Some.control.now) at c.parts.passed (sym c.if-not-passes.false ∙ c.passes.ensures) c.part-position-in-Some.result c.part-position-in-Some.ensures,
    )

pub returns : goal.returns
returns c = c.parts.invariant.1 ∙ ends_here (test_of c.args.sought) c.args.self.now c.parts.position c.parts.passed (sym c.in_default.ensures.control)
