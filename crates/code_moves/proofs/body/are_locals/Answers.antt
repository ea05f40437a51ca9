use Rattle.std.proofs.Common.{◌≡◌, ◌+◌, ◌<◌, ◌≤◌, suc, drop, get_or, refl, sym, subst, arith}
use Rattle.std.specs.Prelude.{◌↔◌}
use Rattle.std.proofs.lemmas.List.{drop_more, drop_all}
use Rattle.code_moves.specs.declared.body.LocalMove.{LocalMove}
use Rattle.code_moves.specs.Order.{AreLocals}
use Rattle.code_moves.proofs.body.are_locals.Goals as goal

pub loop-step-init : goal.loop-step-init
loop-step-init c =
    subst (λ n. AreLocals c.args.parameters c.args.locals.now ↔ AreLocals n c.args.locals.now) (sym c.from-least.ensures) ((λ h. h), (λ h. h))

pub returns-then-from-least : goal.returns-then-from-least
returns-then-from-least c =
    let ms = c.args.locals.now in
    let i = c.loop-step.step-index in
    let first : LocalMove = get_or ms i (record { old = 0; new = 0 }) in
    let left = drop_more ms i (record { old = 0; new = 0 }) c.loop-step-test.true in
    let below : first.old < c.loop-step.least = omega arith in (
      (λ no. absurd (cc)),
      (λ locals.
          let rest = subst (AreLocals c.loop-step.least) left (c.loop-step.invariant.0 locals) in
          let low = rest.0 in
          absurd (omega arith)),
    )

pub loop-step-preserved : goal.loop-step-preserved
loop-step-preserved c =
    let ms = c.args.locals.now in
    let i = c.loop-step.step-index in
    let d : LocalMove = record { old = 0; new = 0 } in
    let left = drop_more ms i d c.loop-step-test.true in
    let low : c.loop-step.least ≤ (get_or ms i d).old = omega arith in
    let least : c.from-least-in-loop-step.result + 1 ≡ suc (get_or ms i d).old = omega arith in
    subst (λ n. AreLocals c.args.parameters ms ↔ AreLocals n (drop (i + 1) ms)) (sym least) (
      (λ locals. (subst (AreLocals c.loop-step.least) left (c.loop-step.invariant.0 locals)).1),
      (λ rest. c.loop-step.invariant.1 (subst (AreLocals c.loop-step.least) (sym left) (low, rest))),
    )

pub returns : goal.returns
returns c =
    let ms = c.args.locals.now in
    let i = c.loop-step.step-index in
    ((λ _. c.loop-step.invariant.1 (subst (AreLocals c.loop-step.least) (sym (drop_all i ms (omega arith))) tt)), (λ _. refl))
