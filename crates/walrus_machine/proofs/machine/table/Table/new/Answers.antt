use Rattle.std.proofs.Common.{◌≡◌, ◌+◌, ◌-◌, ℕ, length, map, reverse, refl, sym, subst, ap, ◌∙◌, arith}
use Rattle.std.proofs.lemmas.List.{length_push, length-map}
use Rattle.walrus_machine.specs.Controls.{control_meaning}
use Rattle.walrus_machine.specs.Tables.{AreAhead, LevelsAhead}
use Rattle.walrus_machine.proofs.Tables.{get_mapped, start_listed, more_ahead}
use Rattle.walrus_machine.proofs.machine.table.Table.new.Goals as goal

pub operators-init : goal.operators-init
operators-init c =
    let controls = c.args.controls in
    let cs = map control_meaning controls.items in
    let count : c.len.result ≡ length controls.items = omega (arith, c.len.ensures, controls.ok.0) in
    let same : c.len.result ≡ c.len-position.result = omega (arith, c.len.ensures, c.len-position.ensures) in
    let none : length c.new-ahead.result.items ≡ 0 = ap length c.new-ahead.ensures.items in
    let end : c.len.result ≡ length cs = count ∙ sym (length-map controls.items control_meaning) in (
      refl,
      count,
      omega (arith, count, same, none),
      subst (AreAhead cs c.len-position.result) (sym (ap reverse c.new-ahead.ensures.items)) tt,
      start_listed cs c.len.result c.len-position.result c.new.result.items end same c.new.ensures.items,
    )

pub operators-preserved : goal.operators-preserved
operators-preserved c =
    let controls = c.args.controls in
    let cs = map control_meaning controls.items in
    let place = c.operators.position in
    let more = c.in_ok-push.ensures.items in
    let pushed : length c.push.new.self.items ≡ length c.operators.ahead.items + 1 = ap length more ∙ length_push c.operators.ahead.items c.innermost.result in
    let back : place ≡ place - 1 + 1 = omega (arith, c.operators-test.true) in
    let P : ℕ → Type 0 = λ m. LevelsAhead cs m c.operators.levels in
    let at = get_mapped control_meaning controls.items (place - 1) c.index.result.now (omega (arith, c.operators-test.true, c.operators.invariant.2)) c.index.ensures in (
      refl,
      c.in_ok-go_back.ensures.end ∙ c.operators.invariant.1,
      omega (arith, pushed, c.operators-test.true, c.operators.invariant.2),
      more_ahead cs place c.operators.ahead.items c.push.new.self.items c.innermost.result c.operators-test.true more (c.innermost.ensures cs place c.operators.invariant.4) c.operators.invariant.3,
      c.in_ok-go_back.ensures.levels cs at (subst P back c.operators.invariant.4),
    )
