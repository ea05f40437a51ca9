use Rattle.std.proofs.Common.{◌+◌, ℕ, List, inl, inr, ◌∙◌}
use Rattle.wasm_body.specs.Control as C
use Rattle.wasm_body.specs.Machine as M
use Rattle.walrus_machine.specs.Tables.{place_from}
use Rattle.walrus_machine.specs.Tracing.{Continuation}
use Rattle.walrus_machine.proofs.Tracing.{outcome_taken}
use Rattle.walrus_machine.proofs.machine.state.State.throw_ref.Goals as goal

abbrev step : (again go : M.From ℕ) → List C.Control → (position : ℕ) → Continuation
step again go cs i = M.act again go C.ThrowRef i (place_from cs (i + 1))

pub returns-in_default : goal.returns-in_default
returns-in_default c = λ again go. c.in_default.ensures.none c.args.table.now (step again go c.args.table.now c.args.position)

pub returns-in_ok-executed-in-Trap : goal.returns-in_ok-executed-in-Trap
returns-in_ok-executed-in-Trap c = λ again go.
    let cs = c.args.table.now in
    let i = c.args.position in
    outcome_taken cs c.args.self.now c.next_outcome.new.self (step again go cs i) _ _ c.in-Some.ensures.some c.in-Trap.is
    ∙ c.in_ok-executed-in-Trap.ensures cs (λ ls o. M.ends M.Trapped)

pub returns-in_ok-next-in-Raise : goal.returns-in_ok-next-in-Raise
returns-in_ok-next-in-Raise c = λ again go.
    let cs = c.args.table.now in
    let i = c.args.position in
    outcome_taken cs c.args.self.now c.next_outcome.new.self (step again go cs i) _ _ c.in-Some.ensures.some c.in-Raise.is
    ∙ (c.in_ok-executed-in-Raise.ensures cs (λ ls o. M.raise again go c.in-Raise.tags.keys ls o 0) ∙ c.in_ok-next-in-Raise.ensures again go)

pub returns-in-Go : goal.returns-in-Go
returns-in-Go c = λ again go.
    let cs = c.args.table.now in
    let i = c.args.position in
    elim c.in-Go.is [
      | inl e ↦ outcome_taken cs c.args.self.now c.next_outcome.new.self (step again go cs i) _ _ c.in-Some.ensures.some e
      | inr (inl e) ↦ outcome_taken cs c.args.self.now c.next_outcome.new.self (step again go cs i) _ _ c.in-Some.ensures.some e.1
      | inr (inr e) ↦ outcome_taken cs c.args.self.now c.next_outcome.new.self (step again go cs i) _ _ c.in-Some.ensures.some e.1
    ]
