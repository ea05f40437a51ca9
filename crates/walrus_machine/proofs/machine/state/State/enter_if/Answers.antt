use Rattle.std.proofs.Common.{◌+◌, ◌∷◌, ℕ, List, Bool, cond, inl, inr, ap, ◌∙◌}
use Rattle.wasm_body.specs.Control as C
use Rattle.wasm_body.specs.Machine as M
use Rattle.walrus_machine.specs.Tables.{place_from}
use Rattle.walrus_machine.specs.Tracing.{Continuation, continued_run}
use Rattle.walrus_machine.proofs.Tracing.{outcome_taken}
use Rattle.walrus_machine.proofs.machine.state.State.enter_if.Goals as goal

abbrev step : (again go : M.From ℕ) → List C.Control → (position : ℕ) → Continuation
step again go cs i = M.enter go C.If i (place_from cs (i + 1))

-- the label that is opened, and both ways
abbrev opened : List C.Control → (position : ℕ) → M.Label ℕ
opened cs i = M.label i C.If (place_from cs (i + 1))

abbrev chosen : (go : M.From ℕ) → List C.Control → (position : ℕ) → Bool → Continuation
chosen go cs i way ls o =
    cond way (go (place_from cs (i + 1)) (opened cs i ∷ ls) o) (M.other_way go (opened cs i) ls o (M.seek M.is_else 0 0 (place_from cs (i + 1))))

pub returns-in_default : goal.returns-in_default
returns-in_default c = λ again go. c.in_default.ensures.none c.args.table.now (step again go c.args.table.now c.args.position)

pub returns-in_ok-open_construct-in-Way : goal.returns-in_ok-open_construct-in-Way
returns-in_ok-open_construct-in-Way c = λ again go.
    let cs = c.args.table.now in
    let i = c.args.position in
    outcome_taken cs c.args.self.now c.next_outcome.new.self (step again go cs i) _ _ c.in-Some.ensures.some c.in-Way.is
    ∙ (c.in_ok-executed-in-Way.ensures cs (chosen go cs i c.in-Way.taken)
    ∙ (ap (λ way. continued_run cs c.executed.new.self (chosen go cs i way)) c.if-taken.true ∙ c.in_ok-open_construct-in-Way.ensures cs (go (place_from cs (i + 1)))))

pub returns-in_ok-next-in-Way : goal.returns-in_ok-next-in-Way
returns-in_ok-next-in-Way c = λ again go.
    let cs = c.args.table.now in
    let i = c.args.position in
    outcome_taken cs c.args.self.now c.next_outcome.new.self (step again go cs i) _ _ c.in-Some.ensures.some c.in-Way.is
    ∙ (c.in_ok-executed-in-Way.ensures cs (chosen go cs i c.in-Way.taken)
    ∙ (ap (λ way. continued_run cs c.executed.new.self (chosen go cs i way)) c.if-taken.false ∙ c.in_ok-next-in-Way.ensures again go))

pub returns-in-Go : goal.returns-in-Go
returns-in-Go c = λ again go.
    let cs = c.args.table.now in
    let i = c.args.position in
    elim c.in-Go.is [
      | inl e ↦ outcome_taken cs c.args.self.now c.next_outcome.new.self (step again go cs i) _ _ c.in-Some.ensures.some e
      | inr (inl e) ↦ outcome_taken cs c.args.self.now c.next_outcome.new.self (step again go cs i) _ _ c.in-Some.ensures.some e
      | inr (inr (inl e)) ↦ outcome_taken cs c.args.self.now c.next_outcome.new.self (step again go cs i) _ _ c.in-Some.ensures.some e.1
      | inr (inr (inr e)) ↦ outcome_taken cs c.args.self.now c.next_outcome.new.self (step again go cs i) _ _ c.in-Some.ensures.some e.1
    ]
