use Rattle.std.proofs.Common.{◌+◌, ℕ, List, Bool, cond, inl, inr, ap, sym, ◌∙◌}
use Rattle.wasm_body.specs.Control as C
use Rattle.wasm_body.specs.Machine as M
use Rattle.walrus_machine.specs.Tables.{place_from}
use Rattle.walrus_machine.specs.Tracing.{Continuation, continued_run}
use Rattle.walrus_machine.proofs.Tracing.{outcome_taken}
use Rattle.walrus_machine.proofs.machine.state.State.throw.Goals as goal

abbrev step : (again go : M.From ℕ) → List C.Control → (tag : ℕ) → (position : ℕ) → Continuation
step again go cs tag i = M.act again go (C.Throw tag) i (place_from cs (i + 1))

-- whether the tag is among those of the outcome
abbrev raised : (again go : M.From ℕ) → (tags : M.Tags) → (position : ℕ) → Bool → Continuation
raised again go tags i has ls o = cond has (M.then (M.Executed i) (M.raise again go tags ls o 0)) (M.ends M.Mismatch)

pub returns-in_default : goal.returns-in_default
returns-in_default c = λ again go. c.in_default.ensures.none c.args.table.now (step again go c.args.table.now c.args.tag c.args.position)

pub returns-then-not-has_tag : goal.returns-then-not-has_tag
returns-then-not-has_tag c = λ again go.
    let cs = c.args.table.now in
    let i = c.args.position in
    outcome_taken cs c.args.self.now c.next_outcome.new.self (step again go cs c.args.tag i) _ _ c.in-Some.ensures.some c.in-Raise.is
    ∙ ap (λ has. continued_run cs c.next_outcome.new.self (raised again go c.in-Raise.tags.keys i has)) (sym c.has_tag.ensures ∙ c.if-not-has_tag.true)

pub returns-in_ok-next-in-Raise : goal.returns-in_ok-next-in-Raise
returns-in_ok-next-in-Raise c = λ again go.
    let cs = c.args.table.now in
    let i = c.args.position in
    outcome_taken cs c.args.self.now c.next_outcome.new.self (step again go cs c.args.tag i) _ _ c.in-Some.ensures.some c.in-Raise.is
    ∙ (ap (λ has. continued_run cs c.next_outcome.new.self (raised again go c.in-Raise.tags.keys i has)) (sym c.has_tag.ensures ∙ c.if-not-has_tag.false)
    ∙ (c.in_ok-executed-in-Raise.ensures cs (λ ls o. M.raise again go c.in-Raise.tags.keys ls o 0) ∙ c.in_ok-next-in-Raise.ensures again go))

pub returns-in-Go : goal.returns-in-Go
returns-in-Go c = λ again go.
    let cs = c.args.table.now in
    let i = c.args.position in
    elim c.in-Go.is [
      | inl e ↦ outcome_taken cs c.args.self.now c.next_outcome.new.self (step again go cs c.args.tag i) _ _ c.in-Some.ensures.some e
      | inr (inl e) ↦ outcome_taken cs c.args.self.now c.next_outcome.new.self (step again go cs c.args.tag i) _ _ c.in-Some.ensures.some e
      | inr (inr (inl e)) ↦ outcome_taken cs c.args.self.now c.next_outcome.new.self (step again go cs c.args.tag i) _ _ c.in-Some.ensures.some e.1
      | inr (inr (inr e)) ↦ outcome_taken cs c.args.self.now c.next_outcome.new.self (step again go cs c.args.tag i) _ _ c.in-Some.ensures.some e.1
    ]
