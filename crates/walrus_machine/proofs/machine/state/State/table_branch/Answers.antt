use Rattle.std.proofs.Common.{◌+◌, ℕ, List, inl, inr, ap, sym, ◌∙◌}
use Rattle.wasm_body.specs.Control as C
use Rattle.wasm_body.specs.Machine as M
use Rattle.walrus_machine.specs.Tables.{place_from}
use Rattle.walrus_machine.specs.Tracing.{Continuation, continued_run}
use Rattle.walrus_machine.proofs.Tracing.{outcome_taken}
use Rattle.walrus_machine.proofs.machine.state.State.table_branch.Goals as goal

abbrev step : (again go : M.From ℕ) → List C.Control → (targets : List ℕ) → (default : ℕ) → (position : ℕ) → Continuation
step again go cs targets default i = M.act again go (C.TableBranch targets default) i (place_from cs (i + 1))

pub returns-in_default : goal.returns-in_default
returns-in_default c = λ again go. c.in_default.ensures.none c.args.table.now (step again go c.args.table.now c.args.targets.now c.args.default c.args.position)

pub returns-in_ok-next-in-Entry : goal.returns-in_ok-next-in-Entry
returns-in_ok-next-in-Entry c = λ again go.
    let cs = c.args.table.now in
    let i = c.args.position in
    outcome_taken cs c.args.self.now c.next_outcome.new.self (step again go cs c.args.targets.now c.args.default i) _ _ c.in-Some.ensures.some c.in-Entry.is
    ∙ (c.in_ok-executed-in-Entry.ensures cs (M.branch again go (M.target c.args.targets.now c.args.default c.in-Entry.k))
    ∙ (ap (λ n. continued_run cs c.executed.new.self (M.branch again go n)) (sym c.target.ensures) ∙ c.in_ok-next-in-Entry.ensures again go))

pub returns-in-Go : goal.returns-in-Go
returns-in-Go c = λ again go.
    let cs = c.args.table.now in
    let i = c.args.position in
    elim c.in-Go.is [
      | inl e ↦ outcome_taken cs c.args.self.now c.next_outcome.new.self (step again go cs c.args.targets.now c.args.default i) _ _ c.in-Some.ensures.some e
      | inr (inl e) ↦ outcome_taken cs c.args.self.now c.next_outcome.new.self (step again go cs c.args.targets.now c.args.default i) _ _ c.in-Some.ensures.some e
      | inr (inr (inl e)) ↦ outcome_taken cs c.args.self.now c.next_outcome.new.self (step again go cs c.args.targets.now c.args.default i) _ _ c.in-Some.ensures.some e.1
      | inr (inr (inr e)) ↦ outcome_taken cs c.args.self.now c.next_outcome.new.self (step again go cs c.args.targets.now c.args.default i) _ _ c.in-Some.ensures.some e.1
    ]
