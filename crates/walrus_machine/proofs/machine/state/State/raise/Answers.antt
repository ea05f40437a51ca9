use Rattle.std.proofs.Common.{rules, ◌≡◌, ℕ, ◌∷◌, List, ap, sym, ◌∙◌}
use Rattle.std.proofs.lemmas.List.Elements.{same_from_all_zip}
use Rattle.wasm_body.specs.Control as C
use Rattle.wasm_body.specs.Machine as M
use Rattle.walrus_machine.specs.declared.machine.label.Label.{Label}
use Rattle.walrus_machine.specs.declared.machine.state.State.{State}
use Rattle.walrus_machine.specs.Tables.{place_from}
use Rattle.walrus_machine.specs.Tracing.{label_of, continued_run}
use Rattle.walrus_machine.proofs.Tracing.{same_on, inner_raise}
use Rattle.walrus_machine.proofs.machine.state.State.raise.Goals as goal

-- how the run continues with the response of the label's construct
responded : (again go : M.From ℕ) (cs : List C.Control) (tags : M.Tags) (l : Label) (s : State) {x y : M.Response ℕ} → x ≡ y →
    continued_run cs s (λ ls o. M.react again go (M.raise again go tags ls o) tags (label_of cs l) ls o y) ≡ continued_run cs s (λ ls o. M.react again go (M.raise again go tags ls o) tags (label_of cs l) ls o x)
responded again go cs tags l s e = ap (λ r. continued_run cs s (λ ls o. M.react again go (M.raise again go tags ls o) tags (label_of cs l) ls o r)) (sym e)

pub labels-preserved-in-Passes : goal.labels-preserved-in-Passes
labels-preserved-in-Passes c = λ again go.
    let cs = c.args.table.now in
    let tags = c.args.tags.now.keys in
    c.labels.invariant again go
    ∙ (c.in-Some.ensures.some cs (λ ls o. M.raise again go tags ls o 0) ∙ responded again go cs tags c.in-Some.label c.leave_label.new.self c.in-Passes.ensures)

pub labels-preserved : goal.labels-preserved
labels-preserved c = λ again go.
    let cs = c.args.table.now in
    let tags = c.args.tags.now.keys in
    c.labels.invariant again go
    ∙ (c.in-Some.ensures.some cs (λ ls o. M.raise again go tags ls o 0)
    ∙ (responded again go cs tags c.in-Some.label c.leave_label.new.self c.in-Hands.ensures
    ∙ (same_on cs c.leave_label.new.self _ _ (inner_raise again go tags c.in-Hands.n)
    ∙ c.close.ensures.closed cs (λ ls o. M.raise again go tags ls o 0))))

pub returns-in-Jumps : goal.returns-in-Jumps
returns-in-Jumps c = λ again go.
    let cs = c.args.table.now in
    let tags = c.args.tags.now.keys in
    c.labels.invariant again go
    ∙ (c.in-Some.ensures.some cs (λ ls o. M.raise again go tags ls o 0)
    ∙ (responded again go cs tags c.in-Some.label c.leave_label.new.self c.in-Jumps.ensures
    ∙ (c.in_ok-taken-in-Jumps.ensures cs (M.branch again go c.in-Jumps.n)
    ∙ c.in_ok-next-in-Jumps.ensures again go)))

pub returns-in-Enters : goal.returns-in-Enters
returns-in-Enters c = λ again go.
    let cs = c.args.table.now in
    let tags = c.args.tags.now.keys in
    let l = c.in-Some.label in
    let place = place_from cs c.in-Enters.place in
    c.labels.invariant again go
    ∙ (c.in-Some.ensures.some cs (λ ls o. M.raise again go tags ls o 0)
    ∙ (responded again go cs tags l c.leave_label.new.self c.in-Enters.ensures
    ∙ (c.in_ok-taken-in-Enters.ensures cs (λ ls o. go place (M.handler (label_of cs l) tags ∷ ls) o)
    ∙ (ap (λ h. continued_run cs c.taken-in-Enters.new.self (λ ls o. go place (h ∷ ls) o)) (sym (c.handler.ensures cs))
    ∙ c.in_ok-open-in-Enters.ensures cs (go place)))))

pub returns : goal.returns
returns c = λ again go.
    let cs = c.args.table.now in
    let tags = c.args.tags.now.keys in
    let same : tags ≡ c.in_ok-tags.tags.keys = sym (same_from_all_zip _ tags c.in_ok-tags.tags.keys c.in_ok-tags.ensures.cases (λ x y h. search rules)) in
    c.labels.invariant again go
    ∙ (c.in_default.ensures.none cs (λ ls o. M.raise again go tags ls o 0)
    ∙ ap (λ ts. continued_run cs c.leave_label.new.self (λ ls o. M.ends (M.Escaped ts))) same)
