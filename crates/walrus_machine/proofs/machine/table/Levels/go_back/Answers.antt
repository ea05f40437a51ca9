use Rattle.std.proofs.Common.{◌≡◌, ◌+◌, ◌∷◌, List, ap, inl, inr, reverse, subst, sym, ◌∙◌}
use Rattle.wasm_body.specs.Machine.{control_shape}
use Rattle.walrus_machine.specs.Controls.{control_meaning}
use Rattle.walrus_machine.specs.declared.machine.control.Control.{Control}
use Rattle.walrus_machine.specs.declared.machine.table.Ahead.{Ahead}
use Rattle.walrus_machine.proofs.Tables.{popped, pushed, ListAhead, others_listed, opener_listed, closer_listed, part_listed}
use Rattle.walrus_machine.proofs.machine.table.Levels.go_back.Goals as goal

shape_at : {x y : Control} → x ≡ y → control_shape (control_meaning y) ≡ control_shape (control_meaning x)
shape_at e = ap (λ (x : Control). control_shape (control_meaning x)) (sym e)

pub returns-in-Does-clause-levels : goal.returns-in-Does-clause-levels
returns-in-Does-clause-levels c = λ cs at. others_listed cs c.args.position _ at (shape_at c.in-Does.is) c.args.self.now

pub returns-in-Opens-clause-levels : goal.returns-in-Opens-clause-levels
returns-in-Opens-clause-levels c = λ cs at all_ahead.
    let l = c.args.self.now in
    let left = popped _ l.levels.items c.pop.new.self.items l.levels.ok.0 c.pop.ensures.rest in
    let P : List Ahead → Type 0 = λ ls. ListAhead cs c.args.position _ at c.args.position l.end ls in
    subst P (sym left) (opener_listed cs c.args.position _ at (shape_at c.in-Opens.is) l.end (reverse l.levels.items) all_ahead)

pub returns-in_ok-push-in-End-clause-levels : goal.returns-in_ok-push-in-End-clause-levels
returns-in_ok-push-in-End-clause-levels c = λ cs at all_ahead.
    let l = c.args.self.now in
    let i = c.args.position in
    let left = pushed l.levels.items c.push.new.self.items (record { part = i; following = i + 1 }) c.in_ok-push-in-End.ensures.items in
    let P : List Ahead → Type 0 = λ ls. ListAhead cs i _ at i l.end ls in
    subst P (sym left) (closer_listed cs i _ at (elim c.in-End.is [ inl e ↦ shape_at e | inr e ↦ shape_at e.1 ]) l.end (reverse l.levels.items) all_ahead)

pub returns-in_ok-push-in-Else-clause-levels : goal.returns-in_ok-push-in-Else-clause-levels
returns-in_ok-push-in-Else-clause-levels c = λ cs at all_ahead.
    let l = c.args.self.now in
    let i = c.args.position in
    let a : Ahead = record { part = i; following = c.innermost-following.result.following } in
    let left = pushed c.pop-in-Else.new.self.items c.push-in-Else.new.self.items a c.in_ok-push-in-Else.ensures.items
    ∙ ap (λ ls. a ∷ ls) (popped _ l.levels.items c.pop-in-Else.new.self.items l.levels.ok.0 c.pop-in-Else.ensures.rest) in
    let P : List Ahead → Type 0 = λ ls. ListAhead cs i _ at i l.end ls in
    subst P (sym left) (part_listed cs i _ at (elim c.in-Else.is [ inl e ↦ shape_at e | inr (inl e) ↦ shape_at e.1 | inr (inr e) ↦ shape_at e ]) l.end (reverse l.levels.items) c.innermost-following.result (c.innermost-following.ensures cs (i + 1) all_ahead) all_ahead)
