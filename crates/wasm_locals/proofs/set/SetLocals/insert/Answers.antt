use Rattle.std.proofs.Common.{◌≡◌, true, false, sym, subst, ◌∙◌, OnOk}
use Rattle.wasm_locals.proofs.Places.{set_local}
use Rattle.wasm_locals.proofs.set.SetLocals.insert.Goals as goal

pub returns-then-contains : goal.returns-then-contains
returns-then-contains c = sym (set_local c.args.number c.args.self.now true (sym c.contains.ensures ∙ c.if-contains.true))

pub returns : goal.returns
returns c =
    subst (λ ls. OnOk c.push.result (c.push.new.self ≡ ls)) (sym (set_local c.args.number c.args.self.now false (sym c.contains.ensures ∙ c.if-contains.false)))
    c.push.ensures
