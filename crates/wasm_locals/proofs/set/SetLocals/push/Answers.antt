use Rattle.std.proofs.Common.{◌≡◌, ◌++◌, ◌∷◌, [], length, set, sym, ap, subst, ◌∙◌, arith, rules}
use Rattle.wasm_typing.specs.Contexts.{contains}
use Rattle.wasm_locals.specs.Places.{Lead}
use Rattle.wasm_locals.proofs.Places.{leads-push}
use Rattle.wasm_locals.proofs.set.SetLocals.push.Goals as goal

pub invariant_of-self : goal.invariant_of-self
invariant_of-self c = λ k n at. c.make_room.ensures.keeps n k (c.self.invariant k n at)

pub invariant_of-self-in_err-push : goal.invariant_of-self-in_err-push
invariant_of-self-in_err-push c =
    subst (Lead c.make_room.new.places.items) (sym c.in_err-push.ensures.items) (λ k n at. c.make_room.ensures.keeps n k (c.self.invariant k n at))

pub invariant_of-self-2 : goal.invariant_of-self-2
invariant_of-self-2 c =
    let inside = c.self.inside in
    let xs = inside.list.items in
    let more = c.make_room.new.places.items in
    let n = c.args.number in
    let placed : c.in-Ok.place ≡ length xs = search rules in
    subst (Lead (set more n c.in-Ok.place)) (sym c.in_ok-push.ensures.items)
    (subst (λ place. Lead (set more n place) (xs ++ n ∷ [])) (sym placed)
    (leads-push inside.places.items more xs n c.self.invariant c.make_room.ensures.keeps (omega (arith, c.in_ok-make_room.ensures.room, c.make_room.new.places.ok.0)) (ap (contains n) c.self.view_is ∙ c.requires)))
