use Rattle.std.proofs.Common.{Some, cond, sym, ap, ◌∙◌}
use Rattle.std.specs.Prelude.{nat_eq, unwrap_or}
use Rattle.std.specs.Cmp.Lexicographic.{pointwise}
use Rattle.wasm_context.specs.Declarations.{at_key, listed_keys}
use Rattle.wasm_context.proofs.KeyPlaces.{at_key-insert, takes-kept, takes-put}
use Rattle.wasm_context.proofs.definitions.Places.place.Goals as goal

pub returns-in-Some-clause-place : goal.returns-in-Some-clause-place
returns-in-Some-clause-place c =
    sym (ap (λ o. unwrap_or o c.args.next) (ap (at_key c.args.self.now) (sym c.as_slice.ensures.value) ∙ sym c.get.ensures ∙ c.in-Some.is))

pub returns-in-Some-clause-adds : goal.returns-in-Some-clause-adds
returns-in-Some-clause-adds c =
    takes-kept c.args.self.now c.args.key.items c.in-Some.place c.args.next
    (ap (at_key c.args.self.now) (sym c.as_slice.ensures.value) ∙ sym c.get.ensures ∙ c.in-Some.is)

pub returns-in_ok-insert-in-None-clause-adds : goal.returns-in_ok-insert-in-None-clause-adds
returns-in_ok-insert-in-None-clause-adds c =
    takes-put c.args.self.now _ c.args.key.items c.args.next
    (ap (at_key c.args.self.now) (sym c.as_slice.ensures.value) ∙ sym c.get.ensures ∙ c.in-None.is)
    (λ other.
    ap (λ es. at_key (listed_keys es) other) c.in_ok-insert-in-None.ensures.entries
    ∙ (at_key-insert c.args.key c.args.next c.self.inside.by_key.entries other
    ∙ (λ i. cond (pointwise nat_eq other c.args.key.items) (Some c.args.next) (at_key (c.self.view_is i) other))))
