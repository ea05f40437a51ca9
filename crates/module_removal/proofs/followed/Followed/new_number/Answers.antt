use Rattle.std.proofs.Common.{◌≡◌, ◌<◌, ◌≤◌, false, Option, Some, None, MatchOption, List, length, get_or, ap, subst, ◌∙◌, arith}
use Rattle.std.proofs.lemmas.Bool.Decides.{nat_tests}
use Rattle.module_removal.specs.declared.followed.Part.{Part}
use Rattle.module_removal.proofs.FollowedLemmas.{part_same, number_found, no_number_at, no_number_past}
use Rattle.module_removal.proofs.followed.Followed.new_number.Goals as goal

where_none : {X P : Type 0} (Q : X → Type 0) (o : Option X) → o ≡ None → MatchOption o P Q → P
where_none Q None e h = h
where_none Q (Some x) e h = absurd cc

pub returns-in-Some : goal.returns-in-Some
returns-in-Some c = λ order.
    let parts = c.args.self.now.parts.items in
    let part = c.in-Some.part.now in
    let found = c.in-Some.ensures.lookup in
    let at = found.1 ∙ ap (λ (l : List Part). get_or l c.first_from.result part) c.deref.ensures.value in
    let within = subst (λ (l : List Part). c.first_from.result < length l) c.deref.ensures.value found.3.0 in
    number_found parts order c.args.func c.args.old c.first_from.result (c.first_from.ensures order) part within at c.if-part-func.true c.if-part-old.true

pub returns-in_default : goal.returns-in_default
returns-in_default c = λ order.
    let parts = c.args.self.now.parts.items in
    let part = c.in-Some.part.now in
    let found = c.in-Some.ensures.lookup in
    let at = found.1 ∙ ap (λ (l : List Part). get_or l c.first_from.result part) c.deref.ensures.value in
    let within = subst (λ (l : List Part). c.first_from.result < length l) c.deref.ensures.value found.3.0 in
    let other : part_same c.args.func c.args.old part ≡ false = grind (arith, nat_tests, c.if-part-old.false) in
    no_number_at parts order c.args.func c.args.old c.first_from.result (c.first_from.ensures order) part within at other

pub returns-in_default-2 : goal.returns-in_default-2
returns-in_default-2 c = λ order.
    let parts = c.args.self.now.parts.items in
    let part = c.in-Some.part.now in
    let found = c.in-Some.ensures.lookup in
    let at = found.1 ∙ ap (λ (l : List Part). get_or l c.first_from.result part) c.deref.ensures.value in
    let within = subst (λ (l : List Part). c.first_from.result < length l) c.deref.ensures.value found.3.0 in
    let other : part_same c.args.func c.args.old part ≡ false = grind (arith, nat_tests, c.if-part-func.false) in
    no_number_at parts order c.args.func c.args.old c.first_from.result (c.first_from.ensures order) part within at other

pub returns-in_default-3 : goal.returns-in_default-3
returns-in_default-3 c = λ order.
    let parts = c.args.self.now.parts.items in
    let past : length c.deref.result.now ≤ c.first_from.result = where_none _ c.get.result c.in_default.is c.get.ensures.lookup.3 in
    no_number_past parts order c.args.func c.args.old c.first_from.result (c.first_from.ensures order)
    (subst (λ (l : List Part). length l ≤ c.first_from.result) c.deref.ensures.value past)
