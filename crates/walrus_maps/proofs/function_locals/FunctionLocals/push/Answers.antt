use Rattle.std.proofs.Common.{◌≡◌, ap, ◌∙◌, [], ◌∷◌, Some, None, rules}
use Rattle.std.specs.FinMap.{get, insert, from_entries}
use Rattle.std.specs.Ordering.{nat_cmp}
use Rattle.std.proofs.lemmas.Result.{on_ok_weaker, on_err_weaker}
use Rattle.walrus_maps.proofs.EntryMaps.{get-entries, one_put, insert-same}
use Rattle.walrus_maps.proofs.function_locals.FunctionLocals.push.Goals as goal

-- the list of the function is the one that was found
there : (c : goal.After-self-in-Some-1) → get c.args.self.now c.args.function ≡ Some c.in-Some.list.now
there c =
    let found = get-entries c.self.inside.lists.entries c.args.function in
    grind (c.self.view_is, found, c.get_mut.ensures.value, c.in-Some.is, rules)

-- the list that grows is the function's list
written : (c : goal.After-self-in-Some-1) → from_entries {R = nat_cmp} (c.get_mut.follows.lender c.push.new.self).entries ≡ insert c.args.self.now c.args.function c.push.new.self
written c =
    let put = (c.get_mut.follows.holds c.push.new.self).3 (grind (c.get_mut.ensures.value, c.in-Some.is, rules)) in
    one_put c.self.inside.lists.entries _ c.args.function c.push.new.self put.0 ∙ ap (λ m. insert m c.args.function c.push.new.self) c.self.view_is

pub returns-in-Some-clause-index : goal.returns-in-Some-clause-index
returns-in-Some-clause-index c = rw (there c) c.push.ensures.index

pub returns-in-Some-clause-growth : goal.returns-in-Some-clause-growth
returns-in-Some-clause-growth c = rw (there c) c.push.ensures.growth

pub returns-in-Some-clause-ok : goal.returns-in-Some-clause-ok
returns-in-Some-clause-ok c = rw (there c) (on_ok_weaker c.push.result (λ pushed. written c ∙ ap (insert c.args.self.now c.args.function) pushed) c.push.ensures.ok)

pub returns-in-Some-clause-err : goal.returns-in-Some-clause-err
returns-in-Some-clause-err c =
    on_err_weaker c.push.result (λ same. written c ∙ ap (insert c.args.self.now c.args.function) same ∙ insert-same c.args.self.now c.args.function c.in-Some.list.now (there c)) c.push.ensures.err

-- the function has no list
missing : (c : goal.After-push_first) → get c.args.self.now c.args.function ≡ None
missing c =
    let found = get-entries c.self.inside.lists.entries c.args.function in
    grind (c.self.view_is, found, c.get_mut.ensures.value, c.in-None.is, rules)

pub returns-in-None-clause-index : goal.returns-in-None-clause-index
returns-in-None-clause-index c = rw (missing c) c.push_first.ensures.index

pub returns-in-None-clause-ok : goal.returns-in-None-clause-ok
returns-in-None-clause-ok c =
    let kept = ap (λ m. from_entries {R = nat_cmp} m.entries) c.get_mut.follows.holds-at-none ∙ c.self.view_is in
    rw (missing c) (on_ok_weaker c.push_first.result (λ pushed. pushed ∙ ap (λ m. insert m c.args.function (c.args.local ∷ [])) kept) c.push_first.ensures.ok)

pub returns-in-None-clause-growth : goal.returns-in-None-clause-growth
returns-in-None-clause-growth c = rw (missing c) c.push_first.ensures.growth
