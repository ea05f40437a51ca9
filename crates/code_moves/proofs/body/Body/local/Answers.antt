use Rattle.std.proofs.Common.{rules, ◌≡◌, drop, ◌+◌, ◌<◌, ◌≤◌, ◌∷◌, length, true, false, ltb, sym, ap, ◌∙◌, arith}
use Rattle.std.specs.List.Sorted.{IsPartitionPoint}
use Rattle.std.proofs.lemmas.List.{drop_all}
use Rattle.std.proofs.lemmas.Bool.{le-ltb, ltb-false}
use Rattle.code_moves.specs.declared.body.LocalMove.{LocalMove}
use Rattle.code_moves.specs.Moves.{new_index, new_local_in}
use Rattle.code_moves.proofs.Bisection.{point_before, others_from, fails_at}
use Rattle.code_moves.proofs.LocalSearch.{indices_rise, index_of, index_passes, no_index_from}
use Rattle.code_moves.proofs.body.Body.local.Goals as goal
use Rattle.code_moves.proofs.body.Body.local.Goals.{After-partition_point-index, In-Some}

-- the locals before this one are those up to the index
point : (c : After-partition_point-index) → IsPartitionPoint (λ (m : LocalMove). ltb m.old c.args.local ≡ true) (λ (m : LocalMove). ltb m.old c.args.local ≡ false) c.args.self.now.locals.items c.partition_point-index.result
point c =
    let b = c.args.self.now in
    point_before (λ (m : LocalMove). m.old) c.args.local c.deref.result.now b.locals.items c.partition_point-index.result c.deref.ensures.value
    (indices_rise b.parameters b.locals.items b.are_locals) c.partition_point-index.ensures.partitioned (λ a r f k. search rules)

-- they don't matter, and it is no parameter
passed : (c : After-partition_point-index) → new_local_in c.args.self.now c.args.local ≡ new_index (drop c.partition_point-index.result c.args.self.now.locals.items) c.args.local
passed c =
    let b = c.args.self.now in
    rw (le-ltb c.args.local b.parameters (omega arith)) (index_passes b.locals.items c.args.local c.partition_point-index.result (point c).0)

-- the local at the index is the first of the others
others : (c : In-Some) → drop c.partition_point-index.result c.args.self.now.locals.items ≡ c.in-Some.step.now ∷ drop (c.partition_point-index.result + 1) c.args.self.now.locals.items
others c =
    let found = c.in-Some.ensures.lookup in
    others_from c.deref-2.result.now c.args.self.now.locals.items c.partition_point-index.result c.in-Some.step.now c.deref-2.ensures.value found.3.0 found.1

pub returns-in-Some : goal.returns-in-Some
returns-in-Some c =
    let is : c.in-Some.step.now.old ≡ c.args.local = omega arith in
    sym (passed (goal.at.returns-in-Some c).After-partition_point-index ∙ ap (λ ms. new_index ms c.args.local) (others (goal.at.returns-in-Some c).In-Some)
    ∙ index_of c.in-Some.step.now (drop (c.partition_point-index.result + 1) c.args.self.now.locals.items) c.args.local is)

pub returns-in_default : goal.returns-in_default
returns-in_default c =
    let b = c.args.self.now in
    let index = c.partition_point-index.result in
    let m = c.in-Some.step.now in
    let found = c.in-Some.ensures.lookup in
    let at = (goal.at.returns-in_default c).After-partition_point-index in
    let left = others (goal.at.returns-in_default c).In-Some in
    let le = ltb-false m.old c.args.local (fails_at (λ (k : LocalMove). ltb k.old c.args.local ≡ false) c.deref-2.result.now b.locals.items index m c.deref-2.ensures.value found.3.0 found.1 (point at).1) in
    let other = c.if-from-local.false in
    let before : c.args.local < m.old = omega arith in
    sym (passed at ∙ ap (λ ms. new_index ms c.args.local) left
    ∙ no_index_from b.parameters b.locals.items b.are_locals index m (drop (index + 1) b.locals.items) left c.args.local before)

pub returns-in_default-2 : goal.returns-in_default-2
returns-in_default-2 c =
    let ms = c.args.self.now.locals.items in
    let few : length ms ≤ c.partition_point-index.result = search (arith, rules) in
    sym (passed (goal.at.returns-in_default-2 c).After-partition_point-index
    ∙ ap (λ ts. new_index ts c.args.local) (drop_all c.partition_point-index.result ms few))
