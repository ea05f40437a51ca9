use Rattle.std.proofs.Common.{rules, suc, ◌≡◌, drop, ◌+◌, ◌<◌, ◌≤◌, ◌∷◌, length, true, false, sym, ap, ◌∙◌, arith}
use Rattle.std.specs.Prelude.{min}
use Rattle.std.specs.List.Sorted.{IsPartitionPoint}
use Rattle.std.proofs.lemmas.List.{drop_all}
use Rattle.std.proofs.lemmas.Bool.{leb-false}
use lib.Dec.{leb}
use Rattle.code_moves.specs.declared.run.Run.{Run}
use Rattle.code_moves.specs.Moves.{new_place}
use Rattle.code_moves.proofs.Bisection.{point_until, others_from, fails_at}
use Rattle.code_moves.proofs.RunSearch.{ends_rise, place_passes, place_before, place_in}
use Rattle.code_moves.proofs.body.Body.place.Goals as goal
use Rattle.code_moves.proofs.body.Body.place.Goals.{After-partition_point-index, In-Some}

-- the runs that end at or before the address are those up to the index
point : (c : After-partition_point-index) → IsPartitionPoint (λ (r : Run). leb r.end c.args.address ≡ true) (λ (r : Run). leb r.end c.args.address ≡ false) c.args.self.now.runs.items c.partition_point-index.result
point c =
    let b = c.args.self.now in
    point_until (λ (r : Run). r.end) c.args.address c.deref.result.now b.runs.items c.partition_point-index.result c.deref.ensures.value
    (ends_rise (suc b.begin) (suc b.new_begin) b.runs.items b.end b.new_end b.are_runs) c.partition_point-index.ensures.partitioned (λ a r f k. search rules)

-- they don't matter
passed : (c : After-partition_point-index) → new_place c.args.self.now.runs.items c.args.self.now.new_end c.args.address
    ≡ new_place (drop c.partition_point-index.result c.args.self.now.runs.items) c.args.self.now.new_end c.args.address
passed c =
    let b = c.args.self.now in
    place_passes (suc b.begin) (suc b.new_begin) b.runs.items b.end b.new_end b.are_runs c.args.address c.partition_point-index.result (point c).0

-- the run at the index is the first of the others
at_run : (c : In-Some) → new_place c.args.self.now.runs.items c.args.self.now.new_end c.args.address
    ≡ new_place (c.in-Some.run'.now ∷ drop (c.partition_point-index.result + 1) c.args.self.now.runs.items) c.args.self.now.new_end c.args.address
at_run c =
    let found = c.in-Some.ensures.lookup in
    passed (goal.at.In-Some c).After-partition_point-index ∙ ap (λ rs. new_place rs c.args.self.now.new_end c.args.address)
    (others_from c.deref-2.result.now c.args.self.now.runs.items c.partition_point-index.result c.in-Some.run'.now c.deref-2.ensures.value found.3.0 found.1)

-- and ends after the address
ends_after : (c : In-Some) → c.args.address < c.in-Some.run'.now.end
ends_after c =
    let found = c.in-Some.ensures.lookup in
    leb-false c.in-Some.run'.now.end c.args.address (fails_at (λ (r : Run). leb r.end c.args.address ≡ false) c.deref-2.result.now c.args.self.now.runs.items c.partition_point-index.result c.in-Some.run'.now
    c.deref-2.ensures.value found.3.0 found.1 (point (goal.at.In-Some c).After-partition_point-index).1)

pub returns-in_default : goal.returns-in_default
returns-in_default c =
    let rs = c.args.self.now.runs.items in
    let few : length rs ≤ c.partition_point-index.result = search (arith, rules) in
    c.from.ensures ∙ sym (passed (goal.at.returns-in_default c).After-partition_point-index
    ∙ ap (λ ts. new_place ts c.args.self.now.new_end c.args.address) (drop_all c.partition_point-index.result rs few))

pub returns-then-address-run : goal.returns-then-address-run
returns-then-address-run c =
    let rest = drop (c.partition_point-index.result + 1) c.args.self.now.runs.items in
    let before : c.args.address ≤ c.in-Some.run'.now.old = omega arith in
    c.from-then-address-run.ensures
    ∙ sym (at_run (goal.at.returns-then-address-run c).In-Some ∙ place_before c.in-Some.run'.now rest c.args.self.now.new_end c.args.address before)

pub returns : goal.returns
returns c =
    let after = ends_after (goal.at.returns c).In-Some in
    let before : c.in-Some.run'.now.old < c.args.address = omega arith in
    let rest = drop (c.partition_point-index.result + 1) c.args.self.now.runs.items in
    c.min.ensures ∙ (λ i. min (c.from-2.ensures i + c.from-3.ensures i) (c.gap_from.ensures i))
    ∙ sym (at_run (goal.at.returns c).In-Some ∙ place_in c.in-Some.run'.now rest c.args.self.now.new_end c.args.address before after)
