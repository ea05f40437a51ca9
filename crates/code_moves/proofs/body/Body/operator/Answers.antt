use Rattle.std.proofs.Common.{rules, suc, ◌≡◌, drop, ◌+◌, ◌-◌, ◌<◌, ◌≤◌, ◌∷◌, length, true, false, sym, ap, ◌∙◌, arith}
use Rattle.std.specs.List.Sorted.{IsPartitionPoint}
use Rattle.std.proofs.lemmas.List.{drop_all}
use Rattle.std.proofs.lemmas.Bool.{leb-false}
use lib.Dec.{leb}
use Rattle.code_moves.specs.declared.run.Run.{Run}
use Rattle.code_moves.specs.Moves.{operator_place, own_before}
use Rattle.code_moves.proofs.Bisection.{point_until, others_from, fails_at}
use Rattle.code_moves.proofs.RunSearch.{ends_rise, operator_passes, operator_before, operator_in}
use Rattle.code_moves.proofs.body.Body.operator.Goals as goal
use Rattle.code_moves.proofs.body.Body.operator.Goals.{After-partition_point-index, In_ok-run}

-- the runs that end at or before the address are those up to the index
point : (c : After-partition_point-index) → IsPartitionPoint (λ (r : Run). leb r.end c.args.address ≡ true) (λ (r : Run). leb r.end c.args.address ≡ false) c.args.self.now.runs.items c.partition_point-index.result
point c =
    let b = c.args.self.now in
    point_until (λ (r : Run). r.end) c.args.address c.deref.result.now b.runs.items c.partition_point-index.result c.deref.ensures.value
    (ends_rise (suc b.begin) (suc b.new_begin) b.runs.items b.end b.new_end b.are_runs) c.partition_point-index.ensures.partitioned (λ a r f k. search rules)

-- they don't matter
passed : (c : After-partition_point-index) → operator_place c.args.self.now.runs.items c.args.self.now.new_end c.args.address
    ≡ operator_place (drop c.partition_point-index.result c.args.self.now.runs.items) c.args.self.now.new_end c.args.address
passed c =
    let b = c.args.self.now in
    operator_passes (suc b.begin) (suc b.new_begin) b.runs.items b.end b.new_end b.are_runs c.args.address c.partition_point-index.result (point c).0

-- the run at the index is the first of the others
at_run : (c : In_ok-run) → operator_place c.args.self.now.runs.items c.args.self.now.new_end c.args.address
    ≡ operator_place (c.in_ok-run.run'.now ∷ drop (c.partition_point-index.result + 1) c.args.self.now.runs.items) c.args.self.now.new_end c.args.address
at_run c =
    let found = c.in_ok-run.ensures.lookup in
    passed (goal.at.In_ok-run c).After-partition_point-index ∙ ap (λ rs. operator_place rs c.args.self.now.new_end c.args.address)
    (others_from c.deref-2.result.now c.args.self.now.runs.items c.partition_point-index.result c.in_ok-run.run'.now c.deref-2.ensures.value found.3.0 found.1)

-- and ends after the address
ends_after : (c : In_ok-run) → c.args.address < c.in_ok-run.run'.now.end
ends_after c =
    let found = c.in_ok-run.ensures.lookup in
    leb-false c.in_ok-run.run'.now.end c.args.address (fails_at (λ (r : Run). leb r.end c.args.address ≡ false) c.deref-2.result.now c.args.self.now.runs.items c.partition_point-index.result c.in_ok-run.run'.now
    c.deref-2.ensures.value found.3.0 found.1 (point (goal.at.In_ok-run c).After-partition_point-index).1)

pub returns-in_err-run : goal.returns-in_err-run
returns-in_err-run c =
    let rs = c.args.self.now.runs.items in
    let few : length rs ≤ c.partition_point-index.result = search (arith, rules) in
    c.from_residual.ensures ∙ sym (passed (goal.at.returns-in_err-run c).After-partition_point-index
    ∙ ap (λ ts. operator_place ts c.args.self.now.new_end c.args.address) (drop_all c.partition_point-index.result rs few))

pub returns-then-address-old : goal.returns-then-address-old
returns-then-address-old c =
    let rest = drop (c.partition_point-index.result + 1) c.args.self.now.runs.items in
    let after = ends_after (goal.at.returns-then-address-old c).In_ok-run in
    let before : c.args.address < c.in_ok-run.run'.now.old = omega arith in
    sym (at_run (goal.at.returns-then-address-old c).In_ok-run ∙ operator_before c.in_ok-run.run'.now rest c.args.self.now.new_end c.args.address before)

pub overflow_add-own : goal.overflow_add-own
overflow_add-own c =
    let after = ends_after (goal.at.overflow_add-own c).In_ok-run in
    omega arith

pub returns : goal.returns
returns c =
    let after = ends_after (goal.at.returns c).In_ok-run in
    let from : c.in_ok-run.run'.now.old ≤ c.args.address = omega arith in
    let rest = drop (c.partition_point-index.result + 1) c.args.self.now.runs.items in
    c.then_some.ensures ∙ (λ i. own_before (c.gap_from.ensures i) (c.from.ensures i + (c.args.address - c.from-old.ensures i)))
    ∙ sym (at_run (goal.at.returns c).In_ok-run ∙ operator_in c.in_ok-run.run'.now rest c.args.self.now.new_end c.args.address from after)
