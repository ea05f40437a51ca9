use Rattle.std.proofs.Common.{rules, suc, ◌≡◌, drop, ◌+◌, ◌≤◌, length, true, false, ltb, sym, ap, ◌∙◌, arith}
use Rattle.std.specs.List.Sorted.{IsPartitionPoint}
use Rattle.std.proofs.lemmas.List.{drop_all}
use Rattle.std.proofs.lemmas.Bool.{ltb-false}
use Rattle.code_moves.specs.declared.run.Run.{Run}
use Rattle.code_moves.specs.Moves.{ends_written}
use Rattle.code_moves.proofs.Bisection.{point_before, others_from, fails_at}
use Rattle.code_moves.proofs.RunSearch.{ends_rise, ends_written_passes, ends_written_first}
use Rattle.code_moves.proofs.body.Body.ends_written.Goals as goal
use Rattle.code_moves.proofs.body.Body.ends_written.Goals.{After-partition_point-index}

-- the runs that end before the address are those up to the index
point : (c : After-partition_point-index) → IsPartitionPoint (λ (r : Run). ltb r.end c.args.address ≡ true) (λ (r : Run). ltb r.end c.args.address ≡ false) c.args.self.now.runs.items c.partition_point-index.result
point c =
    let b = c.args.self.now in
    point_before (λ (r : Run). r.end) c.args.address c.deref.result.now b.runs.items c.partition_point-index.result c.deref.ensures.value
    (ends_rise (suc b.begin) (suc b.new_begin) b.runs.items b.end b.new_end b.are_runs) c.partition_point-index.ensures.partitioned (λ a r f k. search rules)

-- they don't matter
passed : (c : After-partition_point-index) → ends_written c.args.self.now.runs.items c.args.address ≡ ends_written (drop c.partition_point-index.result c.args.self.now.runs.items) c.args.address
passed c =
    let b = c.args.self.now in
    ends_written_passes (suc b.begin) (suc b.new_begin) b.runs.items b.end b.new_end b.are_runs c.args.address c.partition_point-index.result (point c).0

pub returns-in-Some : goal.returns-in-Some
returns-in-Some c =
    let rs = c.args.self.now.runs.items in
    let index = c.partition_point-index.result in
    let a = c.args.address in
    let r = c.in-Some.run'.now in
    let found = c.in-Some.ensures.lookup in
    let at = (goal.at.returns-in-Some c).After-partition_point-index in
    let after = ltb-false r.end a (fails_at (λ (r : Run). ltb r.end a ≡ false) c.deref-2.result.now rs index r c.deref-2.ensures.value found.3.0 found.1 (point at).1) in
    ap (λ old. ltb old a) c.from.ensures ∙ ends_written_first r (drop (index + 1) rs) a after
    ∙ sym (passed at ∙ ap (λ ts. ends_written ts a) (others_from c.deref-2.result.now rs index r c.deref-2.ensures.value found.3.0 found.1))

pub returns-in-None : goal.returns-in-None
returns-in-None c =
    let rs = c.args.self.now.runs.items in
    let few : length rs ≤ c.partition_point-index.result = search (arith, rules) in
    sym (passed (goal.at.returns-in-None c).After-partition_point-index
    ∙ ap (λ ts. ends_written ts c.args.address) (drop_all c.partition_point-index.result rs few))
