use Rattle.std.proofs.Common.{rules, sym, ◌∙◌, arith}
use Rattle.std.specs.List.Sorted.{IsPartitionPoint}
use Rattle.std.proofs.lemmas.List.Sorted.{IsPartitionPoint-from_clause, IsPartitionedBy-leb}
use lib.Dec.{leb}
use Rattle.wasm_locals.specs.declared.run.LocalRun.{LocalRun}
use Rattle.wasm_locals.specs.Runs.{end_of_runs}
use Rattle.wasm_locals.proofs.Runs.{type_of_local, type_in_first}
use Rattle.wasm_locals.proofs.types.declared_type.Goals as goal

pub returns : goal.returns
returns c =
    let runs = c.args.runs.now in
    let number = c.args.number in
    let place = c.partition_point-place.result in
    let point = IsPartitionPoint-from_clause (λ (r : LocalRun). leb r.end number) runs place c.partition_point-place.ensures.partitioned
    (IsPartitionedBy-leb end_of_runs runs number c.requires) (λ a r f k. search rules) in
    c.type_at.ensures ∙ sym (type_of_local runs c.requires number place point)

pub returns-then-number-first : goal.returns-then-number-first
returns-then-number-first c = type_in_first c.args.runs.now _ c.args.number (omega (arith, c.in-len1-up.len_at_least)) c.if-number-first.true
