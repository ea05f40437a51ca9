use Rattle.std.proofs.Common.{rules, refl}
use Rattle.std.proofs.lemmas.Bool.{ltb-true, ltb-false}
use Rattle.code_moves.proofs.Bisection.{point_before}
use Rattle.dwarf_info.specs.declared.moved.CodeRange.{CodeRange}
use Rattle.dwarf.proofs.address_ranges.first_from.Goals as goal

pub returns-clause-before : goal.returns-clause-before
returns-clause-before c =
    let code = c.args.code.now in
    let point = point_before (λ (r : CodeRange). r.begin) c.args.begin code code c.partition_point.result refl c.requires c.partition_point.ensures.partitioned (λ a r f k. search rules) in
    λ k d low high. ltb-true _ _ (point.0 k d low high)

pub returns-clause-others : goal.returns-clause-others
returns-clause-others c =
    let code = c.args.code.now in
    let point = point_before (λ (r : CodeRange). r.begin) c.args.begin code code c.partition_point.result refl c.requires c.partition_point.ensures.partitioned (λ a r f k. search rules) in
    λ k d low high. ltb-false _ _ (point.1 k d low high)
