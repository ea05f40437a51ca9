use Rattle.std.proofs.Common.{rules, sym, ap, subst, ◌∙◌}
use Rattle.std.specs.Prelude.{slice_get}
use Rattle.std.specs.Option.{option_map}
use Rattle.std.specs.List.Sorted.{IsPartitionPoint, IsNonDecreasingBy}
use Rattle.std.proofs.lemmas.List.Sorted.{IsPartitionPoint-from_clause, IsPartitionedBy-leb}
use lib.Dec.{leb}
use Rattle.walrus_ir.specs.declared.module_locals.LocalRun.{LocalRun}
use Rattle.walrus_ir.proofs.LocalRuns.{ends_ascend, type_of_local, EndsBy, EndsAfter}
use Rattle.walrus_ir.proofs.module_locals.ModuleLocals.get.Goals as goal

pub returns : goal.returns
returns c =
    let inside = c.self.inside in
    let index = c.index-index.result in
    let place = c.partition_point-place.result in
    let runs = c.deref.result.now in
    let ascend = subst (λ rs. IsNonDecreasingBy (λ (r : LocalRun). r.end) rs) (sym c.deref.ensures.value) (ends_ascend 0 inside.runs.items inside.count c.self.invariant) in
    let point = IsPartitionPoint-from_clause (λ (r : LocalRun). leb r.end index) runs place c.partition_point-place.ensures.partitioned
    (IsPartitionedBy-leb (λ (r : LocalRun). r.end) runs index ascend) (λ a r f k. search rules) in
    let at = subst (λ rs. IsPartitionPoint (EndsBy index) (EndsAfter index) rs place) c.deref.ensures.value point in
    c.type_at.ensures
    ∙ (ap (λ rs. option_map (λ (r : LocalRun). r.ty) (slice_get rs place)) c.deref-2.ensures.value
    ∙ (sym (type_of_local inside.runs.items inside.count c.self.invariant index place at)
    ∙ (λ i. slice_get (c.self.view_is i) (c.index-index.ensures i))))
