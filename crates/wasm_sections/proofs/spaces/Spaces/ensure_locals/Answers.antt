use Rattle.std.proofs.Common.{ℕ, refl, ap, ◌∙◌, arith}
use Rattle.std.proofs.lemmas.Result.{err_from_is_err_and}
use Rattle.walrus_maps.specs.IndexMaps.{with_next_local}
use Rattle.wasm_sections.specs.Declarations.{first_numbers}
use Rattle.wasm_sections.proofs.SpaceLemmas.{others_same, others_kept, others_pushed, next_local, local_is_itself, out_of_memory}
use Rattle.wasm_sections.proofs.spaces.Spaces.ensure_locals.Goals as goal

pub locals-init : goal.locals-init
locals-init c = record { others = others_same c.args.self.now; reached = refl }

pub returns-in_err-push_local-clause-others : goal.returns-in_err-push_local-clause-others
returns-in_err-push_local-clause-others c = others_kept c.args.self.now c.locals.self _ c.locals.invariant.others c.in_err-push_local.ensures.err refl

pub invariant_of-self-in-locals : goal.invariant_of-self-in-locals
invariant_of-self-in-locals c =
    let at = c.locals.self in
    let here = at.local_ids ∙ ap first_numbers c.locals.invariant.reached in
    let pushed = c.in_ok-push_local.ensures.ok ∙ ap (λ (id : ℕ). with_next_local c.local_lists-lists.result id at.indices) c.new.ensures
    ∙ ap (λ (lists : ℕ). with_next_local lists c.locals.index at.indices) c.local_lists-lists.ensures in
    record { local_ids = next_local at.indices c.push_local.new.self c.locals.index here pushed }

pub locals-preserved : goal.locals-preserved
locals-preserved c = record {
  others = others_pushed c.args.self.now c.locals.self _ c.local_lists-lists.result c.new.result c.locals.invariant.others c.in_ok-push_local.ensures.ok refl;
  reached = refl;
}

pub returns-clause-ids : goal.returns-clause-ids
returns-clause-ids c = λ local h. local_is_itself c.locals.self.indices c.locals.self.locals local c.locals.self.local_ids (omega arith)

pub returns-in_err-push_local-clause-refused : goal.returns-in_err-push_local-clause-refused
returns-in_err-push_local-clause-refused c = λ few.
    let passed = err_from_is_err_and c.from_residual.result c.from_residual.ensures.1 in
    let at = c.locals.self in
    rw (passed.1, passed.2)
    (out_of_memory at.indices c.local_lists-lists.result at.locals c.args.count _ c.local_lists-lists.ensures at.local_ids (omega (arith, c.locals-test.true, c.locals.invariant.reached)) few
    c.in_err-push_local.ensures.growth)
