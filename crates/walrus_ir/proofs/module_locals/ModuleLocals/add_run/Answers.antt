use Rattle.std.proofs.Common.{◌≡◌, ◌-◌, ◌++◌, length, replicate, sym, ap, subst, ◌∙◌, arith}
use Rattle.walrus_ir.specs.declared.module_locals.LocalRun.{LocalRun}
use Rattle.walrus_ir.specs.LocalRuns.{types_from, LeadTo}
use Rattle.walrus_ir.proofs.LocalRuns.{count-types_from, types_from-push, leads_to-push}
use Rattle.walrus_ir.proofs.module_locals.ModuleLocals.add_run.Goals as goal

pub invariant_of-self-2 : goal.invariant_of-self-2
invariant_of-self-2 c =
    let inside = c.self.inside in
    let run : LocalRun = record { ty = c.args.ty; end = c.in-Some.end } in
    let sum = c.in-Some.ensures in
    subst (λ rs. LeadTo 0 rs c.in-Some.end) (sym c.in_ok-push.ensures.items) (leads_to-push 0 inside.runs.items inside.count run c.self.invariant (omega arith))

pub returns-clause-id : goal.returns-clause-id
returns-clause-id c =
    let counted = count-types_from 0 c.self.inside.runs.items c.self.inside.count c.self.invariant in
    let seen = ap length c.self.view_is in
    omega arith

pub returns-clause-ok : goal.returns-clause-ok
returns-clause-ok c =
    let inside = c.self.inside in
    let run : LocalRun = record { ty = c.args.ty; end = c.in-Some.end } in
    let sum = c.in-Some.ensures in
    let more : c.in-Some.end - inside.count ≡ c.args.count = omega arith in
    ap (types_from 0) c.in_ok-push.ensures.items
    ∙ (types_from-push 0 inside.runs.items inside.count run c.self.invariant
    ∙ (λ i. c.self.view_is i ++ replicate (more i) c.args.ty))
