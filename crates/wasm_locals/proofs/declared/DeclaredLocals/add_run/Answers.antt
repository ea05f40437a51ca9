use Rattle.std.proofs.Common.{◌≡◌, ◌-◌, ◌++◌, length, replicate, sym, ap, subst, ◌∙◌, arith}
use Rattle.wasm_locals.specs.declared.run.LocalRun.{LocalRun}
use Rattle.wasm_locals.specs.Runs.{types_of_runs, RunsLeadTo}
use Rattle.wasm_locals.proofs.Runs.{types_from-push, leads_to-push}
use Rattle.wasm_locals.proofs.declared.DeclaredLocals.add_run.Goals as goal

pub invariant_of-self-2 : goal.invariant_of-self-2
invariant_of-self-2 c =
    let inside = c.self.inside in
    let run : LocalRun = record { ty = c.args.ty; end = c.in-Some.end } in
    let sum = c.in-Some.ensures in
    subst (λ rs. RunsLeadTo 0 rs c.in-Some.end) (sym c.in_ok-push.ensures.items) (leads_to-push 0 inside.runs.items inside.count run c.self.invariant (omega arith))

pub returns-clause-ok : goal.returns-clause-ok
returns-clause-ok c =
    let inside = c.self.inside in
    let run : LocalRun = record { ty = c.args.ty; end = c.in-Some.end } in
    let sum = c.in-Some.ensures in
    let more : c.in-Some.end - inside.count ≡ c.args.count = omega arith in
    ap (types_of_runs 0) c.in_ok-push.ensures.items
    ∙ (types_from-push 0 inside.runs.items inside.count run c.self.invariant
    ∙ (λ i. c.self.view_is i ++ replicate (more i) c.args.ty))
