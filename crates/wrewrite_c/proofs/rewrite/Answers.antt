use Rattle.std.proofs.Common.{◌≡◌, ℕ, List, ◌++◌, refl, sym, ap, subst, ◌∙◌}
use Rattle.wasm_module.specs.RewrittenCode.{IsRewrittenWith}
use Rattle.wrewrite_c.specs.Made.{IsMadeOf}
use Rattle.wrewrite_c.specs.Outcomes.{made, stopped}
use Rattle.wrewrite_c.proofs.rewrite.Goals as goal

pub returns-in-Ok : goal.returns-in-Ok
returns-in-Ok c =
    let new = c.rewrite.new.made in
    let w = c.in-Ok.ensures.written in
    let lines : new.lines.items ≡ w.0 = w.1 ∙ ap (λ (l : List ℕ). l ++ w.0) c.new-made.ensures.lines in
    made new.bytes.items new.lines.items (subst (λ (l : List ℕ). IsMadeOf IsRewrittenWith c.args.source.now c.args.wanted new.bytes.items l) (sym lines) w.2) c.deliver.ensures

pub returns : goal.returns
returns c = stopped c.in-Err.stop c.in-Err.ensures.stops c.of_stop.ensures.stopped c.of_stop.ensures.sizes refl refl
