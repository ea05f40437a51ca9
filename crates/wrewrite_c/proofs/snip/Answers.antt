use Rattle.std.proofs.Common.{◌≡◌, ℕ, List, ◌++◌, refl, sym, ap, subst, ◌∙◌}
use Rattle.wrewrite_c.specs.Made.{IsSnippedOf}
use Rattle.wrewrite_c.specs.Outcomes.{made, stopped}
use Rattle.wrewrite_c.proofs.snip.Goals as goal

pub returns-in-Ok : goal.returns-in-Ok
returns-in-Ok c =
    let new = c.snip.new.made in
    let w = c.in-Ok.ensures.written in
    let lines : new.lines.items ≡ w.0 = w.1 ∙ ap (λ (l : List ℕ). l ++ w.0) c.new-made.ensures.lines in
    made new.bytes.items new.lines.items (subst (λ (l : List ℕ). IsSnippedOf c.args.functions.now c.args.source.now c.args.wanted new.bytes.items l) (sym lines) w.2) c.deliver.ensures

pub returns : goal.returns
returns c = stopped c.in-Err.stop c.in-Err.ensures.stops c.of_stop.ensures.stopped c.of_stop.ensures.sizes refl refl
