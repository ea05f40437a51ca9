use Rattle.std.proofs.Common.{rules, Some, Ok, Err, ap, ◌∙◌}
use Rattle.std.proofs.lemmas.List.Sorted.{answers_always}
use Rattle.wasm_body.specs.Pairs.{Pair}
use Rattle.walrus_rewrite.proofs.PairLookups.{same_default, searched}
use Rattle.walrus_rewrite.proofs.locating.locate.Goals as goal

-- the closure gives a pair's place

pub returns-in-Ok : goal.returns-in-Ok
returns-in-Ok c =
    let facts = c.in-Ok.ensures in
    let by_place = facts.position (λ (p : Pair). p.1) (answers_always _ _ _ (λ f a r g called. search rules)) in
    ap (λ (p : Pair). Some p.0) (same_default c.args.map.now c.in-Ok.index c.index-map-index.result (0, 0) facts.bound)
    ∙ searched c.args.map.now c.requires c.args.place (Ok c.in-Ok.index) facts.bound by_place

pub returns-in-Err : goal.returns-in-Err
returns-in-Err c =
    let facts = c.in-Err.ensures in
    let by_place = facts.position (λ (p : Pair). p.1) (answers_always _ _ _ (λ f a r g called. search rules)) in
    searched c.args.map.now c.requires c.args.place (Err c.in-Err.field-0) facts.bound by_place
