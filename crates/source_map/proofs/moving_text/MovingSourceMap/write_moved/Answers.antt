use Rattle.std.proofs.Common.{◌≡◌, ◌∷◌, ◌++◌, Some, Result, Ok, Err, OnOk, sym, ap, ◌∙◌}
use Rattle.source_map.specs.declared.mapping.Mapping.{Mapping}
use Rattle.source_map.specs.Moving.{with_place}
use Rattle.source_map.specs.MovingText.{written_after, fields_written, all_written_after}
use Rattle.source_map.proofs.Moves.{in_its_body}
use Rattle.source_map.proofs.MovingTexts.{is_written}
use Rattle.source_map.proofs.moving_text.MovingSourceMap.write_moved.Goals as goal

when_both : {A E P Q R : Type 0} (r : Result A E) → (P → Q → R) → OnOk r P → OnOk r Q → OnOk r R
when_both (Ok x) f p q = f p q
when_both (Err e) f p q = tt

pub returns-then-step-mapping-clause-text : goal.returns-then-step-mapping-clause-text
returns-then-step-mapping-clause-text c = λ more.
    let old = c.args.self.now in
    let mapping = c.args.mapping in
    let step = c.args.step in
    let moved : Mapping = record { generated = step.new; original = mapping.original } in
    let new = c.write.new.self in
    let goes : (new.text.items ≡ old.text.items ++ written_after old.last moved) → (new.last ≡ Some (fields_written old.last moved)) → (new.text.items ++ all_written_after new.last more ≡ old.text.items ++ all_written_after old.last (moved ∷ more)) = λ text last.
    ap (λ x. x ++ all_written_after new.last more) text ∙ (ap (λ l. (old.text.items ++ written_after old.last moved) ++ all_written_after l more) last ∙ is_written old.text.items old.last moved more) in
    let place = in_its_body mapping.generated step c.if-step-mapping.true in
    when_both c.write.result
    (λ text last. goes text last ∙ ap (λ o. old.text.items ++ all_written_after old.last (with_place mapping o more)) (sym place))
    c.write.ensures.text c.write.ensures.last
