-- The text of the normal form of a body with inserted operators: the laws of bodies, of such a body, after those of what is inserted.
use Rattle.std.proofs.Common.{◌≡◌, ℕ, List, [], ◌∷◌, map, Some, refl, sym, ap, ◌∙◌}
use Rattle.wasm_body.specs.Control.{End, with_control}
use Rattle.wasm_body.specs.SourceTree.{map_body}
use Rattle.wasm_body.specs.TextLaws.{IsNamedBody}
use Rattle.wasm_body.specs.Machine.{Outcome, Event, Executed, Taken, Run}
use Rattle.wasm_body.specs.Places.{show_event, show_run}
use Rattle.wasm_body.specs.ExecutionLaws.{ExecuteAlike}
use Rattle.wasm_body.specs.ValidityLaws.{StaysValid}
use Rattle.wasm_body.specs.Flat.{Named}
use Rattle.wasm_body.proofs.Structure.Mapped.{text_mapped}
use Rattle.wasm_body.proofs.Executions.NormalForms.{named_executions_kept, runs_by_place}
use Rattle.wasm_body.proofs.Executions.Locations.{locations_agree}
use Rattle.wasm_body.proofs.Validity.ValidNormalForms.{text_stays_valid}
use Rattle.wasm_insertion.specs.Insertion.{Origin, without_origin, NamedFollows, named_run}
use Rattle.wasm_insertion.specs.InsertedTexts.{TextFollows, InsertedTexts}
use Rattle.wasm_insertion.proofs.Insertions.{named_inserted_runs, named_source_runs}
use Rattle.wasm_insertion.proofs.ProbedBodies.{probed_stays_valid}

events_twice : {A B C : Type 0} → (g : B → C) (f : A → B) (es : List (Event A)) → map (show_event (λ a. g (f a))) es ≡ map (show_event g) (map (show_event f) es)
events_twice g f [] = refl
events_twice g f (Executed a ∷ es) = ap (λ l. Executed (g (f a)) ∷ l) (events_twice g f es)
events_twice g f (Taken a i t ∷ es) = ap (λ l. Taken (g (f a)) i t ∷ l) (events_twice g f es)

pub run_twice : {A B C : Type 0} → (g : B → C) (f : A → B) (r : Run A) → show_run (λ a. g (f a)) r ≡ show_run g (show_run f r)
run_twice g f r = ap (λ l. record { events = l; ending = r.ending }) (events_twice g f r.events)

text_follows : (Stop : List Outcome → Run (Origin Named Named) → Type 0) (ys text : List Named) → ExecuteAlike ys text → (os' : List Outcome) (turns : ℕ)
    (os : List Outcome) (run : Run Named) → NamedFollows Stop os' (named_run ys os' turns) os run → TextFollows Stop text os' turns os run
text_follows Stop ys text alike os' turns os run h = record {
  marked = h.marked;
  operators =
      run_twice (λ (y : Named). Some y.op) without_origin h.marked
      ∙ (ap (show_run (λ (y : Named). Some y.op)) h.is_run ∙ (sym (runs_by_place ys os' turns).operators ∙ alike.operators os' turns));
  locations =
      run_twice (λ (y : Named). Some y.location) without_origin h.marked
      ∙ (ap (show_run (λ (y : Named). Some y.location)) h.is_run ∙ (sym (runs_by_place ys os' turns).locations ∙ alike.locations os' turns));
  follows = h.follows;
}

pub inserted_texts : (T : Type 0) → InsertedTexts T
inserted_texts T m xs ys b c hx hy i typed =
    let d = map_body without_origin c in
    let hd : IsNamedBody ys d = hy ∙ sym (text_mapped without_origin c.sequence (with_control c.close End ∷ [])) in
    let kept = named_executions_kept m ys d hd typed in
    let valid : StaysValid T m ys kept.text = text_stays_valid m ys d hd typed kept.text kept.is_text in
    record {
      text = kept.text;
      is_text = kept.is_text;
      runs = λ turns os'. let h = named_inserted_runs xs ys b c hx hy i turns os' in
          (h.0, text_follows _ ys kept.text kept.alike os' turns h.0 (named_run xs h.0 turns) h.1);
      source_runs = λ turns os. let h = named_source_runs xs ys b c hx hy i turns os in
          (h.0, text_follows _ ys kept.text kept.alike h.0 turns os (named_run xs os turns) h.1);
      stays_valid = valid;
      probed_valid = λ r rs ls p v. valid r rs ls (probed_stays_valid T m r rs ls xs ys p v);
      honest = λ to alike before ps e. locations_agree m ys d hd typed kept.text kept.is_text to alike before ps e;
    }
