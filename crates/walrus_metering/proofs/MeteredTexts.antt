-- What is written for a metered function: the laws of what is inserted, of such a body.
use Rattle.std.proofs.Common.{◌≡◌, ℕ, List, [], ◌∷◌, map, Some, false, refl, sym, ap, ◌∙◌, subst}
use Rattle.std.specs.List.{AllByRecursion}
use Rattle.wasm_body.specs.Control.{Control, Plain, Does, End, Marked, with_control}
use Rattle.wasm_body.specs.Flat.{Named}
use Rattle.wasm_body.specs.Machine.{Outcome, run}
use Rattle.wasm_body.specs.NormalForm.{Typing, normal_form}
use Rattle.wasm_body.specs.Places.{show_run}
use Rattle.wasm_body.specs.SourceTree.{Body, body_text, map_body}
use Rattle.wasm_body.specs.TextLaws.{mark_named, IsNamedBody}
use Rattle.wasm_body.specs.Typed.{AreTyped}
use Rattle.wasm_body.specs.ExecutionLaws.{ExecuteAlike}
use Rattle.wasm_body.proofs.Structure.Along.{Each, AllMarked, HasControl, each_of, all_of_each, weaker, each_mapped, is_body}
use Rattle.wasm_body.proofs.Structure.Mapped.{map_mark, text_mapped}
use Rattle.wasm_body.proofs.Executions.Natural.{run_moved}
use Rattle.wasm_body.proofs.Executions.NormalForms.{named_executions_kept, runs_by_place}
use Rattle.wasm_insertion.specs.Insertion.{Origin, Own, Added, without_origin, SaysWhatAsks, IsInsertedText, named_asks, named_run, piece_cost, with_charge, metered, metered_body}
use Rattle.wasm_insertion.specs.InsertedValidity.{Probed}
use Rattle.wasm_insertion.proofs.EditedTrees.{IsRight, right_marks, typed_marks}
use Rattle.wasm_insertion.proofs.Insertions.{named_says}
use Rattle.wasm_insertion.proofs.InsertedTexts.{inserted_texts, run_twice}
use Rattle.walrus_metering.specs.declared.costs.Costs.{Costs}
use Rattle.walrus_metering.specs.declared.charge.Charge.{Charge}
use Rattle.walrus_metering.specs.declared.charge.Charge.TheVariants as charge
use Rattle.walrus_metering.specs.MeteredTrees.{prepared, prepared_body, charge_shown, charging_operator, prepared_for, named_cost, charged_body}
use Rattle.walrus_metering.specs.MeteredTexts.{shown_operator, charged_run, TextIsPaid, MeteredTexts}
use Rattle.walrus_metering.proofs.EachCharged.{whole_each, metered_each, prepared_each}
use Rattle.walrus_metering.proofs.ChargedBodies.{body_inserted}
use Rattle.walrus_metering.proofs.ChargedRuns.{charged_runs_are_paid}
use Rattle.walrus_metering.proofs.ProbedCharges.{body_probed}

names_marked : (xs : List Named) → map (λ x. x.shown) (map mark_named xs) ≡ xs
names_marked [] = refl
names_marked (x ∷ xs) = ap (λ l. x ∷ l) (names_marked xs)

names_moved : (xs : List (Marked (Origin Named Named)))
    → map (λ x. x.shown) (map (map_mark without_origin) xs) ≡ map (λ x. without_origin x.shown) xs
names_moved [] = refl
names_moved (x ∷ xs) = ap (λ l. without_origin x.shown ∷ l) (names_moved xs)

-- ---- the operators are typed, and each does what the body says

module _ (m : Typing) where
  preparing_right : (c : Charge) (n : ℕ) → AllByRecursion (λ p. IsRight m p (Does Plain)) (prepared_for c n)
  preparing_right (charge.Call func) n = ((refl, refl), tt)
  preparing_right (charge.Add global) n = ((refl, refl), ((refl, refl), ((refl, refl), tt)))

  charging_right : (c : Charge) → IsRight m (charging_operator c) (Does Plain)
  charging_right (charge.Call func) = (refl, refl)
  charging_right (charge.Add global) = (refl, refl)

  body_right : (costs : Costs) (c : Charge) (b : Body Named) → Each (IsRight m) b.sequence
      → Each (IsRight m) (map_body without_origin (charged_body costs c b)).sequence
  body_right costs c b h =
      let cost = named_cost costs in
      let metered_right = metered_each cost (λ x k. IsRight m (shown_operator c (Own x)) k) (λ n. charging_right c) b.sequence h in
      let whole = whole_each cost (λ x k. IsRight m (shown_operator c (Own x)) k) (λ n. charging_right c) false b.sequence metered_right in
      let p = prepared_body (prepared_for c) (metered_body cost b) in
      let right = prepared_each (prepared_for c) (λ x k. IsRight m (shown_operator c x) k) (preparing_right c) (metered_body cost b).sequence whole in
      each_mapped (IsRight m) without_origin (charged_body costs c b).sequence
      (each_mapped (λ x k. IsRight m (without_origin x) k) (charge_shown (charging_operator c)) p.sequence right)

-- ---- runs

module _ (costs : Costs) (c : Charge) (b : Body Named) (ys : List Named) (is_text : IsInsertedText ys (charged_body costs c b)) where
  abbrev prepared_source : Body (Origin (Origin Named ℕ) Named)
  prepared_source = prepared_body (prepared_for c) (metered_body (named_cost costs) b)

  is_run : (os' : List Outcome) (turns : ℕ) → show_run (shown_operator c) (charged_run costs c b os' turns) ≡ named_run ys os' turns
  is_run os' turns =
      let g = charge_shown {A = Named} (charging_operator c) in
      let body = charged_body costs c b in
      let inner : show_run g (run (body_text prepared_source) os' turns) ≡ run (body_text body) os' turns =
      sym (run_moved g (body_text prepared_source) os' turns)
      ∙ ap (λ l. run l os' turns) (sym (text_mapped g prepared_source.sequence (with_control prepared_source.close End ∷ []))) in
      run_twice without_origin g (run (body_text prepared_source) os' turns)
      ∙ ap (show_run without_origin) inner
      ∙ sym (run_moved without_origin (body_text body) os' turns)
      ∙ ap (λ l. run l os' turns) (sym is_text)

  text_paid : (text : List Named) → ExecuteAlike ys text → SaysWhatAsks named_asks (body_text b) → (turns : ℕ) (os' : List Outcome)
      → TextIsPaid costs c b text turns os'
  text_paid text alike asked turns os' = record {
    operators =
        run_twice (λ (y : Named). Some y.op) (shown_operator c) (charged_run costs c b os' turns)
        ∙ ap (show_run (λ (y : Named). Some y.op)) (is_run os' turns)
        ∙ sym (runs_by_place ys os' turns).operators
        ∙ alike.operators os' turns;
    locations =
        run_twice (λ (y : Named). Some y.location) (shown_operator c) (charged_run costs c b os' turns)
        ∙ ap (show_run (λ (y : Named). Some y.location)) (is_run os' turns)
        ∙ sym (runs_by_place ys os' turns).locations
        ∙ alike.locations os' turns;
    is_paid = charged_runs_are_paid Named Named (named_cost costs) named_asks (prepared_for c) b asked turns os';
  }

-- ---- the law

pub metered_texts : (T : Type 0) → MeteredTexts T
metered_texts T costs c m xs b hx typed =
    let body = charged_body costs c b in
    let d = map_body without_origin body in
    let source = each_of (IsRight m) b.sequence (with_control b.close End ∷ []) (subst (AllMarked (IsRight m)) hx (right_marks m xs typed)) in
    let right : Each (IsRight m) d.sequence = body_right m costs c b source.0 in
    let ys = map (λ x. x.shown) (body_text d) in
    let hd : IsNamedBody ys d = is_body d (weaker (IsRight m) HasControl (λ a k q. q.0) d.sequence right) source.1.0.0 in
    let moved : body_text d ≡ map (map_mark without_origin) (body_text body) = text_mapped without_origin body.sequence (with_control body.close End ∷ []) in
    let is_text : IsInsertedText ys body = hd ∙ moved in
    let typed' : AreTyped m ys =
    typed_marks m (body_text d) (all_of_each (IsRight m) d.sequence (with_control d.close End ∷ []) right (source.1.0, tt)) in
    let written = inserted_texts T m xs ys b body hx is_text (body_inserted costs c b) typed' in
    let kept = named_executions_kept m ys d hd typed' in
    let same : kept.text ≡ written.text = cc (sym kept.is_text ∙ written.is_text) in
    let alike : ExecuteAlike ys written.text = subst (ExecuteAlike ys) same kept.alike in
    let asked = subst (SaysWhatAsks named_asks) hx (named_says xs) in
    record {
      operators = ys;
      is_text = is_text;
      typed = typed';
      written = written;
      runs = λ turns os'. text_paid costs c b ys is_text written.text alike asked turns os';
      valid = λ r probes results initialised v.
          let probed = body_probed r costs c probes b in
          let from = subst (λ l. Probed r l (map (λ x. without_origin x.shown) (body_text body))) (sym (ap (map (λ x. x.shown)) hx) ∙ names_marked xs) probed in
          let to = subst (Probed r xs) (sym (names_moved (body_text body)) ∙ sym (ap (map (λ x. x.shown)) moved)) from in
          written.probed_valid r results initialised to v;
    }
