-- An operator with slots for labels, and its name: both exist, or both are refused for the same fault, and the tree has the
-- same operator.
use Rattle.std.specs.Prelude.{◌≡◌, ℕ, nat_lt, List, [], ◌∷◌, length, drop, Bool, true, false, Option, Some, None, slice_get, Result, Ok, Err}
use Rattle.std.proofs.lemmas.Bool.{ltb-true, ltb-false}
use Rattle.std.proofs.lemmas.List.{length-map}
use Rattle.std.proofs.lemmas.Option.{slice_get_past, slice_get-get_or}
use Rattle.std.proofs.Common.{refl, ap, sym, ◌∙◌, arith}
use Rattle.wasm_operators.specs.Operations.{Immediate, operation, RawOperation}
use Rattle.walrus_ir.specs.Types.{Signature}
use Rattle.wasm_body.specs.declared.error.ParseError.{ParseError}
use Rattle.wasm_body.specs.declared.error.ParseError.TheVariants.{NoSuchLabel}
use Rattle.wasm_numbers.specs.Results.{◌>>=◌, infallible, some_or, unless}
use Rattle.wasm_body.specs.Frames.{SequenceFrame, outside}
use Rattle.wasm_body.specs.Translation.{translate, translate_immediates}
use Rattle.wasm_body.specs.Naming.{Environment, NamedOperation, naming, id_at, name_block, open_label, block_types}
use Rattle.wasm_body.specs.FunctionTree.{Target, Depth}
use Rattle.wasm_body.specs.NormalForm.{kept_operation}
use Rattle.wasm_body.specs.InstructionTable.{PlacedOperation}
use Rattle.wasm_body.specs.TreeOfFunction.{target_in, to_targets, with_targets}
use Rattle.wasm_body.proofs.Translation.Steps.{Leads, bound, all_of}
use Rattle.wasm_body.proofs.Translation.Translations.{LeadAll, lead_all, translate_leads}
use Rattle.wasm_body.proofs.NormalForm.KeptNames.{kept_raw, number_leads, open_same, handler_same, same_leads, kept_of}
use Rattle.wasm_body.proofs.Translation.Outcomes.{outcome, Alike, AreAlike, translate_alike}
use Rattle.walrus_context.specs.OpenFrames.{OpenFrame}
use Rattle.walrus_context.specs.Keeping.{slots}
use Rattle.walrus_context.specs.Placing.{depth_around, placing}
use Rattle.walrus_parser.proofs.Labels.{AreSeenAs, target_of_label}

module _ {A : Type 0} (env : Environment) (fs : List (SequenceFrame A)) (open_frames : List OpenFrame) (seen : AreSeenAs fs open_frames) where
  abbrev ps : List ℕ
  ps = slots open_frames

  long : length ps ≡ length fs
  long = length-map open_frames (λ (f : OpenFrame). f.sequence) ∙ seen.as_many

  place_leads : (n q : ℕ) → some_or (slice_get ps n) NoSuchLabel ≡ Ok q → (let s : Result Target ⊥ = Ok (target_in ps q) in s) ≡ Ok (Depth n)
  place_leads n q e = by_place (slice_get ps n) refl e
    where
      by_place : (o : Option ℕ) → slice_get ps n ≡ o → some_or o NoSuchLabel ≡ Ok q → (let s : Result Target ⊥ = Ok (target_in ps q) in s) ≡ Ok (Depth n)
      by_place None is e = absurd cc
      by_place (Some p) is e = let same : p ≡ q = cc e in ap Ok (target_of_label ps n q seen.fall (is ∙ ap Some same))

  depth_same : (n : ℕ) → depth_around open_frames n ≡ open_label (outside fs) n
  depth_same n = ap (λ many. unless (nat_lt n many) NoSuchLabel >>= λ u. let r : Result ℕ ParseError = Ok n in r) (outer_many open_frames fs seen.as_many)
    where
      outer_many : (os : List OpenFrame) (gs : List (SequenceFrame A)) → length os ≡ length gs → length (drop 1 os) ≡ length (outside gs)
      outer_many [] [] e = refl
      outer_many [] (g ∷ gs) e = absurd (omega arith)
      outer_many (o ∷ os) [] e = absurd (omega arith)
      outer_many (o ∷ os) (g ∷ gs) e = (let same : length os ≡ length gs = omega arith in same)

  placed_lead : LeadAll (placing env open_frames) (to_targets ps) (kept_raw env)
  placed_lead = record {
    indices = λ space n q e. number_leads (id_at env space n) q e;
    locals = λ n q e. number_leads ((naming env fs).local n) q e;
    labels = place_leads;
    handlers = λ n q e. same_leads n q (handler_same fs n q (sym (seen.handlers n) ∙ e));
    outers = λ n q e. same_leads n q (open_same (outside fs) n q (sym (depth_same n) ∙ e));
    numbers = λ n q e. let same : n ≡ q = cc e in same_leads n q (sym same);
    alignments = λ n. refl;
    counts = λ n u e. refl;
  }

  -- ---- both are refused for the same fault

  label_alike : (n : ℕ) → Alike {E = ParseError} (some_or (slice_get ps n) NoSuchLabel) (open_label fs n)
  label_alike n = by_test (nat_lt n (length fs)) refl
    where
      open_as : (b : Bool) → nat_lt n (length fs) ≡ b → open_label fs n ≡ (unless b NoSuchLabel >>= λ u. Ok n)
      open_as b is = ap (λ t. unless t NoSuchLabel >>= λ u. Ok n) is

      by_test : (b : Bool) → nat_lt n (length fs) ≡ b → Alike {E = ParseError} (some_or (slice_get ps n) NoSuchLabel) (open_label fs n)
      by_test true is =
          let l = ltb-true n (length fs) is in
          let e = long in
          ap (λ o. outcome {E = ParseError} (some_or o NoSuchLabel)) (slice_get-get_or ps n 0 (omega arith)) ∙ sym (ap outcome (open_as true is))
      by_test false is =
          let l = ltb-false n (length fs) is in
          let e = long in
          ap (λ o. outcome {E = ParseError} (some_or o NoSuchLabel)) (slice_get_past ps n (omega arith)) ∙ sym (ap outcome (open_as false is))

  made_alike : (r : Result Signature ParseError) → Alike {B = Signature} (let t : Result (Unit {0}) ParseError = r >>= (λ s. Ok tt) in t) r
  made_alike (Ok s) = refl
  made_alike (Err f) = refl

  placing_alike : AreAlike (placing env open_frames) (naming env fs)
  placing_alike = record {
    indices = λ space n. refl;
    locals = λ n. refl;
    labels = label_alike;
    handlers = λ n. ap outcome (seen.handlers n);
    outers = λ n. ap outcome (depth_same n);
    numbers = λ n. refl;
    blocks = λ b. made_alike (name_block env b);
    counts = λ n. refl;
  }

  -- ---- an operator

  -- the name of an operator with slots for its labels; the tree has the same operator for both
  pub record IsNamedAs (o : RawOperation) (placed : PlacedOperation) : Type 0 where
    pub named : NamedOperation
    pub is_named : translate (naming env fs) o ≡ Ok named
    pub same_opcode : named.opcode ≡ o.opcode
    pub kept : with_targets ps placed ≡ kept_operation named

  alike_ok : {X Y : Type 0} → (r : Result X ParseError) (s : Result Y ParseError) (x : X) → Alike r s → r ≡ Ok x → (y : Y) × (s ≡ Ok y)
  alike_ok r (Ok y) x a e = (y, refl)
  alike_ok r (Err f) x a e = absurd (let b : Ok tt ≡ Err f = ap outcome (sym e) ∙ a in cc b)

  pub placed_named : (o : RawOperation) (placed : PlacedOperation) → translate (placing env open_frames) o ≡ Ok placed → IsNamedAs o placed
  placed_named o placed e =
      let first = bound (translate_immediates (placing env open_frames) o.immediates) (λ is. Ok (record { opcode = o.opcode; immediates = is })) placed e in
      let is : placed ≡ record { opcode = o.opcode; immediates = first.0 } = cc first.2 in
      let alike = translate_alike (placing env open_frames) (naming env fs) placing_alike o.immediates in
      let second = alike_ok (translate_immediates (placing env open_frames) o.immediates) (translate_immediates (naming env fs) o.immediates) first.0 alike first.1 in
      let retargeted = translate_leads (placing env open_frames) (to_targets ps) (kept_raw env) o.immediates
      (lead_all (placing env open_frames) (to_targets ps) (kept_raw env) placed_lead o.immediates (all_of (Leads (placing env open_frames).block (to_targets ps).block (kept_raw env).block) (λ b d h. refl) (block_types o.immediates)))
      first.0 first.1 in
      let named : NamedOperation = record { opcode = o.opcode; immediates = second.0 } in
      let is_named : translate (naming env fs) o ≡ Ok named = ap (λ r. r >>= λ is. Ok (record { opcode = o.opcode; immediates = is })) second.1 in
      let same = retargeted ∙ (kept_of env fs o named is_named).kept in
      record {
        named = named;
        is_named = is_named;
        same_opcode = refl;
        kept = ap (with_targets ps) is ∙ (λ i. record { opcode = o.opcode; immediates = infallible (same i) });
      }

  pub placed_refused : (o : RawOperation) (f : ParseError) → translate (placing env open_frames) o ≡ Err f → translate (naming env fs) o ≡ Err f
  placed_refused o f e =
      let alike = translate_alike (placing env open_frames) (naming env fs) placing_alike o.immediates in
      by_results (translate_immediates (placing env open_frames) o.immediates) (translate_immediates (naming env fs) o.immediates) alike e
    where
      by_results : (r : Result (List (Immediate ℕ (Unit {0}))) ParseError) (t : Result (List (Immediate ℕ Signature)) ParseError) → Alike r t →
          (r >>= λ is. Ok (operation o.opcode is)) ≡ Err f → (t >>= λ is. Ok (operation o.opcode is)) ≡ Err f
      by_results (Ok x) t a e = absurd cc
      by_results (Err g) (Ok y) a e = absurd cc
      by_results (Err g) (Err h) a e = let c : g ≡ f = cc e in let d : g ≡ h = cc a in ap Err (sym d ∙ c)
