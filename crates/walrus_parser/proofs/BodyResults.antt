-- The result of a parse is the accepted body, or the first fault.
use Rattle.std.specs.Prelude.{◌≡◌, ◌⊎◌, ℕ, List, Option, Some, None, Result, Ok, Err, IfOk, IfErr, IsErr}
use Rattle.std.specs.Borrow.{Bor}
use Rattle.std.specs.Fn.{Shared}
use Rattle.std.proofs.Common.{refl, ap, sym, subst, ◌∙◌, inl, inr}
use Rattle.walrus_ir.specs.Function.{Function}
use Rattle.wasm_body.specs.declared.error.ParseError.{ParseError}
use Rattle.wasm_body.specs.declared.error.ParseError.TheVariants.{Memory}
use Rattle.wasm_body.specs.declared.error.ParseFailure.{ParseFailure}
use Rattle.wasm_body.specs.SourceTree.{Body}
use Rattle.wasm_body.specs.Naming.{Occurrence, entry_type_id}
use Rattle.wasm_body.specs.Parsing.Accepted.{Accepted, FirstFault, of_entry}
use Rattle.wasm_body.specs.Parsing.Lists.{failure, parsed_after_entry, parsed}
use Rattle.wasm_operators.specs.Laws.{AreBytes}
use Rattle.wasm_body.proofs.Parsing.ParseResults.{ParseResults, parse_results, accepted_parsed, fault_parsed}
use Rattle.wasm_operators.proofs.ReadingBytes.{reading_agrees}
use Rattle.walrus_parser.specs.declared.parse.ParsedOperators.{ParsedOperators}
use Rattle.walrus_parser.specs.Bodies.{ParseInput, setting_with, mapped_by, HoldsBody, ParsesOperators, IsRefusedAnyway, AcceptsBody, RefusesBody}
use Rattle.walrus_parser.specs.Settings.{BothOrNone, locations_in}
use Rattle.walrus_parser.proofs.AnyLocations.{any_locations}

module _ {S F : Type 0} (g : Shared F (Bor ℕ × Unit {0}) ℕ) (i : ParseInput S F) where
  by_entry : (locations : Option (ℕ → ℕ)) (id : ℕ) → entry_type_id i.environment ≡ Ok id → parsed (setting_with i locations) i.bytes ≡ parsed_after_entry (setting_with i locations) (Ok id) i.bytes
  by_entry locations id is = ap (λ r. parsed_after_entry (setting_with i locations) r i.bytes) is

  accepts : (id : ℕ) → entry_type_id i.environment ≡ Ok id → AreBytes i.bytes → (made : ParsedOperators) → HoldsBody g i made → AcceptsBody g i made.builder made.instruction_mapping.items
  accepts id is fits made h =
      let given = setting_with i (mapped_by g i made.instruction_mapping.items) in
      record {
        body = h.body;
        accepted = subst (ParseResults given reading_agrees i.bytes) (by_entry (locations_in i.on_instr_pos i.offset made.instruction_mapping.items) id is ∙ h.is_parsed) (parse_results given reading_agrees i.bytes fits);
        type = h.type;
        is_function = h.is_function;
        is_mapping = h.is_mapping;
      }

  refuses : (id : ℕ) → entry_type_id i.environment ≡ Ok id → AreBytes i.bytes → (f : ParseFailure) → (f.error ≡ Memory) ⊎ IsRefusedAnyway g i f → RefusesBody g i f
  refuses id is fits f (inl out_of_memory) = inl out_of_memory
  refuses id is fits f (inr anyway) = inr (λ locations both.
      subst (ParseResults (setting_with i locations) reading_agrees i.bytes) (by_entry locations id is ∙ anyway locations both) (parse_results (setting_with i locations) reading_agrees i.bytes fits))

  pub accepts_ok : (id : ℕ) → entry_type_id i.environment ≡ Ok id → AreBytes i.bytes → (r : Result ParsedOperators ParseFailure) → ParsesOperators g i r → IfOk r (λ made. AcceptsBody g i made.builder made.instruction_mapping.items)
  accepts_ok id is fits (Ok made) h = accepts id is fits made h
  accepts_ok id is fits (Err f) h = tt

  pub refuses_err : (id : ℕ) → entry_type_id i.environment ≡ Ok id → AreBytes i.bytes → (r : Result ParsedOperators ParseFailure) → ParsesOperators g i r → IfErr r (RefusesBody g i)
  refuses_err id is fits (Ok made) h = tt
  refuses_err id is fits (Err f) h = refuses id is fits f h

  -- the fault is in the function's type or its entry type
  pub refuses_entry : (e : ParseError) (f : ParseFailure) → entry_type_id i.environment ≡ Err e → f ≡ failure e i.start → RefusesBody g i f
  refuses_entry e f is at = inr (λ locations both. of_entry (is ∙ ap (λ h. Err h.error) (sym at)) (ap (λ h. h.at) at))

  -- ---- each body and each fault

  pub body_returned : (locations : Option (ℕ → ℕ)) (b : Body Occurrence) → BothOrNone i.on_instr_pos locations → Accepted (setting_with i locations) i.bytes b →
      {A : Type 0} (r : Result A ParseFailure) → IfErr r (RefusesBody g i) → IfErr r (λ f. f.error ≡ Memory)
  body_returned locations b both a (Ok made) h = tt
  body_returned locations b both a (Err f) (inl out_of_memory) = out_of_memory
  body_returned locations b both a (Err f) (inr faulty) =
      let given = setting_with i locations in
      let one = sym (accepted_parsed given reading_agrees i.bytes b a) ∙ fault_parsed given reading_agrees i.bytes f (faulty locations both) in
      absurd (cc)

  -- a body that is accepted with one location function has no first fault with another
  no_fault : (l m : Option (ℕ → ℕ)) (b : Body Occurrence) (f : ParseFailure) → BothOrNone l m → Accepted (setting_with i m) i.bytes b → FirstFault (setting_with i l) i.bytes f → ⊥
  no_fault l m b f both a fault =
      let e = entry_type_id i.environment in
      let is = fault_parsed (setting_with i l) reading_agrees i.bytes f fault in
      let was = accepted_parsed (setting_with i m) reading_agrees i.bytes b a in
      by_cases e is was
    where
      by_cases : (r : Result ℕ ParseError) → parsed_after_entry (setting_with i l) r i.bytes ≡ Err f → parsed_after_entry (setting_with i m) r i.bytes ≡ Ok b → ⊥
      by_cases (Err e) is was = cc
      by_cases (Ok id) is was =
          let other = any_locations i.environment i.start i.check i.first l m both i.bytes f is in
          let one = sym other ∙ was in
          cc

  pub fault_returned : (locations : Option (ℕ → ℕ)) (f : ParseFailure) → BothOrNone i.on_instr_pos locations → FirstFault (setting_with i locations) i.bytes f →
      {A : Type 0} (function : A → Function) (mapping : A → List (ℕ × ℕ)) (r : Result A ParseFailure) → IfOk r (λ made. AcceptsBody g i (function made) (mapping made)) → IfErr r (RefusesBody g i) →
      IsErr r × IfErr r (λ e. (e.error ≡ Memory) ⊎ (e ≡ f))
  fault_returned locations f both fault function mapping (Ok made) h k = absurd (no_fault locations (locations_in i.on_instr_pos i.offset (mapping made)) h.body f (turned i.on_instr_pos locations both) h.accepted fault)
    where
      turned : (q : Option (Bor F)) (l : Option (ℕ → ℕ)) → BothOrNone q l → BothOrNone l (locations_in q i.offset (mapping made))
      turned None None both = tt
      turned (Some f) (Some l) both = tt
      turned None (Some l) both = absurd both
      turned (Some f) None both = absurd both
  fault_returned locations f both fault function mapping (Err e) h (inl out_of_memory) = (refl, inl out_of_memory)
  fault_returned locations f both fault function mapping (Err e) h (inr faulty) =
      let given = setting_with i locations in
      let one = sym (fault_parsed given reading_agrees i.bytes e (faulty locations both)) ∙ fault_parsed given reading_agrees i.bytes f fault in
      (refl, inr (let same : e ≡ f = cc in same))
