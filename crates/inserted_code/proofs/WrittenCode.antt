-- What is written for bodies into which a tool inserts instructions: the laws of one body, of what `change_all` keeps.
use Rattle.std.proofs.Common.{◌≡◌, ◌<◌, ℕ, List, [], ◌∷◌, ◌++◌, map, length, get_or, Some, Ok, refl, sym, ap, ◌∙◌, subst, arith}
use Rattle.std.specs.Prelude.{slice_get, unwrap_or}
use Rattle.std.specs.List.{AllByRecursion}
use Rattle.std.proofs.lemmas.Option.{slice_get-get_or}
use Rattle.wasm_types.specs.declared.val_type.ValType.{ValType}
use Rattle.walrus_ir.specs.declared.seq.InstrSeq.{InstrSeq}
use Rattle.walrus_ir.specs.Function.{Function}
use Rattle.wasm_encode.specs.Declarations as encoded
use Rattle.wasm_body.specs.Bytes.{Numbers}
use Rattle.wasm_body.specs.Control.{End, with_control}
use Rattle.wasm_body.specs.Flat.{Named}
use Rattle.wasm_body.specs.FunctionTree.{FunctionTree}
use Rattle.wasm_body.specs.LocalNumbers.{ids_of, numbering_locals}
use Rattle.wasm_body.specs.LocationLaws.{BalanceAlike}
use Rattle.wasm_body.specs.NormalForm.{Typing, normal_form, body_tree}
use Rattle.wasm_body.specs.Pairs.{Pair, tree_pairs}
use Rattle.wasm_body.specs.Parsing.Accepted.{HasSpelling}
use Rattle.wasm_body.specs.SourceTree.{Body, map_body}
use Rattle.wasm_body.specs.TextLaws.{IsNamedBody, IsTextOf}
use Rattle.wasm_body.specs.TreeOfFunction.{HasTree}
use Rattle.wasm_body.specs.Typed.{AreTyped}
use Rattle.wasm_body.specs.ValidityLaws.{KnownOperand}
use Rattle.wasm_body.proofs.Bytes.LawfulTyped.{lawful_named}
use Rattle.wasm_body.proofs.Executions.Locations.{places_increase, pairs_located, locations_agree}
use Rattle.wasm_body.proofs.Structure.Mapped.{text_mapped}
use Rattle.wasm_insertion.specs.Insertion.{Origin, without_origin, IsInsertedText}
use Rattle.wasm_insertion.specs.EditedTrees.{edited_tree}
use Rattle.wasm_insertion.proofs.EditedTexts.{edited_trees}
use Rattle.walrus_insertion.specs.Edits.{added}
use Rattle.walrus_insertion.specs.BegunBodies.{inserted_operators, begun_with, begun_form}
use Rattle.walrus_insertion.proofs.BegunBodies.{begun_trees, begun_texts}
use Rattle.walrus_metering.specs.MeteredTrees.{charged_body}
use Rattle.walrus_metering.proofs.MeteredFunctions.{metered_trees}
use Rattle.walrus_metering.proofs.MeteredTexts.{metered_texts}
use Rattle.walrus_body.specs.FunctionParts.{FunctionParts}
use Rattle.walrus_body.specs.LocalFunctions.{first_slot}
use Rattle.walrus_body.proofs.EmittedFaults.{listed_spelt}
use Rattle.walrus_body.proofs.OneTree.{one_function, from_slot, begins}
use Rattle.walrus_numbering.specs.NumberMaps.{numbers_by}
use Rattle.walrus_parser.specs.Bodies.{body_operators}
use Rattle.walrus_rewrite.specs.RawBodies.{EmitInput, IsRawBody}
use Rattle.wasm_module.specs.declared.parsed.ParsedModule.{ParsedModule}
use Rattle.wasm_module.specs.RewrittenCode.{IsAccepted, IsParsed, IsChangedWith, keeps_locals}
use Rattle.wasm_sections.specs.CodeSections.{BodyAt}
use Rattle.inserted_code.specs.InsertedCode.{accepted_environment, accepted_typing, accepted_names, accepted_body, IsRawCode, HasHonestPairs, Charges, ChargedCode, EachBegins, BegunCode, Inserts, EditedCode}

-- ---- a parsed function

module _ (source : ParsedModule) (function : ℕ) (b : BodyAt) (now : ParsedModule) (made : FunctionParts) (h : IsParsed source function b now made) where
  abbrev its_body : IsAccepted source function b now
  its_body = record { entered = h.entered; tree = h.is_parsed.body; accepted = h.is_parsed.accepted }

  its_spellings : AllByRecursion HasSpelling h.is_parsed.accepted.operators
  its_spellings = listed_spelt h.is_parsed.accepted.operators _ (body_operators h.entered.body) [] h.is_parsed.accepted.all.spelt

  its_names : IsNamedBody (accepted_names its_body) (accepted_body its_body) × AreTyped (accepted_typing its_body) (accepted_names its_body)
  its_names = lawful_named (accepted_environment its_body) h.is_parsed.accepted.operators h.is_parsed.body its_spellings h.is_parsed.accepted.lawful

  its_tree : HasTree made.builder.sequences (first_slot made.builder) (normal_form (accepted_typing its_body) (accepted_body its_body))
  its_tree = from_slot made.builder (body_tree (accepted_environment its_body) h.is_parsed.body) h.is_parsed.is_function

  -- ---- and changed

  abbrev input : List (ValType ℕ) → List ℕ → EmitInput
  input types args = record { to = numbers_by now.module.types now.spaces.numbers []; types = types; args = args }

-- what is written for a tree that the changed function has
raw_code : (changes : (function : ℕ) → (old new : FunctionParts) → Type 0) (source : ParsedModule) (function : ℕ) (b : BodyAt) (raw : List ℕ) (pairs : List Pair)
    (c : IsChangedWith (keeps_locals changes) source function b raw pairs) → c.changed.args ≡ c.parsed.args → (tree : FunctionTree)
    → HasTree c.changed.builder.sequences (first_slot c.changed.builder) tree → IsRawCode (its_body source function b c.now c.parsed c.is_parsed) tree raw pairs
raw_code changes source function b raw pairs c same_args tree has =
    let by = input source function b c.now c.parsed c.is_parsed in
    let it = c.is_raw_body in
    let args : c.changed.args ≡ c.is_parsed.entered.args = same_args ∙ c.is_parsed.is_parsed.args_are in
    let first : IsRawBody (by c.locals c.changed.args) tree raw pairs =
    subst (λ t. IsRawBody (by c.locals c.changed.args) t raw pairs)
    (one_function c.changed.builder.sequences (first_slot c.changed.builder) it.tree tree it.has_tree has) it.is_raw_body in
    subst (λ l. IsRawBody (by c.now.module.locals l) tree raw pairs) args
    (subst (λ l. IsRawBody (by l c.changed.args) tree raw pairs) c.is_changed.1 first)

-- its pairs
honest_pairs : (m : Typing) (ys : List Named) (body : Body (Origin Named Named)) → IsInsertedText ys body → AreTyped m ys → (text : List Named)
    → IsTextOf m (normal_form m (map_body without_origin body)) text → (by : EmitInput) → BalanceAlike m by.to → (raw : List ℕ) (pairs : List Pair)
    → IsRawBody by (normal_form m (map_body without_origin body)) raw pairs → HasHonestPairs m (normal_form m (map_body without_origin body)) text ys pairs
honest_pairs m ys body hy typed text is_text by alike raw pairs r =
    let d = map_body without_origin body in
    let hd : IsNamedBody ys d = hy ∙ sym (text_mapped without_origin body.sequence (with_control body.close End ∷ [])) in
    let to = numbering_locals by.to by.args (ids_of r.others) in
    let before = length (encoded.declaration_bytes r.declarations) in
    record {
      is_text = is_text;
      locations = pairs_located m ys d hd typed text is_text to alike before pairs r.pairs_are;
      places = places_increase to (normal_form m d) before pairs r.pairs_are;
      honest = locations_agree m ys d hd typed text is_text to alike before pairs r.pairs_are;
    }

record SequenceOf (sequences : List InstrSeq) (slot : ℕ) : Type 0 where
  pub seq : InstrSeq
  pub at : slice_get sequences slot ≡ Some seq

first_sequence : (sequences : List InstrSeq) (slot : ℕ) → slot < length sequences → SequenceOf sequences slot
first_sequence [] slot h = absurd (omega (arith, h))
first_sequence (x ∷ xs) slot h = record { seq = get_or (x ∷ xs) slot x; at = slice_get-get_or (x ∷ xs) slot x h }

-- ---- the laws

pub charged_code : ChargedCode
charged_code costs charge source function b raw pairs c =
    let a = its_body source function b c.now c.parsed c.is_parsed in
    let named = its_names source function b c.now c.parsed c.is_parsed in
    let m = accepted_typing a in
    let old = c.parsed.builder in
    let body = charged_body costs charge (accepted_body a) in
    let tree = normal_form m (map_body without_origin body) in
    let made = metered_trees costs charge old.sequences (first_slot old) m (accepted_names a) (accepted_body a) named.0 (its_tree source function b c.now c.parsed c.is_parsed) in
    let has : HasTree c.changed.builder.sequences (first_slot c.changed.builder) tree =
    subst (λ (p : FunctionParts). HasTree p.builder.sequences (first_slot p.builder) tree) (sym c.is_changed.0) made.has_tree in
    let is_raw = raw_code (λ index. Charges costs charge) source function b raw pairs c (ap (λ (p : FunctionParts). p.args) c.is_changed.0) tree has in
    let metered = metered_texts KnownOperand costs charge m (accepted_names a) (accepted_body a) named.0 named.1 in
    record {
      now = c.now;
      accepted = a;
      tree = tree;
      is_raw = is_raw;
      metered = metered;
      has_pairs = honest_pairs m metered.operators body metered.is_text metered.typed metered.written.text metered.written.is_text
          (input source function b c.now c.parsed c.is_parsed c.now.module.locals a.entered.args) (λ t. refl) raw pairs is_raw;
    }

pub begun_code : BegunCode
begun_code ps source function b raw pairs c =
    let a = its_body source function b c.now c.parsed c.is_parsed in
    let named = its_names source function b c.now c.parsed c.is_parsed in
    let m = accepted_typing a in
    let old = c.parsed.builder in
    let start = first_slot old in
    let has_entry = begins old (body_tree (accepted_environment a) c.is_parsed.is_parsed.body) c.is_parsed.is_parsed.is_function in
    let found = first_sequence old.sequences start has_entry.in_arena in
    let changed = c.is_changed.0 has_entry found.seq found.at in
    let tree = begun_form m (ps function) (accepted_body a) in
    let made = begun_trees old.sequences start found.seq (ps function) found.at m (accepted_body a) (its_tree source function b c.now c.parsed c.is_parsed) in
    let has : HasTree c.changed.builder.sequences (first_slot c.changed.builder) tree =
    subst (λ (p : FunctionParts). HasTree p.builder.sequences (first_slot p.builder) tree) (sym changed) made in
    let is_raw = raw_code (EachBegins ps) source function b raw pairs c (ap (λ (p : FunctionParts). p.args) changed) tree has in
    let begun = begun_texts KnownOperand m (ps function) (accepted_names a) (accepted_body a) named.0 named.1 in
    record {
      now = c.now;
      accepted = a;
      is_raw = is_raw;
      begun = begun;
      has_pairs = honest_pairs m (inserted_operators (ps function) ++ accepted_names a) (begun_with (inserted_operators (ps function)) (accepted_body a)) begun.is_text begun.typed
          begun.written.text begun.written.is_text (input source function b c.now c.parsed c.is_parsed c.now.module.locals a.entered.args) (λ t. refl) raw pairs is_raw;
    }

pub edited_code : EditedCode
edited_code source function b raw pairs c =
    let a = its_body source function b c.now c.parsed c.is_parsed in
    let named = its_names source function b c.now c.parsed c.is_parsed in
    let m = accepted_typing a in
    let old = c.parsed.builder in
    let inserts = c.is_changed.0 in
    let made = inserts.trees (first_slot old) m (accepted_names a) (accepted_body a) named.0 (its_tree source function b c.now c.parsed c.is_parsed) in
    let has = subst (λ n. HasTree c.changed.builder.sequences n (edited_tree m (accepted_body a) made.items)) (ap (λ e. unwrap_or e 0) (sym inserts.entry)) made.has_tree in
    record {
      now = c.now;
      accepted = a;
      items = made.items;
      edited = made.edited;
      is_raw = raw_code (λ index old new. Inserts old new) source function b raw pairs c inserts.args (edited_tree m (accepted_body a) made.items) has;
      is_edited = edited_trees KnownOperand m (accepted_names a) (accepted_body a) named.0 named.1 made.items made.edited;
    }
