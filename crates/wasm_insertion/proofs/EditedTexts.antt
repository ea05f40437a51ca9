-- What is written for a tree with insertions is, locations apart, what is written for the body with insertions.
use Rattle.std.proofs.Common.{◌≡◌, ℕ, List, [], ◌∷◌, map, Some, Ok, Err, refl, sym, ap, ◌∙◌, subst}
use Rattle.walrus_ir.specs.declared.val_type.InstrSeqType.{InstrSeqType}
use Rattle.walrus_ir.specs.Tree.{Items, no_items, item, Sequences, no_sequences, sequence, map_items, map_sequences}
use Rattle.wasm_types.specs.declared.val_type.ValType.{ValType}
use Rattle.wasm_numbers.specs.Results.{◌>>=◌}
use Rattle.wasm_body.specs.Control.{control_of}
use Rattle.wasm_body.specs.SourceTree.{Body, map_body, map_sequence}
use Rattle.wasm_body.specs.FunctionTree.{Head, Instruction, Bare, bare, bare_items, bare_sequences, IsSameTree}
use Rattle.wasm_body.specs.Naming.{NamedOperation}
use Rattle.wasm_body.specs.NormalForm.{Typing, normal, normal_form}
use Rattle.wasm_body.specs.FlatText.{with_names, tree_text}
use Rattle.wasm_body.specs.TextLaws.{without_locations}
use Rattle.wasm_body.specs.Machine.{Outcome, Run}
use Rattle.wasm_body.specs.Places.{run_by_place, shown_by}
use Rattle.wasm_body.specs.ExecutionLaws.{controls, executed_operators}
use Rattle.wasm_body.specs.Validity.{OperandRules, Checked, State, step_in, validate, start, IsValid}
use Rattle.wasm_body.specs.ValidityLaws.{StaysValid}
use Rattle.wasm_body.specs.Flat.{Named}
use Rattle.wasm_body.proofs.NormalForm.SameTexts.{same_texts}
use Rattle.wasm_body.proofs.Translation.Steps.{bound}
use Rattle.wasm_insertion.specs.Insertion.{Origin, Own, without_origin}
use Rattle.wasm_insertion.specs.InsertedTexts.{TextFollows}
use Rattle.wasm_insertion.specs.EditedTrees.{without_ends, sequences_without_ends, edited_tree, OperatorsFollow, EditedTrees}
use Rattle.wasm_insertion.proofs.EditedTrees.{Edited, edited}
use Rattle.wasm_insertion.proofs.InsertedTexts.{inserted_texts}

-- ---- the same trees

mutual
  bare_again : (is : Items Head Instruction) → map_items (λ t. t) bare (without_ends is) ≡ bare_items is
  bare_again no_items = refl
  bare_again (item i ss r) =
      ap (λ us. item (bare i) us (map_items (λ t. t) bare (without_ends r))) (bare_each ss) ∙ ap (λ l. item (bare i) (bare_sequences ss) l) (bare_again r)

  bare_each : (ss : Sequences Head Instruction) → map_sequences (λ t. t) bare (sequences_without_ends ss) ≡ bare_sequences ss
  bare_each no_sequences = refl
  bare_each (sequence h is r) =
      ap (λ l. sequence h.type l (map_sequences (λ t. t) bare (sequences_without_ends r))) (bare_again is)
      ∙ ap (λ us. sequence h.type (bare_items is) us) (bare_each r)

same_tree : (m : Typing) (b : Body Named) (js : Items Head Instruction) → (e : Edited m b js)
    → IsSameTree (normal_form m (map_body without_origin e.body)) (edited_tree m b js)
same_tree m b js e =
    let is = normal m (map_sequence without_origin e.body.sequence) in
    let same : bare_items is ≡ bare_items js = sym (bare_again is) ∙ (ap (map_items (λ t. t) bare) e.same ∙ bare_again js) in
    ap (λ l. sequence m.entry l no_sequences) same

-- ---- lists with the same operators

abbrev ops : List Named → List NamedOperation
ops xs = map (λ x. x.op) xs

controls_of : (xs : List Named) → controls xs ≡ map control_of (ops xs)
controls_of [] = refl
controls_of (x ∷ xs) = ap (λ l. control_of x.op ∷ l) (controls_of xs)

executed_by : (xs : List Named) (os : List Outcome) (turns : ℕ)
    → executed_operators xs os turns ≡ shown_by (ops xs) (run_by_place (map control_of (ops xs)) os turns)
executed_by xs os turns = ap (λ cs. shown_by (ops xs) (run_by_place cs os turns)) (controls_of xs)

executed_same : (xs ys : List Named) → ops xs ≡ ops ys → (os : List Outcome) (turns : ℕ) → executed_operators xs os turns ≡ executed_operators ys os turns
executed_same xs ys h os turns =
    executed_by xs os turns ∙ (ap (λ l. shown_by l (run_by_place (map control_of l) os turns)) h ∙ sym (executed_by ys os turns))

module _ {T : Type 0} (m : Typing) (r : OperandRules T) where
  abbrev validated_by : List NamedOperation → State T → Checked (State T)
  validated_by [] st = Ok st
  validated_by (o ∷ os) st = step_in m r (control_of o) o st.stacks st.controls >>= λ next. validated_by os next

  validated_again : (xs : List Named) (st : State T) → validate m r xs st ≡ validated_by (ops xs) st
  validated_again [] st = refl
  validated_again (x ∷ xs) st =
      after_step (step_in m r (control_of x.op) x.op st.stacks st.controls) (λ next. validated_again xs next)
    where
      after_step : (c : Checked (State T)) → ((next : State T) → validate m r xs next ≡ validated_by (ops xs) next)
          → (c >>= λ next. validate m r xs next) ≡ (c >>= λ next. validated_by (ops xs) next)
      after_step (Ok next) h = h next
      after_step (Err e) h = refl

  valid_same : (rs : List (ValType ℕ)) (ls : List ℕ) (xs ys : List Named) → ops xs ≡ ops ys → IsValid m r rs ls xs → IsValid m r rs ls ys
  valid_same rs ls xs ys h v =
      let s = start m r rs ls in
      (v.0, validated_again ys s ∙ (ap (λ l. validated_by l s) (sym h) ∙ (sym (validated_again xs s) ∙ v.1)))

-- ---- the law

pub edited_trees : (T : Type 0) → EditedTrees T
edited_trees T m xs b hx typed js f =
    let e = edited m xs b hx typed js f in
    let it = inserted_texts T m xs e.operators b e.body hx e.is_text e.inserted e.typed in
    let w = with_names m in
    let t = normal_form m (map_body without_origin e.body) in
    let u = edited_tree m b js in
    let same = sym (same_texts _ _ w t u (same_tree m b js e)) ∙ ap without_locations it.is_text in
    let x = bound (tree_text w u) (λ ys. Ok (map (λ y. y.op) ys)) (ops it.text) same in
    let alike : ops x.0 ≡ ops it.text = cc x.2 in
    record {
      operators = e.operators;
      body = e.body;
      inserted = e.inserted;
      is_text = e.is_text;
      typed = e.typed;
      same = e.same;
      text = x.0;
      is_written = x.1;
      runs = λ turns os'. let h = it.runs turns os' in
          (h.0, record { marked = h.1.marked; operators = h.1.operators ∙ sym (executed_same x.0 it.text alike os' turns); follows = h.1.follows });
      source_runs = λ turns os. let h = it.source_runs turns os in
          (h.0, record { marked = h.1.marked; operators = h.1.operators ∙ sym (executed_same x.0 it.text alike h.0 turns); follows = h.1.follows });
      stays_valid = λ r rs ls v. valid_same m r rs ls it.text x.0 (sym alike) (it.stays_valid r rs ls v);
    }
