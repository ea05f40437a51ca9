-- Rewriting a body: the appended bytes are those of the accepted body, and execute as its source does.
use Rattle.std.specs.Prelude.{◌≡◌, ◌⊎◌, ◌++◌, ◌+◌, ◌<◌, ◌^◌, ℕ, List, [], ◌∷◌, length, map, Option, Some, None, IsErr, IfOk, IfErr, Result, Ok, Err}
use Rattle.std.specs.Borrow.{Bor}
use Rattle.std.specs.Fn.{Shared}
use Rattle.std.specs.List.{AllByRecursion}
use Rattle.std.proofs.Common.{inl, inr, refl, sym, ap, subst, ◌∙◌, arith}
use Rattle.std.proofs.lemmas.List.{length-drop}
use Rattle.walrus_ir.specs.declared.module.Module.{Module}
use Rattle.walrus_ir.specs.Function.{Function}
use Rattle.walrus_ir.proofs.WalkLaws.{tree_has_no_fault}
use Rattle.wasm_operators.specs.OperatorList.{Lists}
use Rattle.wasm_encode.specs.Declarations as encoded
use Rattle.wasm_body.specs.declared.error.ParseError.TheVariants as parse
use Rattle.wasm_body.specs.declared.error.ParseFailure.{ParseFailure}
use Rattle.wasm_body.specs.SourceTree.{Body}
use Rattle.wasm_body.specs.Naming.{Environment, Occurrence}
use Rattle.wasm_body.specs.FunctionTree.{FunctionTree}
use Rattle.wasm_body.specs.TreeOfFunction.{HasTree, tree_of}
use Rattle.wasm_body.specs.NormalForm.{typing_of, name_at, named_body, body_tree}
use Rattle.wasm_body.specs.RewrittenTree.{rewritten_text}
use Rattle.wasm_body.specs.LocationLaws.{BalanceAlike}
use Rattle.wasm_body.specs.EmissionFaults.{AreIdNumbers}
use Rattle.wasm_body.specs.Bytes.{Numbers}
use Rattle.wasm_body.specs.LocalNumbers.{ids_of, numbering_locals}
use Rattle.wasm_body.specs.Pairs.{Pair, tree_pairs}
use Rattle.wasm_body.specs.Parsing.Accepted.{HasSpelling, Lawful, placed}
use Rattle.wasm_body.proofs.Bytes.LawfulTyped.{lawful_named}
use Rattle.wasm_body.proofs.Executions.Locations.{places_increase, pairs_located, locations_agree}
use Rattle.wasm_body.proofs.Executions.NormalForms.{named_executions_kept}
use Rattle.wasm_body.proofs.NormalForm.NamedTexts.{has_text}
use Rattle.wasm_body.proofs.Validity.ValidNormalForms.{text_stays_valid}
use Rattle.walrus_facts.specs.Facts.{count}
use Rattle.walrus_maps.specs.declared.ids_to_indices.IdsToIndices.{IdsToIndices}
use Rattle.walrus_body.specs.FunctionParts.{FunctionParts}
use Rattle.walrus_body.specs.LocalFunctions.{first_slot, HasEntry}
use Rattle.walrus_parser.specs.declared.body.FunctionBody.{FunctionBody}
use Rattle.walrus_parser.specs.Bodies.{ParseInput, AcceptsBody, RefusesBody, mapped_by, body_operators}
use Rattle.walrus_parser.specs.Settings.{BothOrNone, locations_in}
use Rattle.walrus_body.specs.EmittedInstructions.{LentPairs, Left}
use Rattle.walrus_numbering.specs.NumberMaps.{numbers_by}
use Rattle.walrus_facts.proofs.LocalsOfTrees.{count_of_tree}
use Rattle.walrus_rewrite.specs.declared.error.RewriteError.{RewriteError}
use Rattle.walrus_rewrite.specs.declared.error.RewriteError.TheVariants.{Parse, Walk, Emit}
use Rattle.walrus_rewrite.specs.RawBodies.{EmitInput, IsRawBody, HasNoRawBody, IsRawBodyOf, AppendsPairs, AppendsRawBody, IsNotAppended, IsNotFinished, emit_input}
use Rattle.walrus_rewrite.proofs.Counts.{few_instructions}
use Rattle.walrus_rewrite.proofs.ParsedBodies.{are_id_numbers, no_parsed_body}
use Rattle.walrus_rewrite.specs.RewrittenBodies.{KeepsSource, Rewrites, IsAcceptedAs, RefusesRewriting, IsOfWriting}
use Rattle.walrus_rewrite.specs.Errors.{IsOutOfMemory}
use Rattle.walrus_body.proofs.OneTree.{from_slot, only_tree, begins}
use Rattle.walrus_body.proofs.EmittedFaults.{listed_spelt}

-- ---- relation to the source

pub keeps_source : (env : Environment) (xs : List Occurrence) (b : Body Occurrence) → AllByRecursion HasSpelling xs → Lawful env xs b →
    (to : Numbers) → BalanceAlike (typing_of env) to → (before : ℕ) (ps : List Pair) → tree_pairs to (body_tree env b) before ≡ Ok ps → KeepsSource env xs b ps
keeps_source env xs b spelt lawful to alike before ps e =
    let m = typing_of env in
    let named = lawful_named env xs b spelt lawful in
    let kept = named_executions_kept m (map name_at xs) (named_body b) named.0 named.1 in
    let both : Ok kept.text ≡ Ok (rewritten_text m (named_body b)) = sym kept.is_text ∙ has_text m (map name_at xs) (named_body b) named.0 named.1 in
    record {
      text = kept.text;
      is_text = kept.is_text;
      is_rewritten = cc both;
      executes = kept.alike;
      stays_valid = text_stays_valid m (map name_at xs) (named_body b) named.0 named.1 kept.text kept.is_text;
      locations = pairs_located m (map name_at xs) (named_body b) named.0 named.1 kept.text kept.is_text to alike before ps e;
      places = places_increase to (body_tree env b) before ps e;
      honest = locations_agree m (map name_at xs) (named_body b) named.0 named.1 kept.text kept.is_text to alike before ps e;
    }

-- ---- of a function that a parse made

module _ {S F : Type 0} (calls : Shared F (Bor ℕ × Unit {0}) ℕ) (i : ParseInput S F) (by : EmitInput) (f : Function) (mapping : List (ℕ × ℕ)) (a : AcceptsBody calls i f mapping) where
  abbrev tree : FunctionTree
  tree = body_tree i.environment a.body

  its_tree : HasTree f.sequences (first_slot f) tree
  its_tree = from_slot f tree a.is_function

  its_spellings : AllByRecursion HasSpelling a.accepted.operators
  its_spellings = listed_spelt a.accepted.operators _ i.bytes [] a.accepted.all.spelt

  pub rewrites : {Z : Type 0} → BalanceAlike (typing_of i.environment) by.to → (old new : List ℕ) (entry : Option (LentPairs Z)) (exit : Left (LentPairs Z)) (bytes : List ℕ) (pairs : List Pair) → IsRawBodyOf by f bytes pairs
      → new ≡ old ++ bytes → AppendsPairs pairs entry exit → Rewrites calls i by f mapping old new entry exit
  rewrites alike old new entry exit bytes pairs h appends appends_pairs =
      let raw = subst (λ t. IsRawBody by t bytes pairs) (only_tree f tree a.is_function h.tree h.has_tree) h.is_raw_body in
      record {
        accepts = a;
        raw = bytes;
        pairs = pairs;
        is_raw_body = raw;
        keeps = keeps_source i.environment a.accepted.operators a.body its_spellings a.accepted.lawful (numbering_locals by.to by.args (ids_of raw.others)) alike (length (encoded.declaration_bytes raw.declarations)) pairs raw.pairs_are;
        bytes = appends;
        appends_pairs = appends_pairs;
      }

  given_both : (on_instr_pos : Option (Bor F)) → BothOrNone on_instr_pos (locations_in on_instr_pos i.offset mapping)
  given_both None = tt
  given_both (Some g) = tt

  is_accepted : IsAcceptedAs calls i by a.body
  is_accepted = record { locations = mapped_by calls i mapping; are_given = given_both i.on_instr_pos; accepted = a.accepted }

  -- its instructions can be counted: they are no more than the bytes
  pub refuses : AreIdNumbers by.to → length i.bytes < 2 ^ 64 → (e : RewriteError) → IsNotAppended by f e → RefusesRewriting calls i by e
  refuses ids few (Parse p) h = absurd h
  refuses ids few (Walk w) (inl (inl memory)) = memory
  refuses ids few (Walk w) (inl (inr fault)) = absurd (tree_has_no_fault f.sequences (first_slot f) its_tree.unfolded w its_tree.is_tree fault)
  refuses ids few (Walk w) (inr large) =
      let t = large.1 in
      let same = only_tree f tree a.is_function (tree_of t.tree) (record { unfolded = t.tree; is_tree = t.is_tree; is = refl }) in
      let counted = sym (count_of_tree t.tree) ∙ ap (λ (u : FunctionTree). count u.items) same in
      let bounded = few_instructions i.environment a.accepted.operators a.body _ i.bytes a.accepted.all.spelt a.accepted.lawful.is_body in
      absurd (omega (arith, t.holds, counted, bounded, few))
  refuses ids few (Emit e) (inl memory) = inl memory
  refuses ids few (Emit e) (inr h) =
      let none = subst (λ t. HasNoRawBody by t e) (only_tree f tree a.is_function h.0 h.1) h.2 in
      inr (a.body, is_accepted, no_parsed_body i.environment a.accepted.operators a.body its_spellings a.accepted.lawful by ids e none)

-- the operators of a body are no more bytes than it has
pub few_operators : (body : FunctionBody) → body.start + length body.bytes.now < 2 ^ 64 → length (body_operators body) < 2 ^ 64
few_operators body fits = omega (arith, fits, length-drop body.ops body.bytes.now)

-- ---- after a parse

module _ {S F : Type 0} (calls : Shared F (Bor ℕ × Unit {0}) ℕ) (i : ParseInput S F) (m : Module) (out : IdsToIndices) (args : List ℕ) where
  abbrev by : EmitInput
  by = record { to = numbers_by m.types out []; types = m.locals; args = args }

  by_is : (p : FunctionParts) → p.args ≡ args → emit_input out m p ≡ by
  by_is p e = ap (λ list. (let g : EmitInput = record { to = numbers_by m.types out []; types = m.locals; args = list } in g)) e

  abbrev IsOfModule : Type 0
  IsOfModule = BalanceAlike (typing_of i.environment) (numbers_by m.types out [])

  abbrev Accepts : FunctionParts → Type 0
  Accepts p = AcceptsBody calls i p.builder p.instruction_mapping

  pub with_map : {Z : Type 0} → IsOfModule → (p : FunctionParts) → p.args ≡ args → Accepts p → (old new : List ℕ) (list left : LentPairs Z)
      → AppendsRawBody (emit_input out m p) p.builder old new (Some (list.now.items, left.now.items))
      → Rewrites calls i by p.builder p.instruction_mapping old new (Some list) (inr (inl (left, tt)))
  with_map alike p e a old new list left w =
      let h = subst (λ g. IsRawBodyOf g p.builder w.raw w.pairs) (by_is p e) w.is_raw_body in
      rewrites calls i by p.builder p.instruction_mapping a alike old new (Some list) (inr (inl (left, tt))) w.raw w.pairs h w.appends w.appends_pairs

  pub without_map : {Z : Type 0} → IsOfModule → (p : FunctionParts) → p.args ≡ args → Accepts p → (old new : List ℕ) → AppendsRawBody (emit_input out m p) p.builder old new None
      → Rewrites calls i by {Z = Z} p.builder p.instruction_mapping old new None (inl tt)
  without_map alike p e a old new w =
      let h = subst (λ g. IsRawBodyOf g p.builder w.raw w.pairs) (by_is p e) w.is_raw_body in
      rewrites calls i by p.builder p.instruction_mapping a alike old new None (inl tt) w.raw w.pairs h w.appends tt

  pub all_with_map : {Z : Type 0} → IsOfModule → (r : Result FunctionParts ParseFailure) (s : Result FunctionParts RewriteError) → IfOk r Accepts → IfOk r (λ p. p.args ≡ args)
      → (old new : List ℕ) (list left : LentPairs Z) → IfOk s (λ made. (r ≡ Ok made) × AppendsRawBody (emit_input out m made) made.builder old new (Some (list.now.items, left.now.items)))
      → IfOk s (λ made. Rewrites calls i by made.builder made.instruction_mapping old new (Some list) (inr (inl (left, tt))))
  all_with_map alike r (Err e) a g old new list left h = tt
  all_with_map alike r (Ok made) a g old new list left h =
      with_map alike made (subst (λ q. IfOk q (λ p. p.args ≡ args)) h.0 g) (subst (λ q. IfOk q Accepts) h.0 a) old new list left h.1

  pub all_without_map : (Z : Type 0) → IsOfModule → (r : Result FunctionParts ParseFailure) (s : Result FunctionParts RewriteError) → IfOk r Accepts → IfOk r (λ p. p.args ≡ args)
      → (old new : List ℕ) → IfOk s (λ made. (r ≡ Ok made) × AppendsRawBody (emit_input out m made) made.builder old new None)
      → IfOk s (λ made. Rewrites calls i by {Z = Z} made.builder made.instruction_mapping old new None (inl tt))
  all_without_map Z alike r (Err e) a g old new h = tt
  all_without_map Z alike r (Ok made) a g old new h =
      without_map {Z = Z} alike made (subst (λ q. IfOk q (λ p. p.args ≡ args)) h.0 g) (subst (λ q. IfOk q Accepts) h.0 a) old new h.1

  pub begins_all : (r : Result FunctionParts ParseFailure) → IfOk r Accepts → IfOk r (λ p. HasEntry p.builder)
  begins_all (Ok p) a = begins p.builder (body_tree i.environment a.body) a.is_function
  begins_all (Err f) a = tt

  refuses_all : (r : Result FunctionParts ParseFailure) → IfOk r Accepts → IfErr r (RefusesBody calls i) → IfOk r (λ p. p.args ≡ args) → length i.bytes < 2 ^ 64 → (e : RewriteError)
      → IsNotFinished (emit_input out m) r e → RefusesRewriting calls i by e
  refuses_all (Ok p) a f g few e h = refuses calls i by p.builder p.instruction_mapping a (are_id_numbers m.types out) few e (subst (λ b. IsNotAppended b p.builder e) (by_is p g) h)
  refuses_all (Err p) a f g few e h = subst (RefusesRewriting calls i by) (sym h) f

  pub refused_all : (r : Result FunctionParts ParseFailure) → IfOk r Accepts → IfErr r (RefusesBody calls i) → IfOk r (λ p. p.args ≡ args) → length i.bytes < 2 ^ 64
      → (s : Result FunctionParts RewriteError) → IfErr s (IsNotFinished (emit_input out m) r) → IfErr s (RefusesRewriting calls i by)
  refused_all r a f g few (Ok made) h = tt
  refused_all r a f g few (Err e) h = refuses_all r a f g few e h

  -- a fault of the parse is returned
  pub faults_all : (r : Result FunctionParts ParseFailure) (p : ParseFailure) → IsErr r × IfErr r (λ q. (q.error ≡ parse.Memory) ⊎ (q ≡ p))
      → (P : FunctionParts → Type 0) (s : Result FunctionParts RewriteError) → IfOk s (λ made. (r ≡ Ok made) × P made) → IfErr s (IsNotFinished (emit_input out m) r) → IsErr s × IfErr s (λ e. IsOutOfMemory e ⊎ (e ≡ Parse p))
  faults_all (Ok q) p h P s ok err = absurd (let no = h.0 in cc)
  faults_all (Err q) p h P (Ok made) ok err = absurd (let no = ok.0 in cc)
  faults_all (Err q) p h P (Err e) ok err = (refl, of_fault h.1)
    where
      of_fault : (q.error ≡ parse.Memory) ⊎ (q ≡ p) → IsOutOfMemory e ⊎ (e ≡ Parse p)
      of_fault (inl memory) = inl (subst IsOutOfMemory (sym err) memory)
      of_fault (inr is) = inr (err ∙ ap Parse is)

  -- and an accepted body isn't refused by it
  pub bodies_all : (r : Result FunctionParts ParseFailure) → IfErr r (λ q. q.error ≡ parse.Memory) → (s : Result FunctionParts RewriteError)
      → IfErr s (IsNotFinished (emit_input out m) r) → IfErr s IsOfWriting
  bodies_all r h (Ok made) err = tt
  bodies_all (Ok p) h (Err (Parse f)) err = absurd err
  bodies_all (Ok p) h (Err (Walk w)) err = tt
  bodies_all (Ok p) h (Err (Emit e)) err = tt
  bodies_all (Err q) h (Err e) err = subst IsOfWriting (sym err) h
