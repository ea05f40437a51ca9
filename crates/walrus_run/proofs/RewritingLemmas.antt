-- Bodies in the demo module: a parsed body can be written, and a result is that of an accepted body.
use Rattle.std.specs.Prelude.{◌≡◌, ◌⊎◌, ℕ, List, [], ◌∷◌, length, drop, map, Option, None, Ok}
use Rattle.std.specs.Borrow.{Bor}
use Rattle.std.specs.Fn.{Shared}
use Rattle.std.specs.List.{AllByRecursion}
use Rattle.std.proofs.Common.{inl, inr, refl, sym, ap, subst, ◌∙◌, arith}
use Rattle.std.proofs.Math.Seq.{drop-append_seam}
use Rattle.walrus_ir.specs.declared.module.Module.{Module}
use Rattle.walrus_ir.specs.declared.error.WalkError.{WalkError}
use Rattle.walrus_ir.specs.declared.error.WalkError.TheVariants as walk
use Rattle.walrus_ir.specs.Function.{Function}
use Rattle.walrus_ir.specs.Walk.{HasNoWalk}
use Rattle.walrus_ir.proofs.WalkLaws.{tree_has_no_fault}
use Rattle.wasm_operators.specs.OperatorList.{Lists}
use Rattle.wasm_operators.proofs.ReadingBytes.{reading_agrees}
use Rattle.wasm_encode.specs.Declarations as encoded
use Rattle.wasm_body.specs.declared.error.EmitError.{EmitError}
use Rattle.wasm_body.specs.declared.error.EmitError.TheVariants.{Memory}
use Rattle.wasm_body.specs.declared.error.ParseError.TheVariants as parse
use Rattle.wasm_body.specs.declared.error.ParseFailure.{ParseFailure}
use Rattle.wasm_body.specs.SourceTree.{Body}
use Rattle.wasm_body.specs.Naming.{Occurrence}
use Rattle.wasm_body.specs.FunctionTree.{FunctionTree}
use Rattle.wasm_body.specs.TreeOfFunction.{tree_of, HasTree}
use Rattle.wasm_body.specs.NormalForm.{body_tree}
use Rattle.wasm_body.specs.LocalNumbers.{ids_of, uses_local, AreDeclared, numbering_locals}
use Rattle.wasm_body.specs.Pairs.{Pair}
use Rattle.wasm_body.specs.Parsing.Accepted.{Accepted, FirstFault, placed}
use Rattle.wasm_body.specs.Parsing.Lists.{parsed}
use Rattle.wasm_body.specs.Bytes.{tree_bytes}
use Rattle.wasm_body.proofs.Parsing.ParseResults.{accepted_parsed, fault_parsed}
use Rattle.wasm_body.proofs.Bytes.NumberedBodies.{HasText}
use Rattle.walrus_maps.specs.declared.indices_to_ids.IndicesToIds.{IndicesToIds}
use Rattle.walrus_maps.specs.declared.ids_to_indices.IdsToIndices.{IdsToIndices}
use Rattle.walrus_facts.specs.Facts.{count}
use Rattle.walrus_body.specs.FunctionParts.{FunctionParts}
use Rattle.walrus_body.specs.LocalFunctions.{first_slot, HasEntry}
use Rattle.walrus_parser.specs.Bodies.{ParseInput, input_of, setting_with, IsFunction, AcceptsBody}
use Rattle.walrus_parser.specs.Settings.{BothOrNone}
use Rattle.walrus_facts.specs.Sizes.{IsTooLarge}
use Rattle.walrus_numbering.specs.NumberMaps.{numbers_by}
use Rattle.walrus_facts.proofs.LocalsOfTrees.{count_of_tree}
use Rattle.walrus_rewrite.specs.declared.error.RewriteError.{RewriteError}
use Rattle.walrus_rewrite.specs.declared.error.RewriteError.TheVariants.{Parse}
use Rattle.walrus_run.specs.Demo.{demo_module, demo_types, demo_indices, demo_locals, demo_args, demo_environment, demo, demo_numbers}
use Rattle.walrus_rewrite.specs.RawBodies.{EmitInput, emit_input, IsRawBodyOf, HasNoRawBody}
use Rattle.walrus_run.specs.Rewriting.{IsNormalBytes, IsRewrittenDemo, IsParsedDemo, IsFaulty}
use Rattle.walrus_rewrite.specs.Errors.{IsOutOfMemory}
use Rattle.walrus_rewrite.proofs.Counts.{few_instructions}
use Rattle.walrus_run.proofs.DemoLocals.{has_raw_body}
use Rattle.walrus_body.proofs.OneTree.{from_slot, only_tree, begins}
use Rattle.walrus_rewrite.proofs.SameResults.{same_result, same_refusal, not_both}

abbrev pub demo_tree : Body Occurrence → FunctionTree
demo_tree b = body_tree demo_environment b

-- ---- an accepted body can be written

-- the operators that bytes list have encodings
listed_texts : (xs : List Occurrence) (place : ℕ) (bytes rest : List ℕ) → Lists (map placed xs) place bytes rest → AllByRecursion HasText xs
listed_texts [] place bytes rest l = tt
listed_texts (x ∷ xs) place bytes rest l = ((l.1, l.4), listed_texts xs _ l.2 rest l.5)

pub accepted_texts : (ops : List ℕ) (b : Body Occurrence) (a : Accepted demo ops b) → AllByRecursion HasText a.operators
accepted_texts ops b a = listed_texts a.operators _ ops [] a.all.spelt

-- ---- a function that a parse in the demo module made

abbrev pub demo_emit_input : EmitInput
demo_emit_input = record { to = demo_numbers; types = demo_locals; args = demo_args }

module _ (f : Function) (p : IsParsedDemo f) where
  abbrev tree : FunctionTree
  tree = demo_tree p.body

  pub its_tree : HasTree f.sequences (first_slot f) tree
  its_tree = from_slot f tree p.is_function

  pub parsed_begins : HasEntry f
  parsed_begins = begins f tree p.is_function

  -- its facts are gathered unless memory runs out
  pub no_walk : (w : WalkError) → HasNoWalk f.sequences (first_slot f) w ⊎ IsTooLarge f.sequences (first_slot f) w → w ≡ walk.Memory
  no_walk w (inl (inl memory)) = memory
  no_walk w (inl (inr fault)) = absurd (tree_has_no_fault f.sequences (first_slot f) its_tree.unfolded w its_tree.is_tree fault)
  no_walk w (inr large) =
      let t = large.1 in
      let same = only_tree f tree p.is_function (tree_of t.tree) (record { unfolded = t.tree; is_tree = t.is_tree; is = refl }) in
      let counted = sym (count_of_tree t.tree) ∙ ap (λ (u : FunctionTree). count u.items) same in
      let bounded = few_instructions demo_environment p.accepted.operators p.body 0 p.ops p.accepted.all.spelt p.accepted.lawful.is_body in
      absurd (omega (arith, t.holds, counted, bounded, p.few))

  -- and it has a raw body
  pub no_fault : (e : EmitError) → (e ≡ Memory) ⊎ ((t : FunctionTree) × HasTree f.sequences (first_slot f) t × HasNoRawBody demo_emit_input t e) → e ≡ Memory
  no_fault e (inl memory) = memory
  no_fault e (inr h) =
      let same = only_tree f tree p.is_function h.0 h.1 in
      absurd (has_raw_body p.accepted.operators p.body (accepted_texts p.ops p.body p.accepted) p.accepted.lawful e (subst (λ t. HasNoRawBody demo_emit_input t e) same h.2))

  -- whose bytes after the declarations are those of the normal form
  pub normal_bytes : (g : EmitInput) → g ≡ demo_emit_input → (raw : List ℕ) (pairs : List Pair) (r : IsRawBodyOf g f raw pairs) (out : List ℕ)
      → out ≡ drop (length (encoded.declaration_bytes r.is_raw_body.declarations)) raw → (b : Body Occurrence) → IsFunction f (demo_tree b) → IsNormalBytes b out
  normal_bytes g same raw pairs r out is b has =
      let tree_is = only_tree f (demo_tree b) has r.tree r.has_tree in
      let w = r.is_raw_body in
      let declared = encoded.declaration_bytes w.declarations in
      let written = is ∙ (ap (λ l. drop (length declared) l) w.bytes_are ∙ drop-append_seam declared w.operators) in
      record {
        others = w.others;
        are_declared = subst (λ (h : EmitInput). AreDeclared h.types h.args (uses_local (demo_tree b)) w.others) same (subst (λ t. AreDeclared g.types g.args (uses_local t) w.others) tree_is w.are_declared);
        bytes_are =
            subst (λ (h : EmitInput). tree_bytes (numbering_locals h.to h.args (ids_of w.others)) (demo_tree b) ≡ Ok w.operators) same
            (subst (λ t. tree_bytes (numbering_locals g.to g.args (ids_of w.others)) t ≡ Ok w.operators) tree_is w.operators_are)
            ∙ ap Ok (sym written);
      }

-- the numbers, types and arguments of the demo module's functions
pub same_emit_input : (out : IdsToIndices) (m : Module) (f : FunctionParts) → numbers_by demo_types out [] ≡ demo_numbers → m ≡ demo_module → f.args ≡ demo_args
    → emit_input out m f ≡ demo_emit_input
same_emit_input out m f numbers module_is args =
    let to : numbers_by m.types out [] ≡ demo_numbers = ap (λ (n : Module). numbers_by n.types out []) module_is ∙ numbers in
    λ k. record { to = to k; types = (module_is k).locals; args = args k }

-- ---- in the demo module

abbrev pub demo_input : {F : Type 0} → Module → IndicesToIds → (function type : ℕ) → List ℕ → ParseInput (Unit {0}) F
demo_input m i function type ops = input_of m i function type 0 ops None (λ s x. Ok s) tt

module _ {F : Type 0} (g : Shared F (Bor ℕ × Unit {0}) ℕ) (m : Module) (i : IndicesToIds) (function type : ℕ) (m_is : m ≡ demo_module) (i_is : i ≡ demo_indices) (function_is : function ≡ 0) (type_is : type ≡ 1) (ops : List ℕ) where
  same_input : demo_input {F = F} m i function type ops ≡ demo_input demo_module demo_indices 0 1 ops
  same_input = λ k. demo_input (m_is k) (i_is k) (function_is k) (type_is k) ops

  pub demo_accepts : (f : Function) (mapping : List (ℕ × ℕ)) → AcceptsBody g (demo_input m i function type ops) f mapping → (b : Body Occurrence) × Accepted demo ops b × IsFunction f (demo_tree b)
  demo_accepts f mapping a =
      let b = subst (λ j. AcceptsBody g j f mapping) same_input a in
      (b.body, b.accepted, b.is_function)

-- a refusal doesn't depend on a location function
pub demo_refuses : (m : Module) (i : IndicesToIds) (function type : ℕ) → m ≡ demo_module → i ≡ demo_indices → function ≡ 0 → type ≡ 1 → (ops : List ℕ) (f : ParseFailure) →
    (f.error ≡ parse.Memory) ⊎ ((locations : Option (ℕ → ℕ)) → (let none : Option (Bor ℕ) = None in BothOrNone none locations) → FirstFault (setting_with (demo_input {F = ℕ} m i function type ops) locations) ops f) →
    IsOutOfMemory (Parse f) ⊎ IsFaulty ops (Parse f)
demo_refuses m i function type m_is i_is function_is type_is ops f (inl memory) = inl memory
demo_refuses m i function type m_is i_is function_is type_is ops f (inr fault) =
    let same : demo_input {F = ℕ} m i function type ops ≡ demo_input demo_module demo_indices 0 1 ops = λ k. demo_input (m_is k) (i_is k) (function_is k) (type_is k) ops in
    inr (f, subst (λ j. FirstFault (setting_with j None) ops f) same (fault None tt), refl)

-- ---- each body and each fault

-- the bytes of an accepted body are returned; it is refused only if memory runs out
pub body_returned : (ops out : List ℕ) (b : Body Occurrence) → Accepted demo ops b → IsRewrittenDemo ops out → IsNormalBytes b out
body_returned ops out b a w =
    subst (λ (c : Body Occurrence). IsNormalBytes c out)
    (same_result (parsed demo ops) w.0 b (accepted_parsed demo reading_agrees ops w.0 w.1) (accepted_parsed demo reading_agrees ops b a)) w.2

pub body_not_refused : (ops : List ℕ) (e : RewriteError) (b : Body Occurrence) → Accepted demo ops b → IsOutOfMemory e ⊎ IsFaulty ops e → IsOutOfMemory e
body_not_refused ops e b a (inl memory) = memory
body_not_refused ops e b a (inr f) = absurd (not_both (parsed demo ops) b f.0 (accepted_parsed demo reading_agrees ops b a) (fault_parsed demo reading_agrees ops f.0 f.1))

-- a body with a first fault is refused for it
pub fault_not_written : (ops out : List ℕ) (f : ParseFailure) → FirstFault demo ops f → IsRewrittenDemo ops out → ⊥
fault_not_written ops out f fault w = not_both (parsed demo ops) w.0 f (accepted_parsed demo reading_agrees ops w.0 w.1) (fault_parsed demo reading_agrees ops f fault)

pub fault_returned : (ops : List ℕ) (e : RewriteError) (f : ParseFailure) → FirstFault demo ops f → IsOutOfMemory e ⊎ IsFaulty ops e → IsOutOfMemory e ⊎ (e ≡ Parse f)
fault_returned ops e f fault (inl memory) = inl memory
fault_returned ops e f fault (inr g) =
    inr (g.2 ∙ ap Parse (same_refusal (parsed demo ops) g.0 f (fault_parsed demo reading_agrees ops g.0 g.1) (fault_parsed demo reading_agrees ops f fault)))
