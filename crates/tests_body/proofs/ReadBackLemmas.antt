-- Reading back: the contracts of parsing and writing, and the laws, combined.
use Rattle.std.specs.Prelude.{◌≡◌, ◌⊎◌, ℕ, List, [], ◌∷◌, Option, Some, IsOk, IfErr, Result, Ok, Err}
use Rattle.std.specs.List.{AllByRecursion}
use Rattle.std.proofs.Common.{inl, inr, refl, ap, subst, ◌∙◌}
use Rattle.walrus_ir.specs.declared.module.Module.{Module}
use Rattle.walrus_ir.specs.Function.{Function}
use Rattle.walrus_ir.specs.Types.{ModuleType}
use Rattle.walrus_ir.proofs.WalkLaws.{tree_has_no_fault}
use Rattle.wasm_operators.specs.OperatorList.{Placed}
use Rattle.wasm_body.specs.declared.error.EmitError.{EmitError}
use Rattle.wasm_body.specs.declared.error.EmitError.TheVariants.{Memory, Index, UnnumberedLocal}
use Rattle.wasm_body.specs.declared.error.IndexError.TheVariants.{Unnumbered}
use Rattle.wasm_body.specs.declared.error.ParseError.TheVariants as parse
use Rattle.wasm_body.specs.declared.error.ParseFailure.{ParseFailure}
use Rattle.wasm_body.specs.SourceTree.{Body}
use Rattle.wasm_numbers.specs.Results.{◌>>=◌, some_or, with_fault}
use Rattle.std.specs.Ordering.{nat_cmp}
use Rattle.std.specs.FinMap.{empty, get, get-empty}
use Rattle.wasm_operators.specs.declared.types.Space.{Space}
use Rattle.walrus_maps.specs.declared.ids_to_indices.IdsToIndices.{IdsToIndices}
use Rattle.walrus_maps.specs.IndexMaps.{numbers_in}
use Rattle.walrus_numbering.specs.EmittedLocals.{number_in}
use Rattle.walrus_numbering.specs.NumberMaps.{fitting_number, numbers_by}
use Rattle.walrus_numbering.proofs.FittingNumbers.{unnumbered_local}
use Rattle.wasm_body.specs.Naming.{Environment, Occurrence}
use Rattle.wasm_body.specs.FunctionTree.{FunctionTree}
use Rattle.wasm_body.specs.TreeOfFunction.{HasTree}
use Rattle.wasm_body.specs.NormalForm.{body_tree}
use Rattle.wasm_body.specs.Bytes.{Numbers, tree_bytes}
use Rattle.wasm_body.specs.Parsing.Accepted.{Accepted, FirstFault, validated}
use Rattle.wasm_body.specs.ReadBack.{IsInverse, InverseUndoes, AcceptedAgain, AreReadable, IsAcceptedAgain}
use Rattle.walrus_maps.specs.declared.indices_to_ids.IndicesToIds.{IndicesToIds}
use Rattle.walrus_maps.specs.Environments.{environment_of}
use Rattle.walrus_body.specs.LocalFunctions.{first_slot, HasEntry}
use Rattle.walrus_parser.specs.Settings.{given_with}
use Rattle.walrus_body.specs.EmittedInstructions.{IsNotEmitted}
use Rattle.walrus_rewrite.specs.declared.error.RewriteError.{RewriteError}
use Rattle.walrus_rewrite.specs.declared.error.RewriteError.TheVariants.{Parse, Walk, Emit}
use Rattle.walrus_rewrite.specs.Errors.{IsOutOfMemory}
use Rattle.walrus_body.proofs.OneTree.{from_slot, only_tree, begins}
use Rattle.walrus_rewrite.proofs.SameResults.{same_result, same_refusal, not_both}
use Rattle.tests_body.specs.ReadBack.{reading_by, IsReadAs, IsWrittenAs, HasBytes, IsFirstFault, IsRefusedAs, HasFault}

-- ---- refusals

-- a fault that is the first with every location function is the first with each of them
pub first_fault : (env : Environment) (ops : List ℕ) (AreGiven : Option (ℕ → ℕ) → Type 0) {A : Type 0} (r : Result A ParseFailure)
    → IfErr r (λ f. (f.error ≡ parse.Memory) ⊎ ((locations : Option (ℕ → ℕ)) → AreGiven locations → FirstFault (given_with {S = Unit {0}} env 0 (λ s _. Ok s) tt locations) ops f))
    → ((locate : ℕ → ℕ) → AreGiven (Some locate)) → IfErr r (λ f. (f.error ≡ parse.Memory) ⊎ IsFirstFault env ops f)
first_fault env ops AreGiven (Ok made) h given = tt
first_fault env ops AreGiven (Err f) (inl memory) given = inl memory
first_fault env ops AreGiven (Err f) (inr first) given = inr (λ locate. first (Some locate) (given locate))

-- ---- a function that was read

module _ (env : Environment) (to : Numbers) (ops : List ℕ) (f : Function) (read : IsReadAs env ops f) where
  abbrev tree : FunctionTree
  tree = body_tree env read.body

  -- its entry is a sequence of its builder
  pub read_begins : HasEntry f
  read_begins = begins f tree read.is_function

  -- its bytes are those of the body's normal form
  pub is_written : (t : FunctionTree) → HasTree f.sequences (first_slot f) t → (bytes : List ℕ) → tree_bytes to t ≡ Ok bytes → IsWrittenAs env to ops bytes
  is_written t h bytes e =
      record { locate = read.locate; body = read.body; accepted = read.accepted; bytes_are = subst (λ u. tree_bytes to u ≡ Ok bytes) (only_tree f tree read.is_function t h) e }

  -- if it isn't written, memory ran out, or this is the first fault of writing the normal form
  unwritten : (e : EmitError) → IsNotEmitted f to e → (e ≡ Memory) ⊎ (tree_bytes to tree ≡ Err e)
  unwritten e (inl memory) = inl memory
  unwritten e (inr (inl walk)) =
      let has = from_slot f tree read.is_function in
      absurd (tree_has_no_fault f.sequences (first_slot f) has.unfolded walk.0 has.is_tree walk.1)
  unwritten e (inr (inr h)) = inr (subst (λ u. tree_bytes to u ≡ Err e) (only_tree f tree read.is_function h.0 h.1) h.2)

  pub is_refused : (e : EmitError) → IsNotEmitted f to e → IsOutOfMemory (Emit e) ⊎ IsRefusedAs env to ops (Emit e)
  is_refused e h = by_fault (unwritten e h)
    where
      by_fault : (e ≡ Memory) ⊎ (tree_bytes to tree ≡ Err e) → IsOutOfMemory (Emit e) ⊎ IsRefusedAs env to ops (Emit e)
      by_fault (inl memory) = inl memory
      by_fault (inr fault) = inr (record { locate = read.locate; body = read.body; accepted = read.accepted; fault_is = fault })

  module _ (bytes : List ℕ) (has : HasBytes env to ops bytes) where
    its_bytes : tree_bytes to tree ≡ Ok bytes
    its_bytes = has.bytes_are read.locate read.body read.accepted

    pub only_bytes : (t : FunctionTree) → HasTree f.sequences (first_slot f) t → (made : List ℕ) → tree_bytes to t ≡ Ok made → made ≡ bytes
    only_bytes t h made e = same_result (tree_bytes to tree) made bytes (subst (λ u. tree_bytes to u ≡ Ok made) (only_tree f tree read.is_function t h) e) its_bytes

    -- if it has bytes, it is written unless memory runs out
    pub no_fault : (e : EmitError) → IsNotEmitted f to e → e ≡ Memory
    no_fault e h = by_fault (unwritten e h)
      where
        by_fault : (e ≡ Memory) ⊎ (tree_bytes to tree ≡ Err e) → e ≡ Memory
        by_fault (inl memory) = memory
        by_fault (inr fault) = absurd (not_both (tree_bytes to tree) bytes e its_bytes fault)

  -- if the operators have a fault, the function isn't written; it is refused for that fault unless memory runs out
  module _ (found : (locate : ℕ → ℕ) (p : ParseFailure) → FirstFault (reading_by env locate) ops p → ⊥) where
    pub fault_not_written : (fault : RewriteError) → HasFault env to ops fault → (t : FunctionTree) → HasTree f.sequences (first_slot f) t → (bytes : List ℕ) → tree_bytes to t ≡ Ok bytes → ⊥
    fault_not_written (Parse p) has t h bytes e = found has.0 p has.1
    fault_not_written (Walk w) has t h bytes e = has
    fault_not_written (Emit x) has t h bytes e =
        not_both (tree_bytes to tree) bytes x (subst (λ u. tree_bytes to u ≡ Ok bytes) (only_tree f tree read.is_function t h) e) (has.fault_is read.locate read.body read.accepted)

    pub fault_written : (fault : RewriteError) → HasFault env to ops fault → (e : EmitError) → IsNotEmitted f to e → IsOutOfMemory (Emit e) ⊎ (Emit e ≡ fault)
    fault_written (Parse p) has e h = absurd (found has.0 p has.1)
    fault_written (Walk w) has e h = absurd has
    fault_written (Emit x) has e h = by_fault (unwritten e h)
      where
        by_fault : (e ≡ Memory) ⊎ (tree_bytes to tree ≡ Err e) → IsOutOfMemory (Emit e) ⊎ (Emit e ≡ Emit x)
        by_fault (inl memory) = inl memory
        by_fault (inr fault) = inr (ap Emit (same_refusal (tree_bytes to tree) e x fault (has.fault_is read.locate read.body read.accepted)))

-- operators that aren't read are refused for the fault that they have
module _ (env : Environment) (to : Numbers) (ops : List ℕ) (failure : ParseFailure) where
  module _ (each_body : (locate : ℕ → ℕ) (b : Body Occurrence) → Accepted (reading_by env locate) ops b → failure.error ≡ parse.Memory)
      (each_fault : (locate : ℕ → ℕ) (p : ParseFailure) → FirstFault (reading_by env locate) ops p → (failure.error ≡ parse.Memory) ⊎ (failure ≡ p)) where
    pub fault_read : (fault : RewriteError) → HasFault env to ops fault → IsOutOfMemory (Parse failure) ⊎ (Parse failure ≡ fault)
    fault_read (Parse p) has = by_fault (each_fault has.0 p has.1)
      where
        by_fault : (failure.error ≡ parse.Memory) ⊎ (failure ≡ p) → IsOutOfMemory (Parse failure) ⊎ (Parse failure ≡ Parse p)
        by_fault (inl memory) = inl memory
        by_fault (inr same) = inr (ap Parse same)
    fault_read (Walk w) has = absurd has
    fault_read (Emit x) has = inl (each_body (λ n. n) (has.body (λ n. n)) (has.accepted (λ n. n)))

-- ---- read again

always : {A : Type 0} (P : A → Type 0) → ((x : A) → P x) → (xs : List A) → AllByRecursion P xs
always P p [] = tt
always P p (x ∷ xs) = (p x, always P p xs)

passes : (xs : List Placed) → IsOk (validated {V = Unit {0}} (λ s _. Ok s) tt xs)
passes [] = refl
passes (x ∷ xs) = passes xs

-- with a location function and a validator that accepts every operator, all bytes are readable
readable : (env : Environment) (locate : ℕ → ℕ) (bytes : List ℕ) → AreReadable (reading_by env locate) bytes
readable env locate bytes = record {
  have_locations = λ xs _. always _ (λ x. refl) xs;
  passes = λ xs _. passes xs;
}

module _ (m : Module) (from again : IndicesToIds) (id type : ℕ) (to : Numbers) (undone : IsInverse to (environment_of m again id type)) (undoes : InverseUndoes) (law : AcceptedAgain (Unit {0}) (Unit {0})) where
  abbrev env : Environment
  env = environment_of m from id type

  abbrev env_again : Environment
  env_again = environment_of m again id type

  module _ (ops bytes : List ℕ) (w : IsWrittenAs env to ops bytes) where
    read_again : (locate : ℕ → ℕ) → IsAcceptedAgain (reading_by env_again locate) to (body_tree env w.body) bytes
    read_again locate =
        law (reading_by env w.locate) ops w.body w.accepted to bytes w.bytes_are (reading_by env_again locate)
        (undoes env w.accepted.operators w.body w.accepted.lawful to env_again refl refl refl undone)
        (readable env_again locate bytes)

    -- the bytes written for a body have themselves as the bytes written for them
    pub has_itself : HasBytes env_again to bytes bytes
    has_itself = record {
      body = λ locate. (read_again locate).body;
      accepted = λ locate. (read_again locate).accepted;
      bytes_are = λ locate b accepted. (read_again locate).unchanged b accepted;
    }

-- ---- if there are no numbers, all are undone

pub none_undone : (types : List ModuleType) (out : IdsToIndices) (locals : List (ℕ × ℕ)) (again : Environment) → ((space : Space) → numbers_in out space ≡ empty) → locals ≡ [] → IsInverse (numbers_by types out locals) again
none_undone types out locals again none no_locals = record {
  indices = λ space id n h. absurd (not_both ((numbers_by types out locals).number_of space id) n (Index (Unnumbered space)) h
      (ap (λ m. with_fault Index (some_or (get m id) (Unnumbered space) >>= fitting_number (Unnumbered space))) (none space)
      ∙ ap (λ o. with_fault Index (some_or o (Unnumbered space) >>= fitting_number (Unnumbered space))) (get-empty nat_cmp id)));
  locals = λ id n h. absurd (not_both ((numbers_by types out locals).local_number id) n UnnumberedLocal h
      (unnumbered_local types out locals id (ap (λ l. number_in l id) no_locals ∙ get-empty nat_cmp id)));
}
