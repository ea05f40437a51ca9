-- What is written of a valid body is valid.
use Rattle.std.proofs.Common.{◌≡◌, ◌+◌, ◌<◌, ◌≤◌, ℕ, List, [], ◌∷◌, ◌++◌, length, map, take, slice_get, true, Some, Ok, refl, sym, ap, ◌∙◌, subst}
use Rattle.std.specs.Prelude.{IsOk, is_ok, is_some, unwrap_or}
use Rattle.std.specs.List.{AllByRecursion}
use Rattle.std.proofs.lemmas.List.{length-take-le}
use Rattle.wasm_types.specs.declared.val_type.ValType.{ValType}
use Rattle.wasm_numbers.specs.Results.{some_or}
use Rattle.wasm_numbers.proofs.ResultLemmas.{some_or_ok, with_fault_ok}
use Rattle.wasm_operators.specs.declared.types.Space.{Space}
use Rattle.wasm_operators.specs.OperatorList.{Placed, Lists}
use Rattle.wasm_operators.specs.Operations.{operation}
use Rattle.wasm_operators.specs.Shortest.{short}
use Rattle.wasm_operators.specs.Spelling.{Spells}
use Rattle.wasm_body.specs.declared.error.EmitError.TheVariants.{UnnumberedLocal}
use Rattle.wasm_body.specs.declared.error.IndexError.TheVariants.{LocalOutOfRange}
use Rattle.wasm_body.specs.Bytes.{Numbers, tree_bytes}
use Rattle.wasm_body.specs.Control.{Marked}
use Rattle.wasm_body.specs.LocalNumbers.{Local, types_of, ids_of, uses_local, AreDeclared, number_of_local, numbering_locals}
use Rattle.wasm_body.specs.LocationLaws.{BalanceAlike}
use Rattle.wasm_body.specs.Naming.{Environment, Occurrence}
use Rattle.wasm_body.specs.NormalForm.{Typing, typing_of, construct_type, name_at, named_body, body_tree}
use Rattle.wasm_body.specs.Parsing.Accepted.{HasSpelling, placed, Lawful}
use Rattle.wasm_body.specs.ReadBack.{IsInverse}
use Rattle.wasm_body.specs.RewrittenTree.{rewritten_body_by, rewritten_text}
use Rattle.wasm_body.specs.SourceTree.{Body, body_text}
use Rattle.wasm_body.specs.TextLaws.{IsTextOf}
use Rattle.wasm_body.specs.Translation.{translate_immediates, at_location}
use Rattle.wasm_body.specs.Validity.{state, IsValid, validate}
use Rattle.wasm_body.proofs.Bytes.Fitting.{fitting_result}
use Rattle.wasm_body.proofs.Bytes.LawfulTyped.{lawful_named}
use Rattle.wasm_body.proofs.Bytes.OtherLocals.{named_locals}
use Rattle.wasm_body.proofs.LocalNumbers.{last_place_get}
use Rattle.wasm_body.proofs.NormalForm.NamedTexts.{has_text}
use Rattle.wasm_body.proofs.NormalForm.Rewritten.{Named}
use Rattle.wasm_body.proofs.NormalForm.WrittenTexts.{type_at, anew_by, numbering_at, spelt_as, IsNumbered, bytes_as, numbered_bytes}
use Rattle.wasm_body.proofs.Translation.Steps.{bound}
use Rattle.wasm_typing.specs.Contexts.{OperandContext, initial_locals}
use Rattle.wasm_typing.specs.StandardRules.{standard_rules, IsValidBody}
use Rattle.wasm_typing.proofs.OperandLemmas.{standard_validity_kept}
use Rattle.wasm_context.specs.Validation.{BodyContext, BodyState, raw_named, body_start, refusal_number, steps_through}
use Rattle.renamed_locals.specs.RenamedLocals.{renamed, renamed_at, Names, Renames, context_with_locals}
use Rattle.renamed_locals.specs.DeclaredLocals.{parameter_indices, is_written_local, written_number}
use Rattle.renamed_locals.proofs.NumberedLocals.{written_are_renamed}
use Rattle.renamed_locals.proofs.SameRules.{renamed_stay_valid}
use Rattle.written_validity.specs.SharedModules.{SharesModule, HasIndices}
use Rattle.written_validity.specs.WrittenCode.{id_of_local}
use Rattle.written_validity.proofs.NamedSteps.{numbered, HaveNames, steps_are}
use Rattle.written_validity.proofs.RenamedNames.{locals_have_numbers}
use Rattle.written_validity.proofs.SourceLocals.{HasId, names_have_ids, named_back, ids_rename, have_parameters}
use Rattle.written_validity.proofs.SourceNames.{same_tags, IsNamedHere, all_named_here, all_source_names}
use Rattle.written_validity.proofs.WrittenNames.{written_name}
use Rattle.written_validity.proofs.WrittenOperators.{both_all, all_weaker, written_spelt, written_from, written_lists, IsWritable, all_writable, source_has_control}

abbrev shown_of : Marked Named → Named
shown_of x = x.shown

-- ---- a body that is written

module _
    (env : Environment) (xs : List Occurrence) (body : Body Occurrence) (spelt : AllByRecursion HasSpelling xs) (lawful : Lawful env xs body)
    (c : BodyContext) (alike : SharesModule env c) (index_of : ℕ → ℕ) (own : HasIndices env index_of)
    (types : List (ValType ℕ)) (typed : (n x : ℕ) → env.local_of n ≡ Ok x → slice_get types x ≡ slice_get c.operands.locals n)
    (parameters : ℕ) (within : parameters ≤ length c.operands.locals) (have_ids : (n : ℕ) → n < parameters → IsOk (env.local_of n))
    (to : Numbers) (numbers : (space : Space) (id n : ℕ) → to.number_of space id ≡ Ok n → env.id_of space n ≡ Ok id) (balanced : BalanceAlike (typing_of env) to)
    (others : List Local) (are : AreDeclared types (map (id_of_local env) (parameter_indices parameters)) (uses_local (body_tree env body)) others)
    (bytes : List ℕ) (written : tree_bytes (numbering_locals to (map (id_of_local env) (parameter_indices parameters)) (ids_of others)) (body_tree env body) ≡ Ok bytes) where
  abbrev m : Typing
  m = typing_of env

  abbrev first : List ℕ
  first = parameter_indices parameters

  abbrev args : List ℕ
  args = map (id_of_local env) first

  abbrev ids : List ℕ
  ids = args ++ ids_of others

  abbrev by : Numbers
  by = numbering_locals to args (ids_of others)

  abbrev f : ℕ → ℕ
  f n = written_number args others n

  abbrev new : List (ValType ℕ)
  new = take parameters c.operands.locals ++ types_of others

  abbrev pub with_new_locals : BodyContext
  with_new_locals = record c { operands = context_with_locals c.operands new }

  abbrev ms : List (Marked Named)
  ms = body_text (anew_by by.balanced m (named_body body))

  -- ---- numbers of locals

  is_number : (id n : ℕ) → by.local_number id ≡ Ok n → number_of_local args (ids_of others) id ≡ Some n
  is_number id n e = some_or_ok (number_of_local args (ids_of others) id) UnnumberedLocal n e

  number_is : (id n : ℕ) → by.local_number id ≡ Ok n → n ≡ f id
  number_is id n e = sym (ap (λ o. unwrap_or o 0) (is_number id n e))

  has_number : (id n : ℕ) → by.local_number id ≡ Ok n → is_written_local args others id ≡ true
  has_number id n e = ap is_some (is_number id n e)

  abbrev again : Environment
  again = record env { local_of = λ n. some_or (slice_get ids n) (LocalOutOfRange 0 n) }

  inverse : IsInverse by again
  inverse = record { indices = numbers; locals = λ id n e. ap (λ o. some_or o (LocalOutOfRange 0 n)) (last_place_get ids id n (is_number id n e)) }

  -- ---- each operator

  all_numbered : AllByRecursion (IsNumbered by m) ms × (bytes ≡ bytes_as by m ms)
  all_numbered = numbered_bytes by m (named_body body) bytes (source_has_control env xs body spelt lawful) written

  abbrev IsReady : Marked Named → Type 0
  IsReady x = IsNumbered by m x × IsWritable m x.shown x.control

  ready : AllByRecursion IsReady ms
  ready = both_all (IsNumbered by m) (λ x. IsWritable m x.shown x.control) ms all_numbered.0 (all_writable env xs body spelt lawful (λ o. by.balanced (construct_type m o)))

  lists : (start : ℕ) → Lists (written_from by m start ms) start bytes []
  lists start =
      subst (λ t. Lists (written_from by m start ms) start t []) (sym all_numbered.1)
      (written_lists by m ms start (all_weaker IsReady (λ x. Spells (spelt_as by m x) (short (spelt_as by m x))) (λ x h. written_spelt by again inverse m x h.1.can_spell h.0) ms ready))

  abbrev HasItsName : Marked Named → Type 0
  HasItsName x = raw_named with_new_locals (spelt_as by m x) ≡ Ok (renamed f x.shown.op)

  have_names : AllByRecursion HasItsName ms
  have_names =
      all_weaker IsReady HasItsName
      (λ x h. written_name env c alike by numbers f number_is new (type_at m x.control x.shown.op) x.shown.op (spelt_as by m x) h.0 h.1.has_signatures) ms ready

  named_from : (place : ℕ) (ys : List (Marked Named)) → AllByRecursion HasItsName ys
      → HaveNames m with_new_locals (same_tags env c alike) (written_from by m place ys) (map (renamed_at f) (map shown_of ys))
  named_from place [] h = tt
  named_from place (y ∷ ys) h = (h.0, named_from (place + length (short (spelt_as by m y))) ys h.1)

  abbrev NamesWritten : Named → Type 0
  NamesWritten y = Names (λ n. is_written_local args others n ≡ true) y.op

  names_written : (x : Marked Named) → IsReady x → NamesWritten x.shown
  names_written x h =
      let first = bound (translate_immediates (numbering_at by m x) x.shown.op.immediates) (λ is. Ok (record { opcode = x.shown.op.opcode; immediates = is })) (spelt_as by m x) h.0 in
      locals_have_numbers (numbering_at by m x) (λ n. is_written_local args others n ≡ true) (λ id n e. has_number id n (fitting_result (by.local_number id) n e).is_result)
      x.shown.op.immediates first.0 first.1

  all_names_written : (ys : List (Marked Named)) → AllByRecursion IsReady ys → AllByRecursion NamesWritten (map shown_of ys)
  all_names_written [] h = tt
  all_names_written (y ∷ ys) h = (names_written y h.0, all_names_written ys h.1)

  -- ---- the text

  text_is : (ys : List Named) → IsTextOf m (body_tree env body) ys → ys ≡ map shown_of ms
  text_is ys h =
      let typed = lawful_named env xs body spelt lawful in
      let both : Ok (rewritten_text m (named_body body)) ≡ Ok ys = sym (has_text m (map name_at xs) (named_body body) typed.0 typed.1) ∙ h in
      let same : rewritten_text m (named_body body) ≡ ys = cc both in
      sym same ∙ sym (λ i. map shown_of (body_text (rewritten_body_by (λ o. balanced (construct_type m o) i) (named_body body))))

  -- ---- the source, with indices for the ids of locals, and with ids

  abbrev by_index : List Named
  by_index = map (renamed_at index_of) (map name_at xs)

  names : AllByRecursion (IsNamedHere env) xs
  names = all_named_here env xs body lawful

  source_has_ids : (ys : List Occurrence) → AllByRecursion (IsNamedHere env) ys → AllByRecursion (λ y. Names (HasId env index_of own) y.op) (map (renamed_at index_of) (map name_at ys))
  source_has_ids [] h = tt
  source_has_ids (y ∷ ys) h = (names_have_ids env index_of own y.named.immediates (named_locals env h.0.0 y.spelt y.named h.0.1), source_has_ids ys h.1)

  back : (ys : List Occurrence) → AllByRecursion (IsNamedHere env) ys → map (renamed_at (id_of_local env)) (map (renamed_at index_of) (map name_at ys)) ≡ map name_at ys
  back [] h = refl
  back (y ∷ ys) h = λ k.
      at_location (operation y.named.opcode (named_back env index_of own y.named.immediates (named_locals env h.0.0 y.spelt y.named h.0.1) k)) y.location ∷ back ys h.1 k

  abbrev c_by_ids : OperandContext
  c_by_ids = context_with_locals c.operands types

  source_valid : (results : List (ValType ℕ)) → IsValid m (standard_rules c.operands) results (initial_locals c.operands first) by_index → IsValidBody m c_by_ids args results (map name_at xs)
  source_valid results v =
      subst (λ ys. IsValidBody m c_by_ids args results ys) (back xs names)
      (renamed_stay_valid m c.operands (λ n. is_ok (env.local_of n)) (id_of_local env) types (initial_locals c.operands first) (initial_locals c_by_ids args)
      (ids_rename env index_of own c.operands types typed parameters within have_ids) results by_index (source_has_ids xs names) v)

  -- ---- and as it is written

  abbrev Renamed : ℕ → Type 0
  Renamed count = Renames (is_written_local args others) f types new (initial_locals c_by_ids args) (initial_locals with_new_locals.operands (parameter_indices count))

  numbers_rename : Renamed parameters
  numbers_rename =
      subst Renamed (length-take-le parameters c.operands.locals within)
      (written_are_renamed c_by_ids args (take parameters c.operands.locals) (have_parameters env index_of own c.operands types typed parameters within have_ids) (uses_local (body_tree env body)) others are)

  text_valid : (results : List (ValType ℕ)) → IsValidBody m c_by_ids args results (map name_at xs)
      → IsValid m (standard_rules with_new_locals.operands) results (initial_locals with_new_locals.operands first) (map (renamed_at f) (map shown_of ms))
  text_valid results v =
      let kept = standard_validity_kept env xs body spelt lawful in
      let is = text_is kept.text kept.is_text in
      renamed_stay_valid m c_by_ids (is_written_local args others) f new (initial_locals c_by_ids args) (initial_locals with_new_locals.operands first)
      numbers_rename results (map shown_of ms) (all_names_written ms ready)
      (subst (λ ys. IsValidBody m c_by_ids args results ys) is (kept.stays_valid c_by_ids args results v))

  -- ---- the operators, as they are read from the bytes

  pub record IsValidAgain (start : ℕ) (results : List (ValType ℕ)) : Type 0 where
    pub operators : List Placed
    pub listed : Lists operators start bytes []
    pub reached : BodyState
    pub steps : steps_through with_new_locals (body_start with_new_locals parameters results) operators ≡ Ok reached
    pub closed : reached.controls ≡ []

  index_valid : (results : List (ValType ℕ)) (reached : BodyState) → steps_through c (body_start c parameters results) (map placed xs) ≡ Ok reached → reached.controls ≡ []
      → IsValid m (standard_rules c.operands) results (initial_locals c.operands first) by_index
  index_valid results reached e closed =
      let accepted = with_fault_ok (λ e. refusal_number) (validate m (standard_rules c.operands) by_index (body_start c parameters results)) reached
      (sym (steps_are m c (same_tags env c alike) (map placed xs) by_index (all_source_names env c alike index_of own xs body lawful) (body_start c parameters results)) ∙ e) in
      (reached.stacks, accepted ∙ ap (λ cs. Ok (state reached.stacks cs)) closed)

  pub valid_again : (start : ℕ) (results : List (ValType ℕ)) (reached : BodyState) → steps_through c (body_start c parameters results) (map placed xs) ≡ Ok reached → reached.controls ≡ []
      → IsValidAgain start results
  valid_again start results reached e closed =
      let valid = text_valid results (source_valid results (index_valid results reached e closed)) in
      record {
        operators = written_from by m start ms;
        listed = lists start;
        reached = state valid.0 [];
        steps =
            steps_are m with_new_locals (same_tags env c alike) (written_from by m start ms) (map (renamed_at f) (map shown_of ms)) (named_from start ms have_names) (body_start with_new_locals parameters results)
            ∙ ap numbered valid.1;
        closed = refl;
      }
