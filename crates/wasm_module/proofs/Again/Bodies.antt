-- A body that was written, read again in a module whose added types may be others, has the same bytes: its locals are declared in the
-- same order, and each index names what it named.
use Rattle.std.proofs.Common.{◌≡◌, ◌+◌, ◌<◌, ℕ, List, [], ◌∷◌, ◌++◌, length, map, slice_get, true, Option, Some, None, Result, Ok, refl, sym, ap, ◌∙◌, subst}
use Rattle.std.specs.Prelude.{IsOk, ◌^◌, ◌&&◌, nat_lt, nat_le}
use Rattle.std.specs.List.{AllByRecursion, list_all}
use Rattle.wasm_types.specs.declared.val_type.ValType.{ValType}
use Rattle.walrus_ir.specs.Tree.{Items, no_items, item, Sequences, no_sequences, sequence}
use Rattle.walrus_ir.specs.Types.{ModuleType, signature_of_type}
use Rattle.walrus_ir.specs.Unfolding.{among}
use Rattle.walrus_ir.specs.declared.val_type.InstrSeqType.{InstrSeqType}
use Rattle.wasm_numbers.specs.Results.{◌>>=◌, each, unless, some_or, with_fault}
use Rattle.wasm_operators.specs.declared.types.Space.{Space}
use Rattle.wasm_operators.specs.OperatorList.{Placed}
use Rattle.wasm_operators.proofs.ListLaws.{one_list}
use Rattle.wasm_body.specs.declared.error.EmitError.{EmitError}
use Rattle.wasm_body.specs.declared.error.EmitError.TheVariants.{TooLarge, UnnumberedLocal}
use Rattle.wasm_body.specs.declared.error.IndexError.TheVariants.{LocalOutOfRange}
use Rattle.wasm_body.specs.declared.error.ParseError.{ParseError}
use Rattle.wasm_body.specs.declared.error.ParseError.TheVariants.{Index}
use Rattle.wasm_body.specs.SourceTree.{Body}
use Rattle.wasm_body.specs.FunctionTree.{Head, Instruction, FunctionTree, Bare, bare_items, bare_sequences, IsSameTree}
use Rattle.wasm_body.specs.Naming.{Environment, Occurrence}
use Rattle.wasm_body.specs.NormalForm.{typing_of, is_balanced_type, body_tree}
use Rattle.wasm_body.specs.Bytes.{Numbers, in_32_bits, bytes_of, numbered_text, tree_bytes}
use Rattle.wasm_body.specs.LocalNumbers.{Local, locals_among, locals_in_items, locals_inside, locals_of, types_of, ids_of, uses_local, AreDeclared, number_of_local, numbering_locals, declared, runs, declarations}
use Rattle.wasm_body.specs.Parsing.Accepted.{placed, Lawful, Setting, Accepted, has_location, validated, accepting}
use Rattle.wasm_body.specs.ReadBack.{IsInverse, Undoes, AreReadable, IsAcceptedAgain}
use Rattle.wasm_body.specs.Translation.{translate_value}
use Rattle.wasm_body.proofs.LocalNumbers.{last_place_get}
use Rattle.wasm_body.proofs.ReadBack.ReadingBack.{accepted_again, texts_of}
use Rattle.wasm_body.proofs.ReadBack.Undoing.{inverse_undoes}
use Rattle.wasm_module.proofs.Again.OtherNames.{HasOtherLocalIds}
use Rattle.wasm_module.proofs.Again.WrittenAlike.{AreOthers, ArePickedAlike, written_alike, locals_alike}
use Rattle.wasm_module.proofs.Again.Locals.{AreFirst, at_next, types_at_next, count_at_next, other_local, within, other_is, place_of, number_is, declared_again, numbers_again}
use Rattle.wasm_module.proofs.Again.AddedTypes.{HaveTypesAdded, same_blocks, picked_alike}

-- ---- trees that are the same name the same locals

mutual
  locals_bare : Items InstrSeqType Bare → List ℕ
  locals_bare no_items = []
  locals_bare (item i inside rest) = locals_among i.0.immediates ++ (locals_inside_bare inside ++ locals_bare rest)

  locals_inside_bare : Sequences InstrSeqType Bare → List ℕ
  locals_inside_bare no_sequences = []
  locals_inside_bare (sequence type items rest) = locals_bare items ++ locals_inside_bare rest

mutual
  unfolding locals_bare locals_inside_bare

  same_locals : (is : Items Head Instruction) → locals_bare (bare_items is) ≡ locals_in_items is
  same_locals no_items = refl
  same_locals (item i inside rest) = λ k. locals_among i.op.immediates ++ (same_inside inside k ++ same_locals rest k)

  same_inside : (ss : Sequences Head Instruction) → locals_inside_bare (bare_sequences ss) ≡ locals_inside ss
  same_inside no_sequences = refl
  same_inside (sequence h items rest) = λ k. same_locals items k ++ same_inside rest k

first_items : Sequences InstrSeqType Bare → List ℕ
first_items no_sequences = []
first_items (sequence type items rest) = locals_bare items

tree_locals : (t u : FunctionTree) → IsSameTree t u → locals_of t ≡ locals_of u
unfolding first_items
tree_locals t u same = sym (same_locals t.items) ∙ (ap first_items same ∙ same_locals u.items)

-- What was written of a body: its locals are declared, and its operators have these bytes.
pub record IsSpelled (args : List ℕ) (count : ℕ) (by : Numbers) (locals : List (ValType ℕ)) (t : FunctionTree) (others : List Local) (ds : List (ℕ × ValType ℕ)) (bytes : List ℕ) : Type 0 where
  pub are_declared : AreDeclared locals args (uses_local t) others
  pub declarations_are : declared by count others ≡ Ok ds
  pub operators_are : tree_bytes (numbering_locals by args (ids_of others)) t ≡ Ok bytes

-- ---- without a location function, an operator is at its place

at_places : (xs : List Occurrence) → AllByRecursion (λ (x : Occurrence). has_location {F = ℕ → ℕ} None x.place ≡ true) xs → AllByRecursion (λ (x : Placed). has_location {F = ℕ → ℕ} None x.place ≡ true) (map placed xs)
at_places [] h = tt
at_places (x ∷ xs) h = (h.0, at_places xs h.1)

all_pass : (xs : List Placed) → IsOk (validated {V = Unit {0}} (λ v x. Ok v) tt xs)
all_pass [] = refl
all_pass (x ∷ xs) = all_pass xs

module _
    (types : List ModuleType) (env env' : Environment) (added : HaveTypesAdded types env env') (to to' : Numbers)
    (numbers : (space : Space) (id : ℕ) → to'.number_of space id ≡ to.number_of space id) (undone : (space : Space) (id n : ℕ) → to.number_of space id ≡ Ok n → env.id_of space n ≡ Ok id)
    (balanced : (t : InstrSeqType) → to.balanced t ≡ is_balanced_type (signature_of_type env.types t)) (balanced' : (t : InstrSeqType) → to'.balanced t ≡ is_balanced_type (signature_of_type env'.types t))
    (args : List ℕ) (count : ℕ) (first : AreFirst args count) (parameters locals : List (ValType ℕ)) (many : length parameters ≡ count) where
  -- the indices of a body that was written, to the ids of its source
  abbrev back : List Local → Environment
  back ls = record env { local_of = λ n. some_or (slice_get (args ++ ids_of ls) n) (LocalOutOfRange 0 n) }

  is_inverse : (ls : List Local) → IsInverse (numbering_locals to args (ids_of ls)) (back ls)
  is_inverse ls = record {
    indices = undone;
    locals = λ id n e. ap (λ o. some_or o (LocalOutOfRange 0 n)) (last_place_get (args ++ ids_of ls) id n (of_some (number_of_local args (ids_of ls) id) n e));
  }
    where
      of_some : (o : Option ℕ) (n : ℕ) → some_or {E = EmitError} o UnnumberedLocal ≡ Ok n → o ≡ Some n
      of_some (Some m) n e = let is : m ≡ n = cc e in ap (λ (k : ℕ). Some k) is
      of_some None n e = absurd cc

  -- the same declarations
  same_declarations : (rs : List (ℕ × ValType ℕ)) → declarations to' rs ≡ declarations to rs
  same_declarations rs = λ i.
      unless (nat_lt (length rs) (2 ^ 32) && list_all (λ (run : ℕ × ValType ℕ). nat_lt run.0 (2 ^ 32)) rs) TooLarge >>= λ _.
      each (λ (run : ℕ × ValType ℕ). translate_value (λ space id. numbers space id i >>= in_32_bits) run.1 >>= λ type. Ok (run.0, type)) rs

  declared_same : (ls : List Local) → declared to' count (at_next count ls) ≡ declared to count ls
  declared_same ls =
      (λ i. unless (nat_le (count + count_at_next count ls i) (2 ^ 32)) TooLarge >>= λ _. declarations to' (runs (types_at_next count ls i)))
      ∙ ap (λ r. unless (nat_le (count + length ls) (2 ^ 32)) TooLarge >>= λ _. r) (same_declarations (runs (types_of ls)))

  module _
      {V W : Type 0} (given : Setting V) (source : List ℕ) (body : Body Occurrence) (accepted : Accepted given source body) (is : given.environment ≡ env)
      (ls : List Local) (ds : List (ℕ × ValType ℕ)) (bytes : List ℕ) (spelled : IsSpelled args count to locals (body_tree env body) ls ds bytes)
      (start : ℕ) (check : W → Placed → Result W ℕ) (state : W)
      (own : (n : ℕ) → n < count + length ls → env'.local_of n ≡ Ok n) where
    abbrev there : Setting W
    there = record { environment = env'; start = start; locations = None; check = check; first = state }

    abbrev by : Numbers
    by = numbering_locals to args (ids_of ls)

    abbrev by' : Numbers
    by' = numbering_locals to' args (ids_of (at_next count ls))

    abbrev tree : FunctionTree
    tree = body_tree env body

    -- the bytes are accepted by the maps that undo the numbers
    readable : (read : Body Occurrence) → Accepted there bytes read → AreReadable (accepting (back ls) start) bytes
    readable read second = record {
      have_locations = λ xs lists.
          subst (AllByRecursion (λ (x : Placed). has_location {F = ℕ → ℕ} None x.place ≡ true)) (one_list (map placed second.operators) xs start bytes [] second.all.spelt lists)
          (at_places second.operators second.all.have_locations);
      passes = λ xs lists. all_pass xs;
    }

    undoes : Undoes by (body_tree given.environment body) given.environment (back ls)
    undoes =
        subst (λ v. Undoes by (body_tree v body) v (back ls)) (sym is)
        (inverse_undoes env accepted.operators body (subst (λ v. Lawful v accepted.operators body) is accepted.lawful) by (back ls) refl refl refl (is_inverse ls))

    back_again : (read : Body Occurrence) → Accepted there bytes read → IsAcceptedAgain (accepting (back ls) start) by (body_tree given.environment body) bytes
    back_again read second =
        accepted_again V (Unit {0}) given source body accepted by bytes (subst (λ v. tree_bytes by (body_tree v body) ≡ Ok bytes) (sym is) spelled.operators_are) (accepting (back ls) start) undoes
        (readable read second)

    added_back : HaveTypesAdded types (back ls) env'
    added_back = record { more = added.more; more' = added.more'; types_are = added.types_are; types_are' = added.types_are'; ids = added.ids; known = added.known }

    abbrev other : ℕ → Result ℕ ParseError
    other = other_local args (ids_of ls)

    own_local : (n id : ℕ) (o : Option ℕ) → with_fault Index (some_or o (LocalOutOfRange 0 n)) ≡ Ok id → o ≡ Some id
    own_local n id (Some m) e = let same : m ≡ id = cc e in ap (λ (k : ℕ). Some k) same
    own_local n id None e = absurd cc

    others : HasOtherLocalIds (back ls) env' other
    others = record {
      ids = added.ids;
      locals = λ n id e.
          let at = own_local n id (slice_get (args ++ ids_of ls) n) e in
          other_is args count first parameters locals many ls (uses_local tree) spelled.are_declared n id at
          ∙ sym (ap (with_fault Index) (own n (within args count first parameters locals many ls (uses_local tree) spelled.are_declared n id at)));
      blocks = same_blocks types (back ls) env' added_back;
    }

    same_numbers : (n k : ℕ) → other n ≡ Ok k → by'.local_number k ≡ by.local_number n
    same_numbers n k e =
        let d = spelled.are_declared in
        let at = place_of args count first parameters locals many ls (uses_local tree) d k n e in
        ap (λ o. some_or o UnnumberedLocal)
        (numbers_again args count first parameters locals many ls (uses_local tree) d k (within args count first parameters locals many ls (uses_local tree) d k n at)
        ∙ sym (number_is args count first parameters locals many ls (uses_local tree) d k n e))

    picked : ArePickedAlike (back ls) (typing_of (back ls)) (typing_of env') by by'
    picked = picked_alike types (back ls) env' added_back by by' numbers balanced balanced'

    module _ (read : Body Occurrence) (second : Accepted there bytes read) where
      again : IsAcceptedAgain (accepting (back ls) start) by (body_tree given.environment body) bytes
      again = back_again read second

      same_operators : map placed again.accepted.operators ≡ map placed second.operators
      same_operators = one_list (map placed again.accepted.operators) (map placed second.operators) start bytes [] again.accepted.all.spelt second.all.spelt

      text_again : numbered_text by' (body_tree env' read) ≡ numbered_text by (body_tree (back ls) again.body)
      text_again =
          written_alike (back ls) (typing_of (back ls)) (typing_of env') by by' other picked numbers same_numbers env' others again.accepted.operators second.operators again.body read again.accepted.lawful second.lawful
          (texts_of again.accepted.operators start bytes [] again.accepted.all.spelt) (texts_of second.operators start bytes [] second.all.spelt) same_operators again.accepted.all.located second.all.located refl refl

      named_again : AreOthers other (locals_of (body_tree (back ls) again.body)) (locals_of (body_tree env' read))
      named_again =
          locals_alike (back ls) (typing_of (back ls)) (typing_of env') by by' other picked numbers same_numbers env' others again.accepted.operators second.operators again.body read again.accepted.lawful second.lawful
          (texts_of again.accepted.operators start bytes [] again.accepted.all.spelt) (texts_of second.operators start bytes [] second.all.spelt) same_operators again.accepted.all.located second.all.located refl refl

      same_tree : IsSameTree (body_tree (back ls) again.body) tree
      same_tree = subst (λ v. IsSameTree (body_tree (back ls) again.body) (body_tree v body)) is (again.same again.body again.accepted)

      -- It is spelled again.
      pub spelled_again : IsSpelled args count to' (parameters ++ types_of ls) (body_tree env' read) (at_next count ls) ds bytes
      spelled_again = record {
        are_declared =
            declared_again args count first parameters locals many ls (uses_local tree) spelled.are_declared (locals_of (body_tree (back ls) again.body)) (locals_of (body_tree env' read)) named_again
            (λ id. ap (among id) (sym (tree_locals (body_tree (back ls) again.body) tree same_tree)));
        declarations_are = declared_same ls ∙ spelled.declarations_are;
        operators_are = ap (λ r. r >>= λ xs. Ok (bytes_of xs)) text_again ∙ again.unchanged again.body again.accepted;
      }
