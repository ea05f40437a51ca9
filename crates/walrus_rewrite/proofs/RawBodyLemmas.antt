-- The raw body of a function: the bytes that its parts write, and why they don't write any.
use Rattle.std.proofs.Common.{◌≡◌, ◌⊎◌, ◌++◌, ◌+◌, ◌<◌, ◌≤◌, ◌^◌, ℕ, List, [], ◌∷◌, Bool, Option, Some, Result, Ok, Err, length, refl, sym, ap, subst, ◌∙◌, inl, inr, arith}
use Rattle.std.specs.Prelude.{nat_lt, nat_le, ◌&&◌, true, false}
use Rattle.std.specs.List.{list_all, AllByRecursion}
use Rattle.std.proofs.lemmas.List.{length-append, length-map}
use Rattle.std.proofs.lemmas.Option.{slice_get_within}
use Rattle.wasm_types.specs.declared.val_type.ValType.{ValType}
use Rattle.walrus_ir.specs.Types.{ModuleType}
use Rattle.walrus_ir.specs.Function.{Function}
use Rattle.wasm_numbers.specs.Results.{◌>>=◌, some_or, unless, each}
use Rattle.walrus_ir.specs.Tree.{Tree}
use Rattle.walrus_ir.specs.Unfolding.{SequenceAt, LocatedInstr, IsTree, among}
use Rattle.walrus_ir.proofs.WalkLaws.{tree_has_no_fault}
use Rattle.wasm_operators.specs.Operations.{RawOperation}
use Rattle.wasm_operators.specs.Shortest.{short}
use Rattle.wasm_encode.specs.Declarations as encoded
use Rattle.wasm_body.specs.declared.error.EmitError.{EmitError}
use Rattle.wasm_body.specs.declared.error.EmitError.TheVariants.{Memory, TooLarge, UnnumberedLocal}
use Rattle.wasm_body.specs.Bytes.{Numbers, numbered_text, bytes_of, tree_bytes}
use Rattle.wasm_body.specs.Translation.{Located}
use Rattle.wasm_body.specs.FunctionTree.{FunctionTree}
use Rattle.wasm_body.specs.LocalNumbers.{Local, ids_of, AreDeclared, number_of_local, declaration, declarations, declared, runs, types_of, uses_local, numbering_locals}
use Rattle.wasm_body.specs.Pairs.{Pair, pairs_from, tree_pairs, AddsPairs}
use Rattle.wasm_body.specs.TreeOfFunction.{tree_of, HasTree}
use Rattle.wasm_body.proofs.LocalNumbers.{last_place_get}
use Rattle.wasm_body.proofs.Translation.Steps.{bound, length-each}
use Rattle.walrus_maps.specs.declared.ids_to_indices.IdsToIndices.{IdsToIndices}
use Rattle.walrus_numbering.specs.EmittedLocals.{Declares, HasNoDeclarations}
use Rattle.walrus_numbering.proofs.FittingNumbers.{local_number_is}
use Rattle.walrus_facts.specs.Facts.{locals_used}
use Rattle.walrus_body.specs.LocalFunctions.{first_slot}
use Rattle.walrus_body.specs.EmittedInstructions.{IsNotEmitted}
use Rattle.walrus_numbering.specs.NumberMaps.{numbers_by}
use Rattle.walrus_emitter.specs.TreeWriting.Trees.{Appends}
use Rattle.walrus_facts.proofs.LocalsOfTrees.{locals_of_tree}
use Rattle.walrus_body.proofs.OneTree.{one_function}
use Rattle.walrus_rewrite.specs.RawBodies.{EmitInput, HasNoRawBody, undeclared, unwritten, IsRawBodyOf, BeginsRawBody, IsNotBegun, WritesRawBody, DeclinesRawBody, not_begun, not_written}

-- ---- declarations

pub passed : {A E : Type 0} (b : Bool) (e : E) (r : Result A E) (x : A) → (unless b e >>= λ u. r) ≡ Ok x → (b ≡ true) × (r ≡ Ok x)
passed true e r x h = (refl, h)
passed false e r x h = absurd cc

first_true : (a b : Bool) → (a && b) ≡ true → a ≡ true
first_true true b h = refl
first_true false b h = absurd cc

below : (m n : ℕ) → nat_lt m n ≡ true → m < n
below m n h = grind arith

-- the number of declarations of a function fits 32 bits
pub few_declarations : (to : Numbers) (arguments : ℕ) (others : List Local) (ds : List (ℕ × ValType ℕ)) → declared to arguments others ≡ Ok ds → length ds < 2 ^ 32
few_declarations to arguments others ds h =
    let rs = runs (types_of others) in
    let numbered = passed _ TooLarge (declarations to rs) ds h in
    let fit = passed (nat_lt (length rs) (2 ^ 32) && list_all (λ run. nat_lt run.0 (2 ^ 32)) rs) TooLarge (each (declaration to) rs) ds numbered.1 in
    subst (λ n. n < 2 ^ 32) (sym (length-each (declaration to) rs ds fit.1)) (below (length rs) (2 ^ 32) (first_true (nat_lt (length rs) (2 ^ 32)) _ fit.0))

-- the number of an argument or a declared local fits 32 bits
at_most : (m n : ℕ) → nat_le m n ≡ true → m ≤ n
at_most m n h = grind arith

pub few_locals : (to : Numbers) (arguments : ℕ) (others : List Local) (ds : List (ℕ × ValType ℕ)) → declared to arguments others ≡ Ok ds → arguments + length others ≤ 2 ^ 32
few_locals to arguments others ds h =
    at_most (arguments + length others) (2 ^ 32) (passed (nat_le (arguments + length others) (2 ^ 32)) TooLarge (declarations to (runs (types_of others))) ds h).0

pub number_fits : (args : List ℕ) (others : List Local) → length args + length others ≤ 2 ^ 32 → (id n : ℕ) → number_of_local args (ids_of others) id ≡ Some n → n < 2 ^ 32
number_fits args others few id n e =
    let all = args ++ ids_of others in
    let at = slice_get_within all n id (last_place_get all id n e) in
    omega (arith, at, few, length-append args (ids_of others), length-map others (λ (l : Local). l.1))

-- a map that has the numbers of locals
pub same_numbers : (ms : List ModuleType) (out : IdsToIndices) (types : List (ValType ℕ)) (args : List ℕ) (used : ℕ → Bool) (ds : List (ℕ × ValType ℕ)) (entries : List (ℕ × ℕ)) →
    (d : Declares (numbers_by ms out []) types args used ds entries) → numbers_by ms out entries ≡ numbering_locals (numbers_by ms out []) args (ids_of d.others)
same_numbers ms out types args used ds entries d =
    let to = numbers_by ms out [] in
    let few = few_locals to (length args) d.others ds d.declarations_are in
    let same : (id : ℕ) → (numbers_by ms out entries).local_number id ≡ some_or (number_of_local args (ids_of d.others) id) UnnumberedLocal =
    λ id. local_number_is ms out entries id (λ n is. number_fits args d.others few id n (sym (d.numbers_are id) ∙ is)) ∙ ap (λ o. some_or o UnnumberedLocal) (d.numbers_are id) in
    λ k. record { number_of = to.number_of; local_number = λ id. same id k; balanced = to.balanced }

-- ---- the results of the calls

module _ (ms : List ModuleType) (out : IdsToIndices) (types : List (ValType ℕ)) (args : List ℕ) (used : ℕ → Bool) (f : Function) where
  abbrev by : EmitInput
  by = record { to = numbers_by ms out []; types = types; args = args }

  module _ (encoder : List ℕ) (entries : List (ℕ × ℕ)) (b : BeginsRawBody by used encoder entries) where
    abbrev numbered : numbers_by ms out entries ≡ numbering_locals (numbers_by ms out []) args (ids_of b.declares.others)
    numbered = same_numbers ms out types args used b.declarations entries b.declares

    abbrev pub writes : (bytes : List ℕ) (lists : Option (List Pair × List Pair)) → Appends f.sequences (first_slot f) (numbers_by ms out entries) encoder bytes lists → WritesRawBody by used f bytes lists
    writes bytes lists h = record {
      others = b.declares.others;
      are_declared = b.declares.are_declared;
      declarations = b.declarations;
      declarations_are = b.declares.declarations_are;
      is_written =
          subst (λ o. Appends f.sequences (first_slot f) (numbering_locals (numbers_by ms out []) args (ids_of b.declares.others)) o bytes lists) b.encoder_is
          (subst (λ to. Appends f.sequences (first_slot f) to encoder bytes lists) numbered h);
    }

    pub declines : (e : EmitError) → IsNotEmitted f (numbers_by ms out entries) e → DeclinesRawBody by used f e
    declines e u =
        not_written b.declares.others b.declarations b.declares.are_declared b.declares.declarations_are (subst (λ to. IsNotEmitted f to e) numbered u)

-- ---- of a function that has a tree, with the locals that are found in it

module _ (f : Function) (u : Tree SequenceAt LocatedInstr) (is_tree : IsTree f.sequences (first_slot f) u) (used : ℕ → Bool)
    (used_are : (l : ℕ) → used l ≡ among l (locals_used u.items)) where
  pub has_tree : HasTree f.sequences (first_slot f) (tree_of u)
  has_tree = record { unfolded = u; is_tree = is_tree; is = refl }

  pub only_tree : (t : FunctionTree) → HasTree f.sequences (first_slot f) t → t ≡ tree_of u
  only_tree t h = one_function f.sequences (first_slot f) t (tree_of u) h has_tree

  used_is : used ≡ uses_local (tree_of u)
  used_is = λ k. λ l. (used_are l ∙ ap (λ ls. among l ls) (sym (locals_of_tree u))) k

  module _ (by : EmitInput) where
    pub declared_so : (others : List Local) → AreDeclared by.types by.args used others → AreDeclared by.types by.args (uses_local (tree_of u)) others
    declared_so others h = subst (λ (g : ℕ → Bool). AreDeclared by.types by.args g others) used_is h

    abbrev its_raw_body : (others : List Local) (ds : List (ℕ × ValType ℕ)) → AreDeclared by.types by.args (uses_local (tree_of u)) others → declared by.to (length by.args) others ≡ Ok ds
        → (operators bytes : List ℕ) (pairs : List Pair) → tree_bytes (numbering_locals by.to by.args (ids_of others)) (tree_of u) ≡ Ok operators
        → bytes ≡ encoded.declaration_bytes ds ++ operators → tree_pairs (numbering_locals by.to by.args (ids_of others)) (tree_of u) (length (encoded.declaration_bytes ds)) ≡ Ok pairs
        → IsRawBodyOf by f bytes pairs
    its_raw_body others ds a d operators bytes pairs o b p = record {
      tree = tree_of u;
      has_tree = has_tree;
      is_raw_body = record {
        others = others;
        are_declared = a;
        declarations = ds;
        declarations_are = d;
        operators = operators;
        operators_are = o;
        bytes_are = b;
        pairs_are = p;
      };
    }

    -- the pairs of the raw body are appended to the list
    abbrev pub of_written : (bytes : List ℕ) (lists : Option (List Pair × List Pair)) → WritesRawBody by used f bytes lists → (ps : List Pair) × IsRawBodyOf by f bytes ps × AddsPairs ps lists
    of_written bytes lists w =
        let to = numbering_locals by.to by.args (ids_of w.others) in
        let made = w.is_written in
        let same = only_tree made.tree made.has_tree in
        let before = length (encoded.declaration_bytes w.declarations) in (
          made.pairs,
          its_raw_body w.others w.declarations (declared_so w.others w.are_declared) w.declarations_are made.bytes bytes made.pairs
              (subst (λ t. tree_bytes to t ≡ Ok made.bytes) same made.bytes_are) made.appends
              (subst (λ t. tree_pairs to t before ≡ Ok made.pairs) same made.pairs_are),
          made.appends_pairs,
        )

    -- they are all that was appended to an empty one
    pub of_both : (bytes : List ℕ) (pairs : List Pair) → WritesRawBody by used f bytes (Some ([], pairs)) → IsRawBodyOf by f bytes pairs
    of_both bytes pairs w = let made = of_written bytes (Some ([], pairs)) w in subst (λ ps. IsRawBodyOf by f bytes ps) (sym made.2) made.1

    abbrev Why : EmitError → Type 0
    Why e = (e ≡ Memory) ⊎ ((t : FunctionTree) × HasTree f.sequences (first_slot f) t × HasNoRawBody by t e)

    -- why there is none
    why_not_begun : (e : EmitError) → IsNotBegun by used e → Why e
    why_not_begun e (inl memory) = inl memory
    why_not_begun e (inr h) = inr (tree_of u, has_tree, undeclared (subst (λ (g : ℕ → Bool). HasNoDeclarations by.to by.types by.args g e) used_is h))

    why_not_written : (e : EmitError) (others : List Local) (ds : List (ℕ × ValType ℕ)) → AreDeclared by.types by.args used others → declared by.to (length by.args) others ≡ Ok ds
        → IsNotEmitted f (numbering_locals by.to by.args (ids_of others)) e → Why e
    why_not_written e others ds a d (inl memory) = inl memory
    why_not_written e others ds a d (inr (inl walk)) = absurd (tree_has_no_fault f.sequences (first_slot f) u walk.0 is_tree walk.1)
    why_not_written e others ds a d (inr (inr fault)) =
        let to = numbering_locals by.to by.args (ids_of others) in
        inr (tree_of u, has_tree, unwritten others ds (declared_so others a) d (subst (λ t. tree_bytes to t ≡ Err e) (only_tree fault.0 fault.1) fault.2))

    pub why_not : (e : EmitError) → DeclinesRawBody by used f e → Why e
    why_not e (not_begun h) = why_not_begun e h
    why_not e (not_written others ds a d h) = why_not_written e others ds a d h

-- ---- the places of a raw body's pairs lie within it

abbrev AreWithin : ℕ → List Pair → Type 0
AreWithin end ps = AllByRecursion (λ (p : Pair). p.1 ≤ end) ps

pairs_within : (xs : List (Located RawOperation)) (place end : ℕ) → place + length (bytes_of xs) ≤ end → AreWithin end (pairs_from place xs)
pairs_within [] place end h = tt
pairs_within (x ∷ xs) place end h =
    let whole = length-append (short x.op) (bytes_of xs) in
    (omega (arith, h), pairs_within xs (place + length (short x.op)) end (omega (arith, h, whole)))

pub raw_pairs_within : (by : EmitInput) (f : Function) (bytes : List ℕ) (pairs : List Pair) → IsRawBodyOf by f bytes pairs → AreWithin (length bytes) pairs
raw_pairs_within by f bytes pairs r =
    let w = r.is_raw_body in
    let to = numbering_locals by.to by.args (ids_of w.others) in
    let before = length (encoded.declaration_bytes w.declarations) in
    let xs = bound (numbered_text to r.tree) (λ xs. Ok (pairs_from before xs)) pairs w.pairs_are in
    let ys = bound (numbered_text to r.tree) (λ ys. Ok (bytes_of ys)) w.operators w.operators_are in
    let one : xs.0 ≡ ys.0 = let both : Ok xs.0 ≡ Ok ys.0 = sym xs.1 ∙ ys.1 in cc in
    let operators : bytes_of xs.0 ≡ w.operators = ap bytes_of one ∙ (let both : Ok (bytes_of ys.0) ≡ Ok w.operators = ys.2 in cc) in
    let whole = ap length w.bytes_are ∙ length-append (encoded.declaration_bytes w.declarations) w.operators in
    let fits : before + length (bytes_of xs.0) ≤ length bytes = omega (arith, whole, ap length operators) in
    let same : pairs_from before xs.0 ≡ pairs = let both : Ok (pairs_from before xs.0) ≡ Ok pairs = xs.2 in cc in
    subst (AreWithin (length bytes)) same (pairs_within xs.0 before (length bytes) fits)

-- moved up by this number of bytes they end below another place
pub moved_within : (base end last : ℕ) (ps : List Pair) → base + last ≤ end → AreWithin last ps → AllByRecursion (λ (p : Pair). base + p.1 ≤ end) ps
moved_within base end last [] h w = tt
moved_within base end last (p ∷ ps) h w = (omega (arith, h, w.0), moved_within base end last ps h w.1)
