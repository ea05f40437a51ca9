-- The declarations of a body that was written are read again as they were written, and give each local the type that it had.
use Rattle.std.proofs.Common.{◌≡◌, ◌+◌, ◌<◌, ◌^◌, ℕ, List, [], ◌∷◌, ◌++◌, length, replicate, true, Result, Ok, refl, sym, ap, ◌∙◌, subst, append_assoc}
use Rattle.std.specs.Prelude.{nat_lt, nat_le, ◌&&◌}
use Rattle.std.specs.List.{AllByRecursion, list_all, flat_map}
use Rattle.std.proofs.lemmas.Bool.{and_parts, ltb-true}
use Rattle.wasm_types.specs.declared.val_type.HeapType.{HeapType}
use Rattle.wasm_types.specs.declared.val_type.HeapType.TheVariants.{Abstract, Concrete}
use Rattle.wasm_types.specs.declared.val_type.ValType.{ValType}
use Rattle.wasm_types.specs.declared.val_type.ValType.TheVariants.{I32, I64, F32, F64, V128, Ref}
use Rattle.wasm_numbers.specs.Results.{◌>>=◌, each, unless}
use Rattle.wasm_numbers.specs.Reading.{many}
use Rattle.wasm_numbers.proofs.ResultLemmas.{unless_ok}
use Rattle.wasm_operators.specs.declared.types.Space.{Space}
use Rattle.wasm_operators.specs.declared.types.Space.TheVariants.{Types}
use Rattle.wasm_operators.specs.Fitting.{FitsHeap, FitsValue}
use Rattle.wasm_operators.specs.Shortest.{short_number, short_value}
use Rattle.wasm_operators.specs.Types.{value_type}
use Rattle.wasm_operators.proofs.TypeLaws.{value_types_agree}
use Rattle.wasm_operators.proofs.Written.{value_spelt}
use Rattle.wasm_encode.specs.Declarations.{short_declaration, declaration_bytes}
use Rattle.wasm_sections.specs.Declarations.{group, groups, expanded}
use Rattle.wasm_sections.proofs.NumberLemmas.{short_read}
use Rattle.wasm_body.specs.declared.error.EmitError.TheVariants.{TooLarge}
use Rattle.wasm_body.specs.Translation.{translate_heap, translate_value}
use Rattle.wasm_body.specs.Bytes.{Numbers, numbers_in_32_bits}
use Rattle.wasm_body.specs.LocalNumbers.{Local, types_of, runs, spread, declaration, declarations, declared}
use Rattle.wasm_body.proofs.LocalNumbers.{runs_maximal}
use Rattle.wasm_body.proofs.Bytes.Fitting.{fitting_result}
use Rattle.wasm_body.proofs.Translation.Steps.{bound, length-each}

-- ---- types, there and back

module _ {E F : Type 0} (there : Space → ℕ → Result ℕ E) (back : Space → ℕ → Result ℕ F) (undone : (n m : ℕ) → there Types n ≡ Ok m → back Types m ≡ Ok n) where
  heap_back : (h g : HeapType ℕ) → translate_heap there h ≡ Ok g → translate_heap back g ≡ Ok h
  heap_back (Abstract a) g e = let is : Abstract a ≡ g = cc e in ap (translate_heap back) (sym is)
  heap_back (Concrete n) g e =
      let m = bound (there Types n) (λ m. Ok (Concrete m)) g e in
      let is : Concrete m.0 ≡ g = cc m.2 in
      ap (translate_heap back) (sym is) ∙ ap (λ r. r >>= λ k. Ok (Concrete k)) (undone n m.0 m.1)

  pub value_back : (t u : ValType ℕ) → translate_value there t ≡ Ok u → translate_value back u ≡ Ok t
  value_back I32 u e = let is : I32 ≡ u = cc e in ap (translate_value back) (sym is)
  value_back I64 u e = let is : I64 ≡ u = cc e in ap (translate_value back) (sym is)
  value_back F32 u e = let is : F32 ≡ u = cc e in ap (translate_value back) (sym is)
  value_back F64 u e = let is : F64 ≡ u = cc e in ap (translate_value back) (sym is)
  value_back V128 u e = let is : V128 ≡ u = cc e in ap (translate_value back) (sym is)
  value_back (Ref r) u e =
      let to_ref : HeapType ℕ → ValType ℕ = λ h. Ref (record { nullable = r.nullable; heap_type = h }) in
      let h = bound (translate_heap there r.heap_type) (λ h. Ok (to_ref h)) u e in
      let is : to_ref h.0 ≡ u = cc h.2 in
      ap (translate_value back) (sym is) ∙ ap (λ s. s >>= λ k. Ok (to_ref k)) (heap_back r.heap_type h.0 h.1)

-- ---- types whose numbers fit

module _ {E : Type 0} (numbers : Space → ℕ → Result ℕ E) (below : (n m : ℕ) → numbers Types n ≡ Ok m → m < 2 ^ 32) where
  heap_fits : (h g : HeapType ℕ) → translate_heap numbers h ≡ Ok g → FitsHeap g
  heap_fits (Abstract a) g e = let is : Abstract a ≡ g = cc e in subst FitsHeap is tt
  heap_fits (Concrete n) g e =
      let m = bound (numbers Types n) (λ m. Ok (Concrete m)) g e in
      let is : Concrete m.0 ≡ g = cc m.2 in
      subst FitsHeap is (below n m.0 m.1)

  value_fits : (t u : ValType ℕ) → translate_value numbers t ≡ Ok u → FitsValue u
  value_fits I32 u e = let is : I32 ≡ u = cc e in subst FitsValue is tt
  value_fits I64 u e = let is : I64 ≡ u = cc e in subst FitsValue is tt
  value_fits F32 u e = let is : F32 ≡ u = cc e in subst FitsValue is tt
  value_fits F64 u e = let is : F64 ≡ u = cc e in subst FitsValue is tt
  value_fits V128 u e = let is : V128 ≡ u = cc e in subst FitsValue is tt
  value_fits (Ref r) u e =
      let to_ref : HeapType ℕ → ValType ℕ = λ h. Ref (record { nullable = r.nullable; heap_type = h }) in
      let h = bound (translate_heap numbers r.heap_type) (λ h. Ok (to_ref h)) u e in
      let is : to_ref h.0 ≡ u = cc h.2 in
      subst FitsValue is (heap_fits r.heap_type h.0 h.1)

-- ---- declarations that were written

-- The count and the type fit 32 bits.
abbrev pub FitsDeclaration : ℕ × ValType ℕ → Type 0
FitsDeclaration d = (d.0 < 2 ^ 32) × FitsValue d.1

pub record AreWritten (to : Numbers) (rs ds : List (ℕ × ValType ℕ)) : Type 0 where
  pub each_is : each (declaration to) rs ≡ Ok ds
  pub few : length ds < 2 ^ 32
  pub fit : AllByRecursion FitsDeclaration ds

index_below : (to : Numbers) (n m : ℕ) → (numbers_in_32_bits to).number_of Types n ≡ Ok m → m < 2 ^ 32
index_below to n m e = (fitting_result (to.number_of Types n) m e).below

all_fit : (to : Numbers) (rs ds : List (ℕ × ValType ℕ)) → list_all (λ (run : ℕ × ValType ℕ). nat_lt run.0 (2 ^ 32)) rs ≡ true → each (declaration to) rs ≡ Ok ds → AllByRecursion FitsDeclaration ds
all_fit to [] ds few e = let is : [] ≡ ds = cc e in subst (AllByRecursion FitsDeclaration) is tt
all_fit to (r ∷ rs) ds few e =
    let numbers = (numbers_in_32_bits to).number_of in
    let first = bound (declaration to r) (λ y. each (declaration to) rs >>= λ ys. Ok (y ∷ ys)) ds e in
    let others = bound (each (declaration to) rs) (λ ys. Ok (first.0 ∷ ys)) ds first.2 in
    let made : first.0 ∷ others.0 ≡ ds = cc others.2 in
    let type = bound (translate_value numbers r.1) (λ t. Ok (r.0, t)) first.0 first.1 in
    let is : (r.0, type.0) ≡ first.0 = cc type.2 in
    let both = and_parts (nat_lt r.0 (2 ^ 32)) (list_all (λ (run : ℕ × ValType ℕ). nat_lt run.0 (2 ^ 32)) rs) few in
    subst (AllByRecursion FitsDeclaration) made
    (subst FitsDeclaration is (ltb-true r.0 (2 ^ 32) both.0, value_fits numbers (index_below to) r.1 type.0 type.1), all_fit to rs others.0 both.1 others.1)

pub are_written : (to : Numbers) (count : ℕ) (locals : List Local) (ds : List (ℕ × ValType ℕ)) → declared to count locals ≡ Ok ds → AreWritten to (runs (types_of locals)) ds
are_written to count locals ds e =
    let rs = runs (types_of locals) in
    let room = bound (unless (nat_le (count + length locals) (2 ^ 32)) TooLarge) (λ _. declarations to rs) ds e in
    let test = nat_lt (length rs) (2 ^ 32) && list_all (λ (run : ℕ × ValType ℕ). nat_lt run.0 (2 ^ 32)) rs in
    let fits = bound (unless test TooLarge) (λ _. each (declaration to) rs) ds room.2 in
    let both = and_parts (nat_lt (length rs) (2 ^ 32)) (list_all (λ (run : ℕ × ValType ℕ). nat_lt run.0 (2 ^ 32)) rs) (unless_ok test TooLarge fits.0 fits.1) in
    record {
      each_is = fits.2;
      few = subst (λ n. n < 2 ^ 32) (sym (length-each (declaration to) rs ds fits.2)) (ltb-true (length rs) (2 ^ 32) both.0);
      fit = all_fit to rs ds both.1 fits.2;
    }

-- ---- read again

group_read : (d : ℕ × ValType ℕ) (rest : List ℕ) → FitsDeclaration d → group (short_declaration d ++ rest) ≡ Ok (d, rest)
group_read d rest fits =
    ap group (append_assoc (short_number d.0) (short_value d.1) rest)
    ∙ (ap (λ r. r >>= λ x. value_type x.1 >>= λ y. Ok ((x.0, y.0), y.1)) (short_read d.0 (short_value d.1 ++ rest) fits.0)
    ∙ ap (λ r. r >>= λ y. Ok ((d.0, y.0), y.1)) (value_types_agree.again d.1 (short_value d.1) rest (value_spelt d.1 fits.1)))

groups_read : (ds : List (ℕ × ValType ℕ)) (rest : List ℕ) → AllByRecursion FitsDeclaration ds → many group (length ds) (flat_map short_declaration ds ++ rest) ≡ Ok (ds, rest)
unfolding many
groups_read [] rest fits = refl
groups_read (d ∷ ds) rest fits =
    ap (λ l. many group (length (d ∷ ds)) l) (append_assoc (short_declaration d) (flat_map short_declaration ds) rest)
    ∙ (ap (λ r. r >>= λ first. many group (length ds) first.1 >>= λ others. Ok (first.0 ∷ others.0, others.1)) (group_read d (flat_map short_declaration ds ++ rest) fits.0)
    ∙ ap (λ r. r >>= λ others. Ok (d ∷ others.0, others.1)) (groups_read ds rest fits.1))

pub declarations_read : (ds : List (ℕ × ValType ℕ)) (rest : List ℕ) → length ds < 2 ^ 32 → AllByRecursion FitsDeclaration ds → groups (declaration_bytes ds ++ rest) ≡ Ok (ds, rest)
declarations_read ds rest few fits =
    ap groups (append_assoc (short_number (length ds)) (flat_map short_declaration ds) rest)
    ∙ (ap (λ r. r >>= λ n. many group n.0 n.1) (short_read (length ds) (flat_map short_declaration ds ++ rest) few) ∙ groups_read ds rest fits)

-- each is named as it was, where each number of a type is that of its id
module _ {F : Type 0} (to : Numbers) (ids : Space → ℕ → Result ℕ F) (undone : (n m : ℕ) → (numbers_in_32_bits to).number_of Types n ≡ Ok m → ids Types m ≡ Ok n) where
  abbrev named : ℕ × ValType ℕ → Result (ℕ × ValType ℕ) F
  named g = translate_value ids g.1 >>= λ type. Ok (g.0, type)

  pub named_again : (rs ds : List (ℕ × ValType ℕ)) → each (declaration to) rs ≡ Ok ds → each named ds ≡ Ok rs
  named_again [] ds e = let is : [] ≡ ds = cc e in ap (each named) (sym is)
  named_again (r ∷ rs) ds e =
      let numbers = (numbers_in_32_bits to).number_of in
      let first = bound (declaration to r) (λ y. each (declaration to) rs >>= λ ys. Ok (y ∷ ys)) ds e in
      let others = bound (each (declaration to) rs) (λ ys. Ok (first.0 ∷ ys)) ds first.2 in
      let made : first.0 ∷ others.0 ≡ ds = cc others.2 in
      let type = bound (translate_value numbers r.1) (λ t. Ok (r.0, t)) first.0 first.1 in
      let is : (r.0, type.0) ≡ first.0 = cc type.2 in
      let one : named first.0 ≡ Ok r =
      ap named (sym is) ∙ ap (λ s. s >>= λ t. Ok (r.0, t)) (value_back numbers ids undone r.1 type.0 type.1) in
      ap (each named) (sym made)
      ∙ ((λ i. one i >>= λ y. each named others.0 >>= λ ys. Ok (y ∷ ys)) ∙ ap (λ s. s >>= λ ys. Ok (r ∷ ys)) (named_again rs others.0 others.1))

-- the types of runs, each as often as its run says
expanded_spread : (rs : List (ℕ × ValType ℕ)) → expanded rs ≡ spread rs
expanded_spread [] = refl
expanded_spread (r ∷ rs) = ap (λ l. replicate r.0 r.1 ++ l) (expanded_spread rs)

pub expanded_runs : (ts : List (ValType ℕ)) → expanded (runs ts) ≡ ts
expanded_runs ts = expanded_spread (runs ts) ∙ (runs_maximal ts).whole
