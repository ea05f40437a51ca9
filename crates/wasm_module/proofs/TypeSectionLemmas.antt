-- The types of a type section: they name types of the section only, and they are the same as when no limit is known.
use Rattle.std.proofs.Common.{◌≡◌, ℕ, zero, suc, ◌+◌, ◌-◌, ◌<◌, ◌≤◌, ◌^◌, ◌==◌, nat_lt, nat_le, Bool, true, false, if◌then◌else◌, List, [], ◌∷◌, ◌++◌, length, replicate, take, slice_get, Option, Some, Result, Ok, Err, refl, sym, ap, ◌∙◌, subst, inl, inr, arith, add-one}
use Rattle.std.specs.List.{AllByRecursion}
use Rattle.std.proofs.lemmas.Bool.Decides.{nat_tests}
use Rattle.wasm_types.specs.declared.val_type.HeapType.{HeapType}
use Rattle.wasm_types.specs.declared.val_type.HeapType.TheVariants.{Abstract, Concrete}
use Rattle.wasm_types.specs.declared.val_type.ValType.{ValType}
use Rattle.wasm_types.specs.declared.val_type.ValType.TheVariants.{I32, I64, F32, F64, V128, Ref}
use Rattle.walrus_ir.specs.Types.{ModuleType, Func, Entry, Other}
use Rattle.wasm_numbers.specs.Results.{◌>>=◌, with_fault, some_or}
use Rattle.wasm_numbers.specs.Reading.{starts}
use Rattle.wasm_numbers.proofs.Agreement.{chosen}
use Rattle.wasm_numbers.proofs.ResultLemmas.{bind_ok, ok_same, with_fault_ok}
use Rattle.wasm_operators.specs.declared.types.Space.{Space}
use Rattle.wasm_operators.specs.declared.types.Space.TheVariants as spaces
use Rattle.wasm_body.specs.declared.error.IndexError.{IndexError}
use Rattle.wasm_body.specs.declared.error.IndexError.TheVariants as index_error
use Rattle.wasm_body.specs.declared.error.ParseError.{ParseError}
use Rattle.wasm_body.specs.declared.error.ParseError.TheVariants as parse
use Rattle.wasm_body.specs.Translation.{translate_heap, translate_value}
use Rattle.walrus_maps.specs.declared.indices_to_ids.IndicesToIds.{IndicesToIds}
use Rattle.walrus_maps.specs.IndexMaps.{ids_in, id_of}
use Rattle.walrus_context.specs.Placing.{ids_at}
use Rattle.wasm_sections.specs.Declarations.{first_numbers}
use Rattle.wasm_sections.specs.NextItems.{AreIndices}
use Rattle.wasm_sections.specs.declared.spaces.Spaces.{Spaces}
use Rattle.std.proofs.lemmas.List.{length-replicate}
use Rattle.wasm_sections.proofs.SpaceLemmas.{number_in}
use Rattle.wasm_sections.specs.declared.fault.ModuleError.{ModuleError}
use Rattle.wasm_sections.specs.declared.fault.ModuleFault.{ModuleFault}
use Rattle.wasm_sections.specs.declared.fault.ModuleFault.TheVariants as fault
use Rattle.wasm_sections.specs.declared.input.Input.{Input}
use Rattle.wasm_sections.specs.declared.types.TypeKind.{TypeKind}
use Rattle.wasm_module.specs.declared.parsed.ParsedModule.{ParsedModule}
use Rattle.wasm_sections.specs.Components.{Components, few_types, type_section_part}
use Rattle.wasm_sections.specs.Format.{value_part, mutability_part, index_among, index_part, heap_below, type_below, value_below, is_packed_byte, storage_part, field_part, composite_byte, composite_after, composite_part, has_supertypes, supertypes_part, subtype_part, members_part, next_type, next_group, types_part, type_read}
use Rattle.wasm_sections.specs.Parts.{Part, fault_here, just, passed, ◌>=>◌, checked, repeated, no_more, whole_part, one_byte, number, vector_of, GivesUnlessMemory}
use Rattle.wasm_sections.specs.TypeParts.{function_type_part, type_count}
use Rattle.wasm_sections.proofs.TypeReadingLemmas.{first_gives, first_fails, FailsUnlessMemory, vector_next, vector_fault, repeated_step, repeated_fault}
use Rattle.wasm_module.specs.ReadModules.{IsOfSection, IsReadSoFar, StepsTo, IndexesTypes, HasOtherTypes, AreBelow, HasTypesBelow, fault_at}

-- ---- a greater limit changes nothing that is read

abbrev Grows : {A : Type 0} → Part A → Part A → Type 0
Grows {A} p q = (end : ℕ) (text : List ℕ) (x : A × List ℕ) → p end text ≡ Ok x → q end text ≡ Ok x

same_grows : {A : Type 0} (p : Part A) → Grows p p
same_grows p end text x e = e

then_grows : {A B : Type 0} (p q : Part A) (f g : A → Part B) → Grows p q → ((a : A) → Grows (f a) (g a)) → Grows (p >=> f) (q >=> g)
then_grows p q f g first second end text x e =
    let a = bind_ok (p end text) (λ y. f y.0 end y.1) x e in
    first_gives (q end text) (λ y. g y.0 end y.1) a.0 (first end text a.0 a.1) ∙ second a.0.0 end a.0.1 x a.2

repeated_grows : {A : Type 0} (s t : A → Part A) (n : ℕ) (a : A) → ((b : A) → Grows (s b) (t b)) → Grows (repeated s n a) (repeated t n a)
unfolding repeated
repeated_grows s t zero a step end text x e = e
repeated_grows s t (suc n) a step end text x e =
    let b = bind_ok (s a end text) (λ y. repeated s n y.0 end y.1) x e in
    first_gives (t a end text) (λ y. repeated t n y.0 end y.1) b.0 (step a end text b.0 b.1) ∙ repeated_grows s t n b.0.0 step end b.0.1 x b.2

checked_grows :
    {A B : Type 0} (p q : Part A) (c d : A → Result B ModuleFault) → Grows p q → ((a : A) (b : B) → c a ≡ Ok b → d a ≡ Ok b) → Grows (checked p c) (checked q d)
checked_grows {A} {B} p q c d first test end text x e =
    let a = bind_ok (p end text) (λ y. with_fault (fault_here end text) (c y.0) >>= λ v. Ok (v, y.1)) x e in
    let b = bind_ok (with_fault (fault_here end text) (c a.0.0)) (λ v. Ok (v, a.0.1)) x a.2 in
    let good : d a.0.0 ≡ Ok b.0 = test a.0.0 b.0 (with_fault_ok (fault_here end text) (c a.0.0) b.0 b.1) in
    first_gives (q end text) (λ y. with_fault (fault_here end text) (d y.0) >>= λ v. Ok (v, y.1)) a.0 (first end text a.0 a.1)
    ∙ ap (λ (r : Result B ModuleFault). with_fault (fault_here end text) r >>= λ v. Ok (v, a.0.1)) good ∙ b.2

if_grows : {A : Type 0} (test : List ℕ → Bool) (p q r s : Part A) → Grows p r → Grows q s → Grows (λ end text. if test text then p end text else q end text) (λ end text. if test text then r end text else s end text)
if_grows test p q r s first second end text x e =
    elim (chosen (test text) (p end text) (q end text) (Ok x) e) [
      | inl y ↦ ap (λ (b : Bool). if b then r end text else s end text) y.0 ∙ first end text x y.1
      | inr y ↦ ap (λ (b : Bool). if b then r end text else s end text) y.0 ∙ second end text x y.1
    ]

choose_grows : {A : Type 0} (b : Bool) (p q r s : Part A) → Grows p r → Grows q s → Grows (if b then p else q) (if b then r else s)
choose_grows true p q r s first second end text x e = first end text x e
choose_grows false p q r s first second end text x e = second end text x e

module _ (limit more : ℕ) (least : limit ≤ more) where
  index_grows : (space : Space) (i : ℕ) (u : Unit {0}) → index_among limit space i ≡ Ok u → index_among more space i ≡ Ok u
  index_grows space i u e =
      elim (chosen (nat_lt i limit) (Ok tt) (Err (fault.IndexOutOfRange space i)) (Ok u) e) [
        | inl y ↦ let less : nat_lt i more ≡ true = let h = y.0 in grind (arith, nat_tests) in ap (λ (b : Bool). if b then Ok tt else Err (fault.IndexOutOfRange space i)) less ∙ y.1
        | inr y ↦ absurd (let h = y.1 in cc)
      ]

  heap_grows : (h k : HeapType ℕ) → heap_below limit h ≡ Ok k → heap_below more h ≡ Ok k
  heap_grows (Abstract a) k e = e
  heap_grows (Concrete i) k e =
      let a = bind_ok (index_among limit spaces.Types i) (λ u. Ok (Concrete i)) k e in
      first_gives (index_among more spaces.Types i) (λ u. Ok (Concrete i)) a.0 (index_grows spaces.Types i a.0 a.1) ∙ a.2

  type_grows : (t u : ValType ℕ) → type_below limit t ≡ Ok u → type_below more t ≡ Ok u
  type_grows I32 u e = e
  type_grows I64 u e = e
  type_grows F32 u e = e
  type_grows F64 u e = e
  type_grows V128 u e = e
  type_grows (Ref r) u e =
      let a = bind_ok (heap_below limit r.heap_type) (λ h. Ok (Ref r)) u e in
      first_gives (heap_below more r.heap_type) (λ h. Ok (Ref r)) a.0 (heap_grows r.heap_type a.0 a.1) ∙ a.2

  value_grows : Grows (value_below limit) (value_below more)
  value_grows = checked_grows value_part value_part (type_below limit) (type_below more) (same_grows value_part) type_grows

  storage_grows : Grows (storage_part limit) (storage_part more)
  storage_grows =
      if_grows (starts is_packed_byte) (passed one_byte) (passed (value_below limit)) (passed one_byte) (passed (value_below more)) (same_grows (passed one_byte))
      (then_grows (value_below limit) (value_below more) (λ x. just tt) (λ x. just tt) value_grows (λ x. same_grows (just tt)))

  field_grows : Grows (field_part limit) (field_part more)
  field_grows =
      then_grows (storage_part limit) (storage_part more) (λ u. mutability_part >=> λ m. just tt) (λ u. mutability_part >=> λ m. just tt) storage_grows
      (λ u. same_grows (mutability_part >=> λ m. just tt))

  values_grow : Grows (vector_of (value_below limit)) (vector_of (value_below more))
  values_grow =
      then_grows number number (λ n. repeated (λ xs. value_below limit >=> λ x. just (xs ++ x ∷ [])) n []) (λ n. repeated (λ xs. value_below more >=> λ x. just (xs ++ x ∷ [])) n [])
      (same_grows number)
      (λ n. repeated_grows (λ xs. value_below limit >=> λ x. just (xs ++ x ∷ [])) (λ xs. value_below more >=> λ x. just (xs ++ x ∷ [])) n []
      (λ xs. then_grows (value_below limit) (value_below more) (λ x. just (xs ++ x ∷ [])) (λ x. just (xs ++ x ∷ [])) value_grows (λ x. same_grows (just (xs ++ x ∷ [])))))

  function_grows : Grows (function_type_part limit) (function_type_part more)
  function_grows =
      then_grows (vector_of (value_below limit)) (vector_of (value_below more)) (λ ps. vector_of (value_below limit) >=> λ rs. just (Func ps rs))
      (λ ps. vector_of (value_below more) >=> λ rs. just (Func ps rs)) values_grow
      (λ ps. then_grows (vector_of (value_below limit)) (vector_of (value_below more)) (λ rs. just (Func ps rs)) (λ rs. just (Func ps rs)) values_grow
      (λ rs. same_grows (just (Func ps rs))))

  struct_grows : Grows (number >=> λ n. repeated (λ u. field_part limit) n tt >=> λ u. just Other) (number >=> λ n. repeated (λ u. field_part more) n tt >=> λ u. just Other)
  struct_grows =
      then_grows number number (λ n. repeated (λ u. field_part limit) n tt >=> λ u. just Other) (λ n. repeated (λ u. field_part more) n tt >=> λ u. just Other) (same_grows number)
      (λ n. then_grows (repeated (λ u. field_part limit) n tt) (repeated (λ u. field_part more) n tt) (λ u. just Other) (λ u. just Other)
      (repeated_grows (λ u. field_part limit) (λ u. field_part more) n tt (λ u. field_grows)) (λ u. same_grows (just Other)))

  array_grows : Grows (field_part limit >=> λ u. just Other) (field_part more >=> λ u. just Other)
  array_grows = then_grows (field_part limit) (field_part more) (λ u. just Other) (λ u. just Other) field_grows (λ u. same_grows (just Other))

  composite_of_grows : (b : ℕ) → Grows (composite_after limit b) (composite_after more b)
  composite_of_grows b =
      choose_grows (b == 0x60) (function_type_part limit)
      (if b == 0x5f then (number >=> λ n. repeated (λ u. field_part limit) n tt >=> λ u. just Other) else (field_part limit >=> λ u. just Other))
      (function_type_part more)
      (if b == 0x5f then (number >=> λ n. repeated (λ u. field_part more) n tt >=> λ u. just Other) else (field_part more >=> λ u. just Other))
      function_grows
      (choose_grows (b == 0x5f) (number >=> λ n. repeated (λ u. field_part limit) n tt >=> λ u. just Other) (field_part limit >=> λ u. just Other)
      (number >=> λ n. repeated (λ u. field_part more) n tt >=> λ u. just Other) (field_part more >=> λ u. just Other) struct_grows array_grows)

  composite_grows : Grows (composite_part limit) (composite_part more)
  composite_grows =
      then_grows (checked one_byte composite_byte) (checked one_byte composite_byte) (composite_after limit) (composite_after more) (same_grows (checked one_byte composite_byte)) composite_of_grows

  supertypes_grow : Grows (supertypes_part limit) (supertypes_part more)
  supertypes_grow =
      then_grows one_byte one_byte (λ b. number >=> λ n. repeated (λ u. index_part limit spaces.Types) n tt) (λ b. number >=> λ n. repeated (λ u. index_part more spaces.Types) n tt)
      (same_grows one_byte)
      (λ b. then_grows number number (λ n. repeated (λ u. index_part limit spaces.Types) n tt) (λ n. repeated (λ u. index_part more spaces.Types) n tt) (same_grows number)
      (λ n. repeated_grows (λ u. index_part limit spaces.Types) (λ u. index_part more spaces.Types) n tt
      (λ u. checked_grows number number (index_among limit spaces.Types) (index_among more spaces.Types) (same_grows number) (λ i v. index_grows spaces.Types i v))))

  subtype_grows : Grows (subtype_part limit) (subtype_part more)
  subtype_grows =
      if_grows (starts has_supertypes) (supertypes_part limit >=> λ u. composite_part limit) (composite_part limit) (supertypes_part more >=> λ u. composite_part more) (composite_part more)
      (then_grows (supertypes_part limit) (supertypes_part more) (λ u. composite_part limit) (λ u. composite_part more) supertypes_grow (λ u. composite_grows)) composite_grows

  group_grows : (types : List ModuleType) → Grows (next_group limit types) (next_group more types)
  group_grows types =
      then_grows members_part members_part (λ n. repeated (next_type limit) n types) (λ n. repeated (next_type more) n types) (same_grows members_part)
      (λ n. repeated_grows (next_type limit) (next_type more) n types
      (λ ts. then_grows (subtype_part limit) (subtype_part more) (λ t. just (ts ++ t ∷ [])) (λ t. just (ts ++ t ∷ [])) subtype_grows (λ t. same_grows (just (ts ++ t ∷ [])))))

  types_grow : Grows (types_part limit) (types_part more)
  types_grow =
      then_grows number number (λ n. repeated (next_group limit) n []) (λ n. repeated (next_group more) n []) (same_grows number)
      (λ n. repeated_grows (next_group limit) (next_group more) n [] group_grows)

-- ---- what is read names types below the limit

-- what holds before some steps, and after each one, holds after all
repeated_keeps :
    {A : Type 0} (P : A → Type 0) (step : A → Part A) (n : ℕ) (a : A) (end : ℕ) (text : List ℕ) (x : A × List ℕ) →
    ((b : A) (t : List ℕ) (y : A × List ℕ) → P b → step b end t ≡ Ok y → P y.0) → P a → repeated step n a end text ≡ Ok x → P x.0
unfolding repeated
repeated_keeps {A} P step zero a end text x keeps p e = subst (λ (y : A × List ℕ). P y.0) (ok_same (a, text) x e) p
repeated_keeps P step (suc n) a end text x keeps p e =
    let b = bind_ok (step a end text) (λ y. repeated step n y.0 end y.1) x e in
    repeated_keeps P step n b.0.0 end b.0.1 x keeps (keeps a text b.0 p b.1) b.2

pub one_more_holds : {A : Type 0} (P : A → Type 0) (xs : List A) (x : A) → AllByRecursion P xs → P x → AllByRecursion P (xs ++ x ∷ [])
one_more_holds P [] x all p = (p, tt)
one_more_holds P (y ∷ ys) x all p = (all.0, one_more_holds P ys x all.1 p)

type_below_same : (limit : ℕ) (t u : ValType ℕ) → type_below limit t ≡ Ok u → type_below limit u ≡ Ok u
type_below_same limit I32 u e = subst (λ (v : ValType ℕ). type_below limit v ≡ Ok v) (ok_same I32 u e) refl
type_below_same limit I64 u e = subst (λ (v : ValType ℕ). type_below limit v ≡ Ok v) (ok_same I64 u e) refl
type_below_same limit F32 u e = subst (λ (v : ValType ℕ). type_below limit v ≡ Ok v) (ok_same F32 u e) refl
type_below_same limit F64 u e = subst (λ (v : ValType ℕ). type_below limit v ≡ Ok v) (ok_same F64 u e) refl
type_below_same limit V128 u e = subst (λ (v : ValType ℕ). type_below limit v ≡ Ok v) (ok_same V128 u e) refl
type_below_same limit (Ref r) u e =
    let a = bind_ok (heap_below limit r.heap_type) (λ h. Ok (Ref r)) u e in
    let same = ok_same (Ref r) u a.2 in
    subst (λ (v : ValType ℕ). type_below limit v ≡ Ok v) same (e ∙ ap (λ (v : ValType ℕ). Ok v) (sym same))

value_is_below : (limit end : ℕ) (text : List ℕ) (x : ValType ℕ × List ℕ) → value_below limit end text ≡ Ok x → type_below limit x.0 ≡ Ok x.0
value_is_below limit end text x e =
    let a = bind_ok (value_part end text) (λ y. with_fault (fault_here end text) (type_below limit y.0) >>= λ v. Ok (v, y.1)) x e in
    let b = bind_ok (with_fault (fault_here end text) (type_below limit a.0.0)) (λ v. Ok (v, a.0.1)) x a.2 in
    let below = type_below_same limit a.0.0 b.0 (with_fault_ok (fault_here end text) (type_below limit a.0.0) b.0 b.1) in
    subst (λ (y : ValType ℕ × List ℕ). type_below limit y.0 ≡ Ok y.0) (ok_same (b.0, a.0.1) x b.2) below

values_are_below : (limit end : ℕ) (text : List ℕ) (x : List (ValType ℕ) × List ℕ) → vector_of (value_below limit) end text ≡ Ok x → AreBelow limit x.0
values_are_below limit end text x e =
    let step : List (ValType ℕ) → Part (List (ValType ℕ)) = λ xs. value_below limit >=> λ v. just (xs ++ v ∷ []) in
    let a = bind_ok (number end text) (λ n. repeated step n.0 [] end n.1) x e in
    repeated_keeps (AreBelow limit) step a.0.0 [] end a.0.1 x
    (λ xs t y all f.
    let b = bind_ok (value_below limit end t) (λ v. Ok (xs ++ v.0 ∷ [], v.1)) y f in
    subst (λ (z : List (ValType ℕ) × List ℕ). AreBelow limit z.0) (ok_same (xs ++ b.0.0 ∷ [], b.0.1) y b.2)
    (one_more_holds (λ v. type_below limit v ≡ Ok v) xs b.0.0 all (value_is_below limit end t b.0 b.1)))
    tt a.2

function_is_below : (limit end : ℕ) (text : List ℕ) (x : ModuleType × List ℕ) → function_type_part limit end text ≡ Ok x → HasTypesBelow limit x.0
function_is_below limit end text x e =
    let a = bind_ok (vector_of (value_below limit) end text) (λ p. (vector_of (value_below limit) >=> λ rs. just (Func p.0 rs)) end p.1) x e in
    let b = bind_ok (vector_of (value_below limit) end a.0.1) (λ r. Ok (Func a.0.0 r.0, r.1)) x a.2 in
    subst (λ (y : ModuleType × List ℕ). HasTypesBelow limit y.0) (ok_same (Func a.0.0 b.0.0, b.0.1) x b.2)
    (values_are_below limit end text a.0 a.1, values_are_below limit end a.0.1 b.0 b.1)

-- a struct or array type
other_is_below : (limit : ℕ) (r : Result (Unit {0} × List ℕ) ModuleError) (x : ModuleType × List ℕ) → (r >>= λ u. Ok (Other, u.1)) ≡ Ok x → HasTypesBelow limit x.0
other_is_below limit r x e =
    let a = bind_ok r (λ u. Ok (Other, u.1)) x e in
    subst (λ (y : ModuleType × List ℕ). HasTypesBelow limit y.0) (ok_same (Other, a.0.1) x a.2) tt

choose_below :
    (limit : ℕ) (b c : Bool) (p q r : Part ModuleType) (end : ℕ) (text : List ℕ) (x : ModuleType × List ℕ) → (p end text ≡ Ok x → HasTypesBelow limit x.0) →
    (q end text ≡ Ok x → HasTypesBelow limit x.0) → (r end text ≡ Ok x → HasTypesBelow limit x.0) →
    (if b then p else if c then q else r) end text ≡ Ok x → HasTypesBelow limit x.0
choose_below limit true c p q r end text x f g h e = f e
choose_below limit false true p q r end text x f g h e = g e
choose_below limit false false p q r end text x f g h e = h e

composite_is_below : (limit end : ℕ) (text : List ℕ) (x : ModuleType × List ℕ) → composite_part limit end text ≡ Ok x → HasTypesBelow limit x.0
composite_is_below limit end text x e =
    let a = bind_ok (checked one_byte composite_byte end text) (λ b. composite_after limit b.0 end b.1) x e in
    choose_below limit (a.0.0 == 0x60) (a.0.0 == 0x5f) (function_type_part limit) (number >=> λ n. repeated (λ u. field_part limit) n tt >=> λ u. just Other)
    (field_part limit >=> λ u. just Other) end a.0.1 x (function_is_below limit end a.0.1 x)
    (λ f. let b = bind_ok (number end a.0.1) (λ n. (repeated (λ u. field_part limit) n.0 tt >=> λ u. just Other) end n.1) x f in
    other_is_below limit (repeated (λ u. field_part limit) b.0.0 tt end b.0.1) x b.2)
    (λ f. other_is_below limit (field_part limit end a.0.1) x f) a.2

pub subtype_is_below : (limit end : ℕ) (text : List ℕ) (x : ModuleType × List ℕ) → subtype_part limit end text ≡ Ok x → HasTypesBelow limit x.0
subtype_is_below limit end text x e =
    elim (chosen (starts has_supertypes text) ((supertypes_part limit >=> λ u. composite_part limit) end text) (composite_part limit end text) (Ok x) e) [
      | inl y ↦
          let a = bind_ok (supertypes_part limit end text) (λ u. composite_part limit end u.1) x y.1 in
          composite_is_below limit end a.0.1 x a.2
      | inr y ↦ composite_is_below limit end text x y.1
    ]

is_of_section : (limit : ℕ) (type : ModuleType) → HasTypesBelow limit type → IsOfSection type
is_of_section limit (Func ps rs) h = tt
is_of_section limit (Entry rs) h = h
is_of_section limit Other h = tt

pub types_are_of_section : (limit end : ℕ) (text : List ℕ) (x : List ModuleType × List ℕ) → types_part limit end text ≡ Ok x → AllByRecursion IsOfSection x.0
types_are_of_section limit end text x e =
    let a = bind_ok (number end text) (λ n. repeated (next_group limit) n.0 [] end n.1) x e in
    repeated_keeps (AllByRecursion IsOfSection) (next_group limit) a.0.0 [] end a.0.1 x
    (λ ts t y all f.
    let b = bind_ok (members_part end t) (λ n. repeated (next_type limit) n.0 ts end n.1) y f in
    repeated_keeps (AllByRecursion IsOfSection) (next_type limit) b.0.0 ts end b.0.1 y
    (λ us u z more g.
    let c = bind_ok (subtype_part limit end u) (λ v. Ok (us ++ v.0 ∷ [], v.1)) z g in
    subst (λ (w : List ModuleType × List ℕ). AllByRecursion IsOfSection w.0) (ok_same (us ++ c.0.0 ∷ [], c.0.1) z c.2)
    (one_more_holds IsOfSection us c.0.0 more (is_of_section limit c.0.0 (subtype_is_below limit end u c.0 c.1))))
    all b.2)
    tt a.2

-- ---- the section

fault_before : (r : Result (List ModuleType) ModuleError) (e : ModuleError) → (r >>= λ all. Ok (length all)) ≡ Err e → r ≡ Err e
fault_before (Ok all) e h = absurd cc
fault_before (Err d) e h = let same : d ≡ e = cc in ap (λ (x : ModuleError). Err x) same

counted_section :
    (m : Components) (end : ℕ) (text : List ℕ) (all : List ModuleType) (count : ℕ) → whole_part (types_part (2 ^ 64 - 1)) end text ≡ Ok all → length all ≡ count → count ≤ 2 ^ 32 →
    type_section_part m end text ≡ (types_part count end text >>= λ x. Ok (record m { types = x.0 }))
counted_section m end text all count read long few =
    let less : nat_le (length all) (2 ^ 32) ≡ true = grind (arith, nat_tests) in
    first_gives (whole_part (types_part (2 ^ 64 - 1)) end text >>= few_types) (λ xs. types_part (length xs) end text >>= λ x. Ok (record m { types = x.0 })) all
    (first_gives (whole_part (types_part (2 ^ 64 - 1)) end text) few_types all read ∙ ap (λ (b : Bool). if b then Ok all else Err (fault_at 0 fault.TooGreat)) less)
    ∙ ap (λ (k : ℕ). types_part k end text >>= λ x. Ok (record m { types = x.0 })) long

pub record SectionRead (m : Components) (count end : ℕ) (text : List ℕ) (types : List ModuleType) : Type 0 where
  pub section_is : type_section_part m end text ≡ Ok (record m { types = types })
  pub count_is : length types ≡ count
  pub of_section : AllByRecursion IsOfSection types

pub section_read :
    (m : Components) (count end : ℕ) (text : List ℕ) (types : List ModuleType) (rest : List ℕ) → type_count end text ≡ Ok count → count ≤ 2 ^ 32 → types_part count end text ≡ Ok (types, rest) →
    SectionRead m count end text types
section_read m count end text types rest counted few read =
    let a = bind_ok (whole_part (types_part (2 ^ 64 - 1)) end text) (λ all. Ok (length all)) count counted in
    let b = bind_ok (types_part (2 ^ 64 - 1) end text) (λ x. no_more x.1 end >>= λ u. Ok x.0) a.0 a.1 in
    let c = bind_ok (no_more b.0.1 end) (λ u. Ok b.0.0) a.0 b.2 in
    let long = ok_same (length a.0) count a.2 in
    let same = ok_same b.0 (types, rest) (sym b.1 ∙ types_grow count (2 ^ 64 - 1) (omega arith) end text (types, rest) read) in
    let types_are : types ≡ a.0 = sym (ap (λ (p : List ModuleType × List ℕ). p.0) same) ∙ ok_same b.0.0 a.0 c.2 in
    record {
      section_is =
          counted_section m end text a.0 count a.1 long few
          ∙ first_gives (types_part count end text) (λ x. Ok (record m { types = x.0 })) (types, rest) read;
      count_is = ap length types_are ∙ long;
      of_section = types_are_of_section count end text (types, rest) read;
    }

pub section_unread :
    (m : Components) (count end : ℕ) (text : List ℕ) (e : ModuleError) → type_count end text ≡ Ok count → count ≤ 2 ^ 32 → types_part count end text ≡ Err e →
    type_section_part m end text ≡ Err e
section_unread m count end text e counted few failed =
    let a = bind_ok (whole_part (types_part (2 ^ 64 - 1)) end text) (λ all. Ok (length all)) count counted in
    counted_section m end text a.0 count a.1 (ok_same (length a.0) count a.2) few ∙ first_fails (types_part count end text) (λ x. Ok (record m { types = x.0 })) e failed

pub section_too_long :
    (m : Components) (count end : ℕ) (text : List ℕ) → type_count end text ≡ Ok count → 2 ^ 32 < count → type_section_part m end text ≡ Err (fault_at 0 fault.TooGreat)
section_too_long m count end text counted many =
    let a = bind_ok (whole_part (types_part (2 ^ 64 - 1)) end text) (λ all. Ok (length all)) count counted in
    let long = ok_same (length a.0) count a.2 in
    let less : nat_le (length a.0) (2 ^ 32) ≡ false = grind (arith, nat_tests) in
    first_fails (whole_part (types_part (2 ^ 64 - 1)) end text >>= few_types) (λ all. types_part (length all) end text >>= λ x. Ok (record m { types = x.0 })) (fault_at 0 fault.TooGreat)
    (first_gives (whole_part (types_part (2 ^ 64 - 1)) end text) few_types a.0 a.1 ∙ ap (λ (b : Bool). if b then Ok a.0 else Err (fault_at 0 fault.TooGreat)) less)

pub section_uncounted : (m : Components) (end : ℕ) (text : List ℕ) (e : ModuleError) → type_count end text ≡ Err e → type_section_part m end text ≡ Err e
section_uncounted m end text e counted =
    let whole : whole_part (types_part (2 ^ 64 - 1)) end text ≡ Err e = fault_before (whole_part (types_part (2 ^ 64 - 1)) end text) e counted in
    first_fails (whole_part (types_part (2 ^ 64 - 1)) end text >>= few_types) (λ all. types_part (length all) end text >>= λ x. Ok (record m { types = x.0 })) e
    (first_fails (whole_part (types_part (2 ^ 64 - 1)) end text) few_types e whole)

-- ---- ids of types are their indices

heap_itself :
    (ids : IndicesToIds) (limit : ℕ) (h k : HeapType ℕ) → ids_in ids spaces.Types ≡ first_numbers limit → heap_below limit h ≡ Ok k → translate_heap (ids_at ids) h ≡ Ok h
heap_itself ids limit (Abstract a) k first below = refl
heap_itself ids limit (Concrete i) k first below =
    let a = bind_ok (index_among limit spaces.Types i) (λ u. Ok (Concrete i)) k below in
    let less : i < limit =
    elim (chosen (nat_lt i limit) (Ok tt) (Err (fault.IndexOutOfRange spaces.Types i)) (Ok a.0) a.1) [
      | inl x ↦ let h = x.0 in grind (arith, nat_tests)
      | inr x ↦ absurd (let h = x.1 in cc)
    ] in
    let found : id_of ids spaces.Types i ≡ Ok i = ap (λ (o : Option ℕ). some_or o (index_error.OutOfRange spaces.Types i)) (number_in (ids_in ids spaces.Types) limit i first less) in
    first_gives (ids_at ids spaces.Types i) (λ n. Ok (Concrete n)) i (ap (λ (r : Result ℕ IndexError). with_fault parse.Index r) found)

translate_below :
    (ids : IndicesToIds) (limit : ℕ) (t : ValType ℕ) → ids_in ids spaces.Types ≡ first_numbers limit → type_below limit t ≡ Ok t → translate_value (ids_at ids) t ≡ Ok t
translate_below ids limit I32 first below = refl
translate_below ids limit I64 first below = refl
translate_below ids limit F32 first below = refl
translate_below ids limit F64 first below = refl
translate_below ids limit V128 first below = refl
translate_below ids limit (Ref r) first below =
    let a = bind_ok (heap_below limit r.heap_type) (λ h. Ok (Ref r)) (Ref r) below in
    first_gives (translate_heap (ids_at ids) r.heap_type) (λ h. Ok (Ref (record { nullable = r.nullable; heap_type = h }))) r.heap_type
    (heap_itself ids limit r.heap_type a.0 first a.1)

pub item_is_itself :
    (ids : IndicesToIds) (limit : ℕ) (types : List (ValType ℕ)) (k : ℕ) (t : ValType ℕ) → ids_in ids spaces.Types ≡ first_numbers limit → AreBelow limit types →
    slice_get types k ≡ Some t → translate_value (ids_at ids) t ≡ Ok t
item_is_itself ids limit [] k t first below e = absurd cc
item_is_itself ids limit (x ∷ xs) zero t first below e =
    let same : x ≡ t = cc in subst (λ (v : ValType ℕ). translate_value (ids_at ids) v ≡ Ok v) same (translate_below ids limit x first below.0)
item_is_itself ids limit (x ∷ xs) (suc k) t first below e = item_is_itself ids limit xs k t first below.1 e

pub value_fails :
    (ids : IndicesToIds) (limit : ℕ) (types : List (ValType ℕ)) (k : ℕ) {t : ValType ℕ} (error : ParseError) → Err error ≡ translate_value (ids_at ids) t →
    slice_get types k ≡ Some t → ids_in ids spaces.Types ≡ first_numbers limit → AreBelow limit types → ⊥
value_fails ids limit types k {t} error e at first below = let h = item_is_itself ids limit types k t first below at in let f : Err error ≡ Ok t = e ∙ h in cc

take_one : {A : Type 0} (xs : List A) (k : ℕ) (t : A) → slice_get xs k ≡ Some t → take (suc k) xs ≡ take k xs ++ t ∷ []
take_one [] k t e = absurd cc
take_one {A} (x ∷ xs) zero t e = let same : x ≡ t = cc in ap (λ (y : A). y ∷ []) same
take_one {A} (x ∷ xs) (suc k) t e = ap (λ (l : List A). x ∷ l) (take_one xs k t e)

pub value_kept :
    (ids : IndicesToIds) (limit : ℕ) (types : List (ValType ℕ)) (k : ℕ) {t : ValType ℕ} (type : ValType ℕ) (made new : List (ValType ℕ)) → Ok type ≡ translate_value (ids_at ids) t →
    slice_get types k ≡ Some t → ids_in ids spaces.Types ≡ first_numbers limit → AreBelow limit types → made ≡ take k types → new ≡ made ++ type ∷ [] → new ≡ take (k + 1) types
value_kept ids limit types k {t} type made new e at first below front is =
    let same : type ≡ t = ok_same type t (e ∙ item_is_itself ids limit types k t first below at) in
    rw add-one (is ∙ ap (λ (l : List (ValType ℕ)). l ++ type ∷ []) front ∙ ap (λ (x : ValType ℕ). take k types ++ x ∷ []) same ∙ sym (take_one types k t at))

-- ---- the section is read twice

ids_indexed : (m : Components) (count : ℕ) (t : Spaces) → IndexesTypes m count (Ok tt) t → ids_in t.indices spaces.Types ≡ first_numbers count
ids_indexed m count t ix =
    let types : List ModuleType = replicate count Other in
    let long : length types ≡ count = length-replicate count Other in
    let indices = ix.1 types long in
    indices.ids spaces.Types ∙ ap first_numbers long

pub types_step :
    (m : Components) (s : Spaces) (n : Components) (indexed t : Spaces) (count end at : ℕ) (text rest : List ℕ) (types : List ModuleType) (result : Result (Unit {0}) ModuleError) →
    type_count end text ≡ Ok count → (IsReadSoFar m s → IndexesTypes m count (Ok tt) indexed) → n ≡ record m { types = types } → t ≡ indexed → indexed.counts.tags ≡ s.counts.tags → at ≡ end →
    (ids_in indexed.indices spaces.Types ≡ first_numbers count → GivesUnlessMemory (λ u. (types, rest)) result (types_part count at text)) →
    StepsTo (λ c. c) m s result (type_section_part m end text) n t
types_step m s n indexed t count end at text rest types (Ok u) counted indexes n_is t_is same_tags a read = λ so.
    let ix = indexes so in
    let got = read (ids_indexed m count indexed ix) in
    let section = section_read m count end text types rest counted ix.0 (ap (λ (k : ℕ). types_part count k text) (sym a) ∙ got) in
    let indices : AreIndices (record m { types = types }) t = subst (λ (x : Spaces). AreIndices (record m { types = types }) x) (sym t_is) (ix.1 types section.count_is) in
    let after : IsReadSoFar (record m { types = types }) t = record {
      indices = indices;
      types = section.of_section;
      tags = ap (λ (x : Spaces). x.counts.tags) t_is ∙ same_tags ∙ so.tags;
    } in
    (section.section_is ∙ ap (λ (c : Components). Ok c) (sym n_is), subst (λ (c : Components). IsReadSoFar c t) (sym n_is) after)
types_step m s n indexed t count end at text rest types (Err e) counted indexes n_is t_is same_tags a read = λ so.
    let ix = indexes so in
    elim (read (ids_indexed m count indexed ix)) [
      | inl memory ↦ inl memory
      | inr failed ↦ inr (section_unread m count end text e counted ix.0 (ap (λ (k : ℕ). types_part count k text) (sym a) ∙ failed))
    ]

pub not_counted_step : (m : Components) (end : ℕ) (text : List ℕ) (e : ModuleError) → FailsUnlessMemory e (type_count end text) → FailsUnlessMemory e (type_section_part m end text)
not_counted_step m end text e (inl memory) = inl memory
not_counted_step m end text e (inr failed) = inr (section_uncounted m end text e failed)

pub not_indexed_step :
    (m : Components) (count end : ℕ) (text : List ℕ) (e : ModuleError) (t : Spaces) → type_count end text ≡ Ok count → IndexesTypes m count (Err e) t →
    FailsUnlessMemory e (type_section_part m end text)
not_indexed_step m count end text e t counted (inl memory) = inl memory
not_indexed_step m count end text e t counted (inr (many, is)) = inr (section_too_long m count end text counted many ∙ ap (λ (x : ModuleError). Err x) (sym is))

-- the same for a reader of the section
pub read_by :
    (input section : Input) (limit count : ℕ) (types : List ModuleType) (rest : List ℕ) (result : Result (Unit {0}) ModuleError) → input ≡ section → limit ≡ count →
    GivesUnlessMemory (λ u. (types, rest)) result (types_part limit input.end input.rest.now) →
    GivesUnlessMemory (λ u. (types, rest)) result (types_part count section.end section.rest.now)
read_by input section limit count types rest result i l h =
    subst (λ (k : ℕ). GivesUnlessMemory (λ u. (types, rest)) result (types_part k section.end section.rest.now)) l
    (subst (λ (x : Input). GivesUnlessMemory (λ u. (types, rest)) result (types_part limit x.end x.rest.now)) i h)

-- ---- one more type, and one more group

pub types_then : (a b c : ParsedModule) → HasOtherTypes a b → HasOtherTypes b c → HasOtherTypes a c
types_then a b c p q = record {
  components = q.components ∙ ap (λ (m : Components). record m { types = c.«module».types }) p.components;
  spaces = q.spaces ∙ p.spaces;
}

pub group_next :
    (limit here n i end other : ℕ) (text rest : List ℕ) (types new : List ModuleType) (kind : TypeKind) (ps qs rs ts : List (ValType ℕ)) → i < n → here ≡ limit →
    subtype_part here end text ≡ Ok (type_read kind ps rs, rest) → qs ≡ ps → ts ≡ rs →
    (HasTypesBelow limit (type_read kind qs ts) → (let r : Result (List ModuleType) ModuleError = Ok (types ++ type_read kind qs ts ∷ []) in r) ≡ Ok new) → other ≡ end →
    repeated (next_type limit) (n - i) types end text ≡ repeated (next_type limit) (n - (i + 1)) new other rest
group_next limit here n i end other text rest types new kind ps qs rs ts less h e q t added o =
    let type : ModuleType = type_read kind qs ts in
    let is : subtype_part limit end text ≡ Ok (type, rest) =
    ap (λ (k : ℕ). subtype_part k end text) (sym h) ∙ e ∙ ap (λ (l : List (ValType ℕ)). Ok (type_read kind l rs, rest)) (sym q)
    ∙ ap (λ (l : List (ValType ℕ)). Ok (type_read kind qs l, rest)) (sym t) in
    let below = subtype_is_below limit end text (type, rest) is in
    vector_next (subtype_part limit) n i types new type end other text rest less is (sym (ok_same (types ++ type ∷ []) new (added below))) o

-- a type that is read is added, unless memory ran out
pub group_memory :
    (limit here end : ℕ) (text rest : List ℕ) (types : List ModuleType) (kind : TypeKind) (ps qs rs ts : List (ValType ℕ)) (e : ModuleError) → here ≡ limit →
    subtype_part here end text ≡ Ok (type_read kind ps rs, rest) → qs ≡ ps → ts ≡ rs →
    (HasTypesBelow limit (type_read kind qs ts) → FailsUnlessMemory e (let r : Result (List ModuleType) ModuleError = Ok (types ++ type_read kind qs ts ∷ []) in r)) → e.fault ≡ fault.Memory
group_memory limit here end text rest types kind ps qs rs ts e h read q t failed =
    let type : ModuleType = type_read kind qs ts in
    let is : subtype_part limit end text ≡ Ok (type, rest) =
    ap (λ (k : ℕ). subtype_part k end text) (sym h) ∙ read ∙ ap (λ (l : List (ValType ℕ)). Ok (type_read kind l rs, rest)) (sym q)
    ∙ ap (λ (l : List (ValType ℕ)). Ok (type_read kind qs l, rest)) (sym t) in
    elim (failed (subtype_is_below limit end text (type, rest) is)) [ inl memory ↦ memory | inr other ↦ absurd (let h = other in cc) ]

pub group_fails :
    (limit here n i end : ℕ) (text : List ℕ) (types : List ModuleType) (e : ModuleError) → i < n → here ≡ limit → FailsUnlessMemory e (subtype_part here end text) →
    FailsUnlessMemory e (repeated (next_type limit) (n - i) types end text)
group_fails limit here n i end text types e less h (inl memory) = inl memory
group_fails limit here n i end text types e less h (inr failed) =
    inr (vector_fault (subtype_part limit) n i types end text e less (ap (λ (k : ℕ). subtype_part k end text) (sym h) ∙ failed))

pub groups_next :
    (limit here n i end other : ℕ) (text rest : List ℕ) (types new : List ModuleType) → i < n → here ≡ limit → next_group here types end text ≡ Ok (new, rest) → other ≡ end →
    repeated (next_group limit) (n - i) types end text ≡ repeated (next_group limit) (n - (i + 1)) new other rest
groups_next limit here n i end other text rest types new less h e o =
    repeated_step (next_group limit) n i types new end text rest less (ap (λ (k : ℕ). next_group k types end text) (sym h) ∙ e)
    ∙ ap (λ (k : ℕ). repeated (next_group limit) (n - (i + 1)) new k rest) (sym o)

pub groups_fail :
    (limit here n i end : ℕ) (text : List ℕ) (types : List ModuleType) (e : ModuleError) → i < n → here ≡ limit → FailsUnlessMemory e (next_group here types end text) →
    FailsUnlessMemory e (repeated (next_group limit) (n - i) types end text)
groups_fail limit here n i end text types e less h (inl memory) = inl memory
groups_fail limit here n i end text types e less h (inr failed) =
    inr (repeated_fault (next_group limit) n i types end text e less (ap (λ (k : ℕ). next_group k types end text) (sym h) ∙ failed))

-- where the ids of types are their indices
pub ids_still :
    (a b : ParsedModule) (limit here : ℕ) → HasOtherTypes a b → here ≡ limit → ids_in a.spaces.indices spaces.Types ≡ first_numbers limit →
    ids_in b.spaces.indices spaces.Types ≡ first_numbers here
ids_still a b limit here others h ids =
    ap (λ (x : Spaces). ids_in x.indices spaces.Types) others.spaces ∙ ids ∙ ap first_numbers (sym h)
