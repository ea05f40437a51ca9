-- The demo module's numbers: each id of an old index has one, and so has the type of each sequence.
use Rattle.std.specs.Prelude.{◌≡◌, ℕ, suc, zero, List, [], ◌∷◌, Bool, Option, Some, None, slice_get, IsOk, is_ok, Result, Ok, Err}
use Rattle.std.specs.List.{AllByRecursion}
use Rattle.std.specs.FinMap.{get, gets}
use Rattle.std.proofs.Common.{refl, ap, subst, rules}
use Rattle.wasm_types.specs.declared.val_type.HeapType.{HeapType}
use Rattle.wasm_types.specs.declared.val_type.HeapType.TheVariants.{Abstract, Concrete}
use Rattle.wasm_types.specs.declared.val_type.ValType.{ValType}
use Rattle.wasm_types.specs.declared.val_type.ValType.TheVariants.{I32, I64, F32, F64, V128, Ref}
use Rattle.walrus_ir.specs.declared.val_type.InstrSeqType.{InstrSeqType}
use Rattle.walrus_ir.specs.declared.val_type.InstrSeqType.TheVariants.{Simple, MultiValue}
use Rattle.walrus_ir.specs.Types.{Signature, signature, pick}
use Rattle.wasm_operators.specs.declared.types.BlockType.{BlockType}
use Rattle.wasm_operators.specs.declared.types.BlockType.TheVariants.{Empty, Value, FuncType}
use Rattle.wasm_operators.specs.declared.types.Space.{Space}
use Rattle.wasm_operators.specs.declared.types.Space.TheVariants.{Tables, Types, Funcs, Globals, Memories, Elements, Data, Tags}
use Rattle.wasm_numbers.specs.Results.{◌>>=◌, some_or, with_fault}
use Rattle.walrus_maps.specs.IndexMaps.{ids_in}
use Rattle.wasm_body.specs.Translation.{translate_heap, translate_value}
use Rattle.wasm_body.specs.Naming.{id_at, name_block, function_type}
use Rattle.wasm_body.specs.Bytes.{numbers_in_32_bits, numbered_block}
use Rattle.wasm_body.proofs.Translation.Steps.{bound}
use Rattle.walrus_run.specs.Demo.{demo_types, demo_indices, demo_environment, demo_numbers}

-- ---- ids of old indices

pub within : (P : ℕ → Type 0) (ids : List ℕ) (n id : ℕ) → AllByRecursion P ids → slice_get ids n ≡ Some id → P id
within P [] n id all at = absurd cc
within P (i ∷ ids) zero id all at = let e : i ≡ id = cc in subst P e all.0
within P (i ∷ ids) (suc n) id all at = within P ids n id all.1 at

-- the id is its own number
abbrev IsNumbered : Space → ℕ → Type 0
IsNumbered space id = (numbers_in_32_bits demo_numbers).number_of space id ≡ Ok id

all_numbered : (space : Space) → AllByRecursion (IsNumbered space) (ids_in demo_indices space)
all_numbered Tables = (refl, tt)
all_numbered Types = (refl, (refl, (refl, (refl, tt))))
all_numbered Funcs = (refl, (refl, tt))
all_numbered Globals = (refl, tt)
all_numbered Memories = (refl, tt)
all_numbered Elements = (refl, tt)
all_numbered Data = (refl, tt)
all_numbered Tags = (refl, (refl, tt))

pub some_of : {E : Type 0} (o : Option ℕ) (e : E) (id : ℕ) → some_or o e ≡ Ok id → o ≡ Some id
some_of (Some x) e id h = let same : x ≡ id = cc in ap Some same
some_of None e id h = absurd cc

has_index : (space : Space) (n id : ℕ) → demo_environment.id_of space n ≡ Ok id → IsNumbered space id
has_index space n id at = within (IsNumbered space) (ids_in demo_indices space) n id (all_numbered space) (some_of _ _ id at)

-- ---- types of sequences

unfaulted : {A E F : Type 0} (f : E → F) (r : Result A E) (x : A) → with_fault f r ≡ Ok x → r ≡ Ok x
unfaulted f (Ok y) x h = let same : y ≡ x = cc in ap Ok same
unfaulted f (Err e) x h = absurd cc

abbrev HeapNumbered : HeapType ℕ → Type 0
HeapNumbered h = IsOk (translate_heap (numbers_in_32_bits demo_numbers).number_of h)

has_heap : (h g : HeapType ℕ) → translate_heap (id_at demo_environment) h ≡ Ok g → HeapNumbered g
has_heap (Abstract a) g e = let same : Abstract a ≡ g = cc in subst HeapNumbered same refl
has_heap (Concrete n) g e =
    let id = bound (id_at demo_environment Types n) (λ m. Ok (Concrete m)) g e in
    let same : Concrete id.0 ≡ g = cc in
    let at = has_index Types n id.0 (unfaulted _ (demo_environment.id_of Types n) id.0 id.1) in
    subst HeapNumbered same (ap (λ r. is_ok (r >>= λ m. Ok (Concrete m))) at)

abbrev ValueNumbered : ValType ℕ → Type 0
ValueNumbered t = IsOk (translate_value (numbers_in_32_bits demo_numbers).number_of t)

abbrev reference : (nullable : Bool) (h : HeapType ℕ) → ValType ℕ
reference nullable h = Ref (record { nullable = nullable; heap_type = h })

then_ok : {A B E : Type 0} (r : Result A E) (f : A → B) → IsOk r → IsOk (r >>= λ x. Ok (f x))
then_ok (Ok x) f h = refl
then_ok (Err e) f h = absurd cc

has_value : (t u : ValType ℕ) → translate_value (id_at demo_environment) t ≡ Ok u → ValueNumbered u
has_value I32 u e = let same : I32 ≡ u = cc in subst ValueNumbered same refl
has_value I64 u e = let same : I64 ≡ u = cc in subst ValueNumbered same refl
has_value F32 u e = let same : F32 ≡ u = cc in subst ValueNumbered same refl
has_value F64 u e = let same : F64 ≡ u = cc in subst ValueNumbered same refl
has_value V128 u e = let same : V128 ≡ u = cc in subst ValueNumbered same refl
has_value (Ref r) u e =
    let h = bound (translate_heap (id_at demo_environment) r.heap_type) (λ h. Ok (reference r.nullable h)) u e in
    let same : reference r.nullable h.0 ≡ u = cc in
    subst ValueNumbered same (then_ok (translate_heap (numbers_in_32_bits demo_numbers).number_of h.0) (reference r.nullable) (has_heap r.heap_type h.0 h.1))

abbrev BlockNumbered : InstrSeqType → Type 0
BlockNumbered t = IsOk (numbered_block demo_numbers t)

-- if a type is picked for it, that type has a number
abbrev PickNumbered : Signature → Type 0
PickNumbered s = (t : InstrSeqType) → pick demo_types s ≡ Some t → BlockNumbered t

picked : (s : Signature) (u : InstrSeqType) → pick demo_types s ≡ Some u → BlockNumbered u → PickNumbered s
picked s u at ok t e = let same : u ≡ t = cc in subst BlockNumbered same ok

has_type : (id : ℕ) (s : Signature) → function_type demo_environment id ≡ Ok s → PickNumbered s
has_type zero s e = let same : signature [] [] ≡ s = cc in subst PickNumbered same (picked (signature [] []) (Simple None) refl refl)
has_type (suc zero) s e = let same : signature (I32 ∷ []) [] ≡ s = cc in subst PickNumbered same (picked (signature (I32 ∷ []) []) (MultiValue 1) refl refl)
has_type (suc (suc zero)) s e = let same : signature (I32 ∷ I32 ∷ []) (I32 ∷ []) ≡ s = cc in subst PickNumbered same (picked (signature (I32 ∷ I32 ∷ []) (I32 ∷ [])) (MultiValue 2) refl refl)
has_type (suc (suc (suc zero))) s e = let same : signature (I32 ∷ []) [] ≡ s = cc in subst PickNumbered same (picked (signature (I32 ∷ []) []) (MultiValue 1) refl refl)
has_type (suc (suc (suc (suc zero)))) s e = let same : signature [] [] ≡ s = cc in subst PickNumbered same (picked (signature [] []) (Simple None) refl refl)
has_type (suc (suc (suc (suc (suc n))))) s e = absurd cc

has_block : (b : BlockType) (s : Signature) → name_block demo_environment b ≡ Ok s → PickNumbered s
has_block Empty s e = let same : signature [] [] ≡ s = cc in subst PickNumbered same (picked (signature [] []) (Simple None) refl refl)
has_block (Value t) s e =
    let u = bound (translate_value (id_at demo_environment) t) (λ u. Ok (signature [] (u ∷ []))) s e in
    let same : signature [] (u.0 ∷ []) ≡ s = cc in
    subst PickNumbered same (picked (signature [] (u.0 ∷ [])) (Simple (Some u.0)) refl (then_ok (translate_value (numbers_in_32_bits demo_numbers).number_of u.0) Value (has_value t u.0 u.1)))
has_block (FuncType n) s e = let id = bound (id_at demo_environment Types n) (function_type demo_environment) s e in has_type id.0 s id.2

-- ---- locals

pub locals_are : get demo_indices.locals 0 ≡ Some (0 ∷ 1 ∷ 2 ∷ 3 ∷ [])
locals_are = grind (gets, rules)

-- ---- ids with numbers

pub has_indices : (space : Space) (n id : ℕ) → demo_environment.id_of space n ≡ Ok id → IsOk ((numbers_in_32_bits demo_numbers).number_of space id)
has_indices space n id at = ap is_ok (has_index space n id at)

pub has_blocks : (b : BlockType) (s : Signature) (t : InstrSeqType) → name_block demo_environment b ≡ Ok s → pick demo_types s ≡ Some t → IsOk (numbered_block demo_numbers t)
has_blocks b s t named picked = has_block b s named t picked
