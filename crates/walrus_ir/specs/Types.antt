-- The types of a module, and the type of a sequence with given parameters and results.
use Rattle.std.specs.Prelude.{ℕ, List, [], ◌∷◌, Bool, true, false, ◌&&◌, ◌==◌, Option, Some, None, slice_get, position, option_and_then}
use Rattle.std.specs.Option.{option_map}
use Rattle.wasm_types.specs.TypeOrder.{rank_of}
use Rattle.wasm_types.specs.declared.val_type.HeapType.{HeapType}
use Rattle.wasm_types.specs.declared.val_type.HeapType.TheVariants.{Abstract, Concrete}
use Rattle.wasm_types.specs.declared.val_type.ValType.{ValType}
use Rattle.wasm_types.specs.declared.val_type.ValType.TheVariants.{I32, I64, F32, F64, V128, Ref}
use Rattle.walrus_ir.specs.declared.val_type.InstrSeqType.{InstrSeqType}
use Rattle.walrus_ir.specs.declared.val_type.InstrSeqType.TheVariants.{Simple, MultiValue}

-- Parameters and results, each in order.
pub record Signature : Type 0 where
  pub parameters : List (ValType ℕ)
  pub results : List (ValType ℕ)

abbrev pub signature : List (ValType ℕ) → List (ValType ℕ) → Signature
signature parameters results = record { parameters = parameters; results = results }

-- A type of the module: a function type, the type of the entry of a function with these results, or a struct or array type,
-- about which nothing else is known here. The types of a module are a list, by id.
pub data ModuleType : Type 0 where
  Func : (parameters results : List (ValType ℕ)) → ModuleType
  Entry : (results : List (ValType ℕ)) → ModuleType
  Other : ModuleType

abbrev pub signature_in : ModuleType → Option Signature
signature_in (Func parameters results) = Some (signature parameters results)
signature_in (Entry results) = Some (signature [] results)
signature_in Other = None

-- the signature of a type of the module, if it has one; an entry type has no parameters
abbrev pub signature_of : List ModuleType → ℕ → Option Signature
signature_of types id = option_and_then signature_in (slice_get types id)

-- ---- equal types

abbrev pub same_heap : HeapType ℕ → HeapType ℕ → Bool
same_heap (Abstract a) (Abstract b) = rank_of a == rank_of b
same_heap (Concrete m) (Concrete n) = m == n
same_heap (Abstract a) (Concrete n) = false
same_heap (Concrete m) (Abstract b) = false

abbrev pub same_bool : Bool → Bool → Bool
same_bool true true = true
same_bool false false = true
same_bool true false = false
same_bool false true = false

abbrev pub same_type : ValType ℕ → ValType ℕ → Bool
same_type I32 I32 = true
same_type I64 I64 = true
same_type F32 F32 = true
same_type F64 F64 = true
same_type V128 V128 = true
same_type (Ref a) (Ref b) = same_bool a.nullable b.nullable && same_heap a.heap_type b.heap_type
same_type _ _ = false

abbrev pub same_types : List (ValType ℕ) → List (ValType ℕ) → Bool
same_types [] [] = true
same_types [] (u ∷ us) = false
same_types (t ∷ ts) [] = false
same_types (t ∷ ts) (u ∷ us) = same_type t u && same_types ts us

-- ---- the pick

abbrev pub is_function : List (ValType ℕ) → List (ValType ℕ) → ModuleType → Bool
is_function parameters results (Func ps rs) = same_types ps parameters && same_types rs results
is_function parameters results (Entry rs) = false
is_function parameters results Other = false

abbrev pub is_entry : List (ValType ℕ) → ModuleType → Bool
is_entry results (Entry rs) = same_types rs results
is_entry results (Func ps rs) = false
is_entry results Other = false

-- the id of the first function type with these lists; entry types don't count
abbrev pub find : List ModuleType → List (ValType ℕ) → List (ValType ℕ) → Option ℕ
find types parameters results = position (is_function parameters results) types

-- the id of the first entry type with these results
abbrev pub find_entry : List ModuleType → List (ValType ℕ) → Option ℕ
find_entry types results = position (is_entry results) types

-- The pick: the type of a sequence with these parameters and results. Without parameters and with at most one result it
-- needs no type of the module; otherwise it is the first function type with these lists.
abbrev pub existing : List ModuleType → List (ValType ℕ) → List (ValType ℕ) → Option InstrSeqType
existing types [] [] = Some (Simple None)
existing types [] (t ∷ []) = Some (Simple (Some t))
existing types [] (t ∷ u ∷ ts) = option_map MultiValue (find types [] (t ∷ u ∷ ts))
existing types (p ∷ ps) results = option_map MultiValue (find types (p ∷ ps) results)

abbrev pub pick : List ModuleType → Signature → Option InstrSeqType
pick types s = existing types s.parameters s.results

-- the signature of a sequence of this type, if the module has the type
abbrev pub signature_of_type : List ModuleType → InstrSeqType → Option Signature
signature_of_type types (Simple None) = Some (signature [] [])
signature_of_type types (Simple (Some t)) = Some (signature [] (t ∷ []))
signature_of_type types (MultiValue id) = signature_of types id
