-- A body that is written with fewer locals: the premises of the law hold of it, and what is valid is computed. All is by hand.
use Rattle.std.proofs.Common.{◌≡◌, ℕ, zero, suc, List, [], ◌∷◌, Bool, true, false, None, Result, Ok, Err, refl, arith, sym, ap}
use Rattle.std.specs.Prelude.{Some, slice_get, IsOk, ◌<◌, ◌==◌, if◌then◌else◌}
use Rattle.std.specs.Result.{result_ok}
use Rattle.std.proofs.lemmas.Option.{none-some}
use Rattle.wasm_types.specs.declared.val_type.ValType.{ValType}
use Rattle.wasm_types.specs.declared.val_type.ValType.TheVariants.{I32, I64, F64}
use Rattle.walrus_ir.specs.Types.{signature, signature_of, Func, Entry}
use Rattle.wasm_operators.specs.declared.types.Opcode.TheVariants.{Byte}
use Rattle.wasm_operators.specs.declared.types.Space.{Space}
use Rattle.wasm_operators.specs.declared.types.Space.TheVariants.{Types}
use Rattle.wasm_operators.specs.OperatorList.{Placed}
use Rattle.wasm_operators.specs.Operations.{local, RawOperation, operation}
use Rattle.wasm_body.specs.declared.error.EmitError.{EmitError}
use Rattle.wasm_body.specs.declared.error.EmitError.TheVariants.{Index, UnnumberedLocal}
use Rattle.wasm_body.specs.declared.error.IndexError.{IndexError}
use Rattle.wasm_body.specs.declared.error.IndexError.TheVariants.{OutOfRange, LocalOutOfRange, Unnumbered}
use Rattle.wasm_body.specs.Naming.{Environment}
use Rattle.wasm_body.specs.NormalForm.{typing_of, balances}
use Rattle.wasm_typing.specs.Contexts.{Function, DefinedType, function_type_in}
use Rattle.wasm_typing.specs.StandardRules.{has_no_frames}
use Rattle.wasm_context.specs.Validation.{BodyContext, BodyState, steps_through}
use Rattle.wasm_validation.specs.BodyValidation.{BodySetting, begin_state}
use Rattle.walrus_rewrite.specs.RawBodies.{EmitInput}
use Rattle.written_validity.specs.WrittenCode.{setting_with_declared, IsWrittenWhereValid}

-- ---- A module of one function type, of an i32, to which an entry type was added. Its function has an i32 as parameter and, besides, an i64 that
-- isn't used and an i32 that is.

abbrev three_locals : List (ValType ℕ)
three_locals = I32 ∷ I64 ∷ I32 ∷ []

-- Their ids are 7, 9 and 4; the module has other locals, too.
abbrev all_locals : List (ValType ℕ)
all_locals = F64 ∷ F64 ∷ F64 ∷ F64 ∷ I32 ∷ F64 ∷ F64 ∷ I32 ∷ F64 ∷ I64 ∷ []

abbrev id_in : Space → ℕ → Result ℕ IndexError
id_in Types zero = Ok 0
id_in space n = Err (OutOfRange space n)

abbrev local_in : ℕ → Result ℕ IndexError
local_in zero = Ok 7
local_in (suc zero) = Ok 9
local_in (suc (suc zero)) = Ok 4
local_in n = Err (LocalOutOfRange 0 n)

abbrev index_in : ℕ → ℕ
index_in id = if id == 7 then 0 else if id == 9 then 1 else 2

abbrev read_in : Environment
read_in = record { types = Func (I32 ∷ []) [] ∷ Entry [] ∷ []; tags = []; id_of = id_in; local_of = local_in; type = 0 }

abbrev number_in : Space → ℕ → Result ℕ EmitError
number_in Types zero = Ok 0
number_in space id = Err (Index (Unnumbered space))

abbrev written_by : EmitInput
written_by = record {
  to = record { number_of = number_in; local_number = λ id. Err UnnumberedLocal; balanced = balances (typing_of read_in) };
  types = all_locals;
  args = 7 ∷ [];
}

abbrev one_type : DefinedType
one_type = record { composite = Function (signature (I32 ∷ []) []); supertype = None; first = 0 }

abbrev module_context : BodyContext
module_context = record {
  operands = record {
    types = one_type ∷ [];
    functions = 0 ∷ [];
    referenced = [];
    tables = [];
    memories = [];
    globals = [];
    elements = [];
    data_segments = 0;
    locals = three_locals;
  };
  tags = [];
}

abbrev validated_in : BodySetting
validated_in = record { context = module_context; parameters = 1; results = [] }

-- ---- the premises

same_index : (space : Space) (n m : ℕ) → id_in space n ≡ Ok m → m ≡ n
same_index Types zero m e = cc
same_index _ n m e = absurd cc

own_index : (n m : ℕ) → local_in n ≡ Ok m → index_in m ≡ n
own_index zero m e = let same : 7 ≡ m = cc in ap index_in (sym same)
own_index (suc zero) m e = let same : 9 ≡ m = cc in ap index_in (sym same)
own_index (suc (suc zero)) m e = let same : 4 ≡ m = cc in ap index_in (sym same)
own_index (suc (suc (suc n))) m e = absurd cc

own_type : (n m : ℕ) → local_in n ≡ Ok m → slice_get all_locals m ≡ slice_get three_locals n
own_type zero m e = let same : 7 ≡ m = cc in ap (slice_get all_locals) (sym same)
own_type (suc zero) m e = let same : 9 ≡ m = cc in ap (slice_get all_locals) (sym same)
own_type (suc (suc zero)) m e = let same : 4 ≡ m = cc in ap (slice_get all_locals) (sym same)
own_type (suc (suc (suc n))) m e = absurd cc

first_has_id : (n : ℕ) → n < 1 → IsOk (local_in n)
first_has_id zero h = refl
first_has_id (suc n) h = absurd (omega arith)

known_type : (n m : ℕ) → id_in Types n ≡ Ok m → (t : DefinedType) × (slice_get module_context.operands.types n ≡ Some t)
known_type zero m e = (one_type, refl)
known_type (suc n) m e = absurd cc

same_function : (n m : ℕ) → id_in Types n ≡ Ok m → signature_of read_in.types n ≡ result_ok (function_type_in module_context.operands n)
same_function zero m e = refl
same_function (suc n) m e = absurd cc

led_back : (space : Space) (id n : ℕ) → number_in space id ≡ Ok n → id_in space n ≡ Ok id
led_back Types zero n e = cc
led_back _ id n e = absurd cc

premises_hold : IsWrittenWhereValid read_in validated_in written_by
premises_hold = record {
  is_module = record {
    index = same_index;
    type = known_type;
    function = same_function;
    tags = refl;
    tag_type = λ tag n e. absurd (none-some n e);
    tag = λ n m e. absurd cc;
  };
  numbers = led_back;
  balanced = λ t. refl;
  index_of = index_in;
  indices = own_index;
  types = own_type;
  parameters = omega arith;
  have_ids = first_has_id;
  args = refl;
}

-- ---- 20 00 1a 20 02 1a 0b, and as it is written: local.get, drop, twice, and end

abbrev at_place : ℕ → RawOperation → Placed
at_place p o = record { spelt = o; place = p }

abbrev drops_locals : (second : ℕ) → List Placed
drops_locals n =
    at_place 0 (operation (Byte 0x20) (local 0 ∷ [])) ∷ at_place 2 (operation (Byte 0x1a) []) ∷ at_place 3 (operation (Byte 0x20) (local n ∷ []))
    ∷ at_place 5 (operation (Byte 0x1a) []) ∷ at_place 6 (operation (Byte 0x0b) []) ∷ []

abbrev closes : Result BodyState ℕ → Bool
closes (Ok s) = has_no_frames s.controls
closes (Err e) = false

abbrev is_taken : BodySetting → List Placed → Bool
is_taken g xs = closes (steps_through g.context (begin_state g) xs)

abbrev one_declared : BodySetting
one_declared = setting_with_declared validated_in ((1, I32) ∷ [])

two_locals : one_declared.context.operands.locals ≡ I32 ∷ I32 ∷ []
two_locals = refl

source_is_taken : is_taken validated_in (drops_locals 2) ≡ true
source_is_taken = refl

written_is_taken : is_taken one_declared (drops_locals 1) ≡ true
written_is_taken = refl

-- With the old number there is no such local; with too few declared neither.
old_number_is_refused : is_taken one_declared (drops_locals 2) ≡ false
old_number_is_refused = refl

undeclared_is_refused : is_taken (setting_with_declared validated_in []) (drops_locals 1) ≡ false
undeclared_is_refused = refl
