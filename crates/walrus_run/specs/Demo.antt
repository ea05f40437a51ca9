-- The demo module, in which the program parses and writes bodies.
use Rattle.std.specs.Prelude.{ℕ, nat_lt, List, [], ◌∷◌, length, Ok, Err, if◌then◌else◌}
use Rattle.std.specs.FinMap.{empty, insert}
use Rattle.wasm_types.specs.declared.val_type.ValType.{ValType}
use Rattle.wasm_types.specs.declared.val_type.ValType.TheVariants.{I32, I64}
use Rattle.walrus_ir.specs.declared.module.Module.{Module}
use Rattle.walrus_ir.specs.Types.{ModuleType, Func, Entry, signature_of_type}
use Rattle.wasm_body.specs.declared.error.EmitError.TheVariants.{Index, UnnumberedLocal}
use Rattle.wasm_body.specs.declared.error.IndexError.TheVariants.{Unnumbered}
use Rattle.walrus_maps.specs.declared.indices_to_ids.IndicesToIds.{IndicesToIds}
use Rattle.walrus_maps.specs.IndexMaps.{ids_in}
use Rattle.walrus_maps.specs.Environments.{environment_of}
use Rattle.wasm_body.specs.Naming.{Environment}
use Rattle.wasm_body.specs.Parsing.Accepted.{Setting, accepting}
use Rattle.wasm_body.specs.NormalForm.{is_balanced_type}
use Rattle.wasm_body.specs.Bytes.{Numbers}

-- The last type is the entry type of functions without results.
abbrev pub demo_types : List ModuleType
demo_types = Func [] [] ∷ Func (I32 ∷ []) [] ∷ Func (I32 ∷ I32 ∷ []) (I32 ∷ []) ∷ Func (I32 ∷ []) [] ∷ Entry [] ∷ []

abbrev pub demo_tags : List ℕ
demo_tags = 0 ∷ 1 ∷ []

abbrev pub demo_locals : List (ValType ℕ)
demo_locals = I32 ∷ I64 ∷ I64 ∷ I64 ∷ []

abbrev pub demo_module : Module
demo_module = record { types = demo_types; tags = demo_tags; locals = demo_locals; code_section_offset = 0 }

-- Each id is its own old index. The entry type has none.
abbrev pub demo_indices : IndicesToIds
demo_indices = record {
  tables = 0 ∷ [];
  types = 0 ∷ 1 ∷ 2 ∷ 3 ∷ [];
  funcs = 0 ∷ 1 ∷ [];
  globals = 0 ∷ [];
  memories = 0 ∷ [];
  elements = 0 ∷ [];
  «data» = 0 ∷ [];
  tags = 0 ∷ 1 ∷ [];
  locals = insert empty 0 (0 ∷ 1 ∷ 2 ∷ 3 ∷ []);
}

-- the same without the locals
abbrev pub demo_items : IndicesToIds
demo_items = record demo_indices { locals = empty }

-- The body is that of function 0, which has type 1.
abbrev pub demo_environment : Environment
demo_environment = environment_of demo_module demo_indices 0 1

-- Its first operator is at place 0. There is no location function, and the validator accepts every operator.
abbrev pub demo : Setting (Unit {0})
demo = accepting demo_environment 0

-- It has one argument.
abbrev pub demo_args : List ℕ
demo_args = 0 ∷ []

-- An id is its own number. Locals are numbered by their use.
abbrev pub demo_numbers : Numbers
demo_numbers = record {
  number_of = λ space id. if nat_lt id (length (ids_in demo_indices space)) then Ok id else Err (Index (Unnumbered space));
  local_number = λ id. Err UnnumberedLocal;
  balanced = λ t. is_balanced_type (signature_of_type demo_types t);
}
