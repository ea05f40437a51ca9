-- Limits that engines have, and the standard doesn't (WebAssembly JavaScript interface, implementation-defined limits), as functions of the
-- bytes: success, or the first limit that the module is above, and its place. They are no part of validity.
use Rattle.std.specs.Prelude.{ℕ, zero, suc, ◌+◌, ◌-◌, ◌^◌, ◌==◌, nat_lt, nat_le, ◌&&◌, if◌then◌else◌, Bool, true, false, List, [], ◌∷◌, length, Option, Some, None, option_map, unwrap_or, slice_get, Result, Ok, Err}
use Rattle.std.specs.List.{list_all}
use Rattle.wasm_numbers.specs.Results.{◌>>=◌, with_fault, some_or}
use Rattle.wasm_operators.specs.declared.types.Space.TheVariants as spaces
use Rattle.wasm_body.specs.declared.error.ParseError.TheVariants as parse
use Rattle.wasm_typing.specs.Contexts.{CompositeType, Function, Struct, Array, DefinedType, contains}
use Rattle.wasm_sections.specs.declared.fault.ModuleError.{ModuleError}
use Rattle.wasm_sections.specs.declared.fault.ModuleFault.{ModuleFault}
use Rattle.wasm_sections.specs.declared.fault.ModuleFault.TheVariants as fault
use Rattle.wasm_sections.specs.Components.{body_part}
use Rattle.wasm_sections.specs.Parts.{Part, fault_here, ◌>=>◌, repeated, whole_part, number}
use Rattle.module_context.specs.ModuleContexts.{ModuleSetting, module_setting}
use Rattle.module_context.specs.SectionSteps.{SectionStep, through_module}
use Rattle.module_validator.specs.ConstantRules.{only_if}
use Rattle.module_validator.specs.ModuleRules.{operands_of_module, signature_rule, locals_part, module_validity}

-- ---- faults, with numbers

abbrev pub too_many_types : ModuleFault
too_many_types = fault.Parse (parse.Checked 8)

abbrev pub too_many_items : ModuleFault
too_many_items = fault.Parse (parse.Checked 9)

abbrev pub long_type : ModuleFault
long_type = fault.Parse (parse.Checked 10)

abbrev pub deep_type : ModuleFault
deep_type = fault.Parse (parse.Checked 11)

abbrev pub large_body : ModuleFault
large_body = fault.Parse (parse.Checked 12)

abbrev pub many_locals : ModuleFault
many_locals = fault.Parse (parse.Checked 13)

abbrev pub large_module : ModuleFault
large_module = fault.Parse (parse.Checked 14)

-- one of these
abbrev pub is_engine_limit : ModuleFault → Bool
is_engine_limit (fault.Parse (parse.Checked n)) = nat_le 8 n && nat_le n 14
is_engine_limit _ = false

-- ---- types: 1,000,000; 1,000 parameters and as many results of a function; 10,000 fields of a struct; 63 supertypes

abbrev pub is_short_composite : CompositeType → Bool
is_short_composite (Function s) = nat_le (length s.parameters) 1000 && nat_le (length s.results) 1000
is_short_composite (Struct fields) = nat_le (length fields) 10000
is_short_composite (Array element) = true

abbrev pub is_short_type : DefinedType → Bool
is_short_type t = is_short_composite t.composite

-- the type that is declared as a supertype, if one is
abbrev pub supertype_in : List DefinedType → Option ℕ → Option DefinedType
supertype_in types None = None
supertype_in types (Some n) = slice_get types n

-- A type that declares this supertype has fewer supertypes than so many: that one, the one that it declares, and so on.
unfoldable pub has_fewer : (count : ℕ) → List DefinedType → (declared : Option ℕ) → Bool
has_fewer zero types declared = false
has_fewer (suc count) types declared = unwrap_or (option_map (λ t. has_fewer count types t.supertype) (supertype_in types declared)) true

abbrev pub is_shallow : List DefinedType → DefinedType → Bool
is_shallow types t = has_fewer 64 types t.supertype

abbrev pub types_limit : List DefinedType → Result (Unit {0}) ModuleFault
types_limit types =
    only_if (nat_le (length types) 1000000) too_many_types >>= λ u. only_if (list_all is_short_type types) long_type >>= λ u.
    only_if (list_all (is_shallow types) types) deep_type

-- ---- items: 1,000,000 imports, functions, globals, exports and tags; 100,000 tables and data segments; 100 memories

-- the most items of the section with this id, if it has a limit
abbrev pub most_items : (id : ℕ) → Option ℕ
most_items id =
    if contains id (2 ∷ 3 ∷ 6 ∷ 7 ∷ 13 ∷ []) then Some 1000000 else if contains id (4 ∷ 11 ∷ []) then Some 100000 else if id == 5 then Some 100
    else None

abbrev pub count_within : (most : Option ℕ) → (end : ℕ) → (text : List ℕ) → Result (Unit {0}) ModuleError
count_within None end text = Ok tt
count_within (Some most) end text = number end text >>= λ x. with_fault (fault_here end text) (only_if (nat_le x.0 most) too_many_items)

abbrev pub count_limit : (id : ℕ) → (end : ℕ) → (text : List ℕ) → Result (Unit {0}) ModuleError
count_limit id end text = count_within (most_items id) end text

-- ---- bodies: 7,654,321 bytes; 50,000 locals, with the parameters

-- the bytes of the body of a function of the type with this index
abbrev pub locals_limit : ModuleSetting → (type : ℕ) → (end : ℕ) → (text : List ℕ) → Result (Unit {0}) ModuleError
locals_limit s type end text =
    with_fault (fault_here end text) (signature_rule (operands_of_module s) type) >>= λ t.
    locals_part (operands_of_module s) (length t.parameters) end text >>= λ x.
    with_fault (fault_here end text) (only_if (nat_le (length t.parameters + length x.0) 50000) many_locals)

-- the bytes of the body of the function with this index
abbrev pub body_limits : ModuleSetting → (function : ℕ) → (end : ℕ) → (text : List ℕ) → Result (Unit {0}) ModuleError
body_limits s n end text =
    with_fault (fault_here end text) (only_if (nat_le (length text) 7654321) large_body) >>= λ u.
    with_fault (fault_here end text) (some_or (slice_get (operands_of_module s).functions n) (fault.IndexOutOfRange spaces.Funcs n)) >>= λ type.
    locals_limit s type end text

abbrev pub next_body_limits : ModuleSetting → (function : ℕ) → Part ℕ
next_body_limits s n end text = body_part end text >>= λ x. body_limits s n (end - length x.1) x.0 >>= λ u. Ok (n + 1, x.1)

-- The bodies are those of the last functions.
abbrev pub bodies_limits : ModuleSetting → (end : ℕ) → (text : List ℕ) → Result (Unit {0}) ModuleError
bodies_limits s end text =
    whole_part (number >=> λ n. repeated (next_body_limits s) n (length (operands_of_module s).functions - n)) end text >>= λ n. Ok tt

-- ---- sections, and the whole module: 2^30 bytes

abbrev pub section_limits : ModuleSetting → SectionStep (Unit {0})
section_limits s id u end text =
    count_limit id end text >>= λ v.
    (if id == 1 then with_fault (fault_here end text) (types_limit (operands_of_module s).types)
    else if id == 10 then bodies_limits s end text
    else Ok tt)

-- The bytes are within the limits; or the first one that they are above; or a fault of a module that isn't read, or of the locals of a
-- body, if that comes first.
abbrev pub engine_limits : (bytes : List ℕ) → Result (Unit {0}) ModuleError
engine_limits bytes =
    if nat_lt (2 ^ 30) (length bytes) then Err (record { fault = large_module; at = 0 })
    else module_setting bytes >>= λ s. through_module (section_limits s) tt bytes

-- A limit is what counts, and else validity.
abbrev pub limit_or : (limits validity : Result (Unit {0}) ModuleError) → Result (Unit {0}) ModuleError
limit_or (Ok u) v = v
limit_or (Err e) v = if is_engine_limit e.fault then Err e else v

-- The module with these bytes is within the limits and valid; or the first limit, or else the first fault.
abbrev pub limited_validity : (bytes : List ℕ) → Result (Unit {0}) ModuleError
limited_validity bytes = limit_or (engine_limits bytes) (module_validity bytes)
