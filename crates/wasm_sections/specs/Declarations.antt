-- The declarations of a body's locals (WebAssembly core specification 3.0, binary format, code section): a list of groups,
-- each a count and a value type.
use Rattle.std.specs.Prelude.{◌≡◌, ◌<◌, ◌+◌, ℕ, suc, zero, List, [], ◌∷◌, ◌++◌, length, replicate, Result, Ok, Option, Some, None}
use Rattle.wasm_numbers.specs.Results.{◌>>=◌, each}
use Rattle.wasm_types.specs.declared.val_type.ValType.{ValType}
use Rattle.walrus_ir.specs.Types.{ModuleType, Signature, signature_of}
use Rattle.wasm_numbers.specs.Reading.{Reader, then_read, many}
use Rattle.wasm_numbers.specs.Numbers.{u32}
use Rattle.wasm_operators.specs.Types.{value_type}
use Rattle.wasm_body.specs.declared.error.ParseError.{ParseError}
use Rattle.wasm_body.specs.Translation.{translate_value}
use Rattle.walrus_maps.specs.declared.indices_to_ids.IndicesToIds.{IndicesToIds}
use Rattle.walrus_context.specs.Placing.{ids_at}

-- ---- as they are encoded

-- a group: a number of locals, and their type
abbrev pub group : Reader (ℕ × ValType ℕ)
group = then_read u32 (λ count. value_type)

-- how many groups there are, and each
abbrev pub groups : Reader (List (ℕ × ValType ℕ))
groups bytes = u32 bytes >>= λ n. many group n.0 n.1

-- ---- as the module names them

-- with the id of the type that the index names, if there is one
abbrev pub named_group : IndicesToIds → ℕ × ValType ℕ → Result (ℕ × ValType ℕ) ParseError
named_group indices g = translate_value (ids_at indices) g.1 >>= λ type. Ok (g.0, type)

-- one type for each local
abbrev pub expanded : List (ℕ × ValType ℕ) → List (ValType ℕ)
expanded [] = []
expanded (g ∷ gs) = replicate g.0 g.1 ++ expanded gs

-- ---- the locals of a function

abbrev pub parameters_in : Option Signature → List (ValType ℕ)
parameters_in None = []
parameters_in (Some s) = s.parameters

-- the parameters of a function of this type
abbrev pub parameters_of_type : List ModuleType → (type : ℕ) → List (ValType ℕ)
parameters_of_type types type = parameters_in (signature_of types type)

abbrev pub results_in : Option Signature → List (ValType ℕ)
results_in None = []
results_in (Some s) = s.results

-- the results of a function of this type
abbrev pub results_of_type : List ModuleType → (type : ℕ) → List (ValType ℕ)
results_of_type types type = results_in (signature_of types type)

-- The bytes of a body begin with declarations, and these operators follow. The types of the function's locals are those of
-- its parameters, and then those of the declarations.
pub record HaveLocals (indices : IndicesToIds) (parameters : List (ValType ℕ)) (bytes operators : List ℕ) (locals : List (ValType ℕ)) : Type 0 where
  pub declared : List (ℕ × ValType ℕ)
  pub are_read : groups bytes ≡ Ok (declared, operators)
  pub named : List (ℕ × ValType ℕ)
  pub are_named : each (named_group indices) declared ≡ Ok named
  pub locals_are : locals ≡ parameters ++ expanded named

-- how many locals a function has at most, parameters included: the limit that engines have
abbrev pub max_locals : ℕ
max_locals = 50000

-- The bytes don't begin with declarations; or with them the function has too many locals.
abbrev pub HasNoLocals : IndicesToIds → (parameters : List (ValType ℕ)) → (bytes : List ℕ) → Type 0
HasNoLocals indices parameters bytes = (operators : List ℕ) (locals : List (ValType ℕ)) → HaveLocals indices parameters bytes operators locals → max_locals < length locals

-- the first numbers, from 0 on
abbrev pub first_numbers : ℕ → List ℕ
first_numbers zero = []
first_numbers (suc n) = first_numbers n ++ n ∷ []

-- ---- group by group

-- The bytes begin with a group: its number of locals of its type is added.
pub record DeclaresGroup (indices : IndicesToIds) (bytes following : List ℕ) (old new : List (ValType ℕ)) : Type 0 where
  pub declared : ℕ × ValType ℕ
  pub is_read : group bytes ≡ Ok (declared, following)
  pub named : ℕ × ValType ℕ
  pub is_named : named_group indices declared ≡ Ok named
  pub new_are : new ≡ old ++ replicate named.0 named.1

-- The bytes don't begin with a group; or with it, after this number of locals, there are too many.
abbrev pub HasNoGroup : IndicesToIds → (bytes : List ℕ) → (count : ℕ) → Type 0
HasNoGroup indices bytes count =
    (following : List ℕ) (declared named : ℕ × ValType ℕ) → group bytes ≡ Ok (declared, following) → named_group indices declared ≡ Ok named → max_locals < count + named.0
