-- The numbers of a function's locals, which are their indices (WebAssembly core specification 3.0, indices: the arguments come
-- first), and the declarations of the locals that are not arguments (binary format, code section).
use Rattle.std.specs.Prelude.{◌≡◌, ℕ, ◌+◌, ◌≤◌, ◌^◌, ◌==◌, nat_le, nat_lt, List, [], ◌∷◌, ◌++◌, Bool, false, not, ◌&&◌, if◌then◌else◌, Option, Some, None, Result, Ok, length, map, replicate, slice_get, All}
use Rattle.std.specs.List.{AllAdjacentBelow, flat_map, list_all}
use Rattle.std.specs.Option.{option_map, option_or}
use Rattle.std.specs.Ordering.{nat_cmp, ordering_then}
use Rattle.std.specs.declared.cmp.Ordering.{Ordering}
use Rattle.std.specs.declared.cmp.Ordering.TheVariants.{Less}
use Rattle.wasm_types.specs.declared.val_type.ValType.{ValType}
use Rattle.walrus_ir.specs.Types.{same_type}
use Rattle.wasm_types.specs.TypeOrder.{type_order}
use Rattle.wasm_numbers.specs.Results.{◌>>=◌, unless, some_or, each}
use Rattle.walrus_ir.specs.Tree.{Items, no_items, item, Sequences, no_sequences, sequence}
use Rattle.walrus_ir.specs.Unfolding.{among, Apart}
use Rattle.wasm_body.specs.declared.error.EmitError.{EmitError}
use Rattle.wasm_body.specs.declared.error.EmitError.TheVariants.{TooLarge, UnnumberedLocal}
use Rattle.wasm_operators.specs.Operations.{Immediate, local}
use Rattle.wasm_body.specs.FunctionTree.{Head, Instruction, FunctionTree}
use Rattle.wasm_body.specs.Translation.{translate_value}
use Rattle.wasm_body.specs.Bytes.{Numbers, numbers_in_32_bits}

-- A local: its type and its id.
abbrev pub Local : Type 0
Local = ValType ℕ × ℕ

-- ---- which locals are used

abbrev pub locals_among : {L B : Type 0} → List (Immediate L B) → List ℕ
locals_among [] = []
locals_among (local n ∷ is) = n ∷ locals_among is
locals_among (i ∷ is) = locals_among is

abbrev mutual
  pub locals_in_items : Items Head Instruction → List ℕ
  locals_in_items no_items = []
  locals_in_items (item i inside rest) = locals_among i.op.immediates ++ (locals_inside inside ++ locals_in_items rest)

  pub locals_inside : Sequences Head Instruction → List ℕ
  locals_inside no_sequences = []
  locals_inside (sequence head items rest) = locals_in_items items ++ locals_inside rest

-- the locals that the operators of a tree name, in walk order, with repetitions
abbrev pub locals_of : FunctionTree → List ℕ
locals_of t = locals_in_items t.items

abbrev pub uses_local : FunctionTree → ℕ → Bool
uses_local t id = among id (locals_of t)

-- ---- the locals that are declared, and their order

-- by type, and by id if the types are the same
abbrev pub local_order : Local → Local → Ordering
local_order l m = ordering_then (type_order l.0 m.0) (nat_cmp l.1 m.1)

abbrev pub types_of : List Local → List (ValType ℕ)
types_of locals = map (λ l. l.0) locals

abbrev pub ids_of : List Local → List ℕ
ids_of locals = map (λ l. l.1) locals

-- The locals that a function declares: all that are used and are not arguments, each with the type that the module gives it,
-- in ascending order.
pub record AreDeclared (types : List (ValType ℕ)) (args : List ℕ) (used : ℕ → Bool) (locals : List Local) : Type 0 where
  pub ascend : AllAdjacentBelow (λ l m. local_order l m ≡ Less) locals (length locals)
  pub are_all : (id : ℕ) → among id (ids_of locals) ≡ (used id && not (among id args))
  pub typed : All (λ l. slice_get types l.1 ≡ Some l.0) locals

-- ---- numbers

-- the last place of an id in a list, from 0, if the list has it
abbrev pub last_place : List ℕ → ℕ → Option ℕ
last_place [] id = None
last_place (x ∷ xs) id = option_or (option_map (λ n. n + 1) (last_place xs id)) (if x == id then Some 0 else None)

-- The number of a local: its last place in the list of the arguments followed by the other locals.
abbrev pub number_of_local : (args others : List ℕ) → ℕ → Option ℕ
number_of_local args others id = last_place (args ++ others) id

-- the same numbers of other ids, and these numbers of locals
abbrev pub numbering_locals : Numbers → (args others : List ℕ) → Numbers
numbering_locals to args others = record {
  number_of = to.number_of;
  local_number = λ id. some_or (number_of_local args others id) UnnumberedLocal;
  balanced = to.balanced;
}

-- ---- declarations

-- one more local of a type before runs: the first run grows if it is of this type
abbrev pub one_more : ValType ℕ → List (ℕ × ValType ℕ) → List (ℕ × ValType ℕ)
one_more t [] = (1, t) ∷ []
one_more t (r ∷ rs) = if same_type t r.1 then (r.0 + 1, t) ∷ rs else (1, t) ∷ r ∷ rs

-- the maximal runs of one type, each with its length
abbrev pub runs : List (ValType ℕ) → List (ℕ × ValType ℕ)
runs [] = []
runs (t ∷ ts) = one_more t (runs ts)

-- a run, with the numbers of the types that its type names
abbrev pub declaration : Numbers → ℕ × ValType ℕ → Result (ℕ × ValType ℕ) EmitError
declaration to run = translate_value (numbers_in_32_bits to).number_of run.1 >>= λ type. Ok (run.0, type)

-- The declarations of runs. The number of runs and each count have to fit 32 bits.
abbrev pub declarations : Numbers → List (ℕ × ValType ℕ) → Result (List (ℕ × ValType ℕ)) EmitError
declarations to rs =
    unless (nat_lt (length rs) (2 ^ 32) && list_all (λ run. nat_lt run.0 (2 ^ 32)) rs) TooLarge >>= λ _. each (declaration to) rs

-- The declarations of these locals after this number of arguments. The number of each argument and local has to fit 32 bits.
abbrev pub declared : Numbers → (arguments : ℕ) → List Local → Result (List (ℕ × ValType ℕ)) EmitError
declared to arguments locals =
    unless (nat_le (arguments + length locals) (2 ^ 32)) TooLarge >>= λ _. declarations to (runs (types_of locals))

-- ---- laws

-- at most one list of locals is declared
abbrev pub OneDeclared : Type 0
OneDeclared =
    (types : List (ValType ℕ)) (args : List ℕ) (used : ℕ → Bool) (ls ms : List Local)
    → AreDeclared types args used ls → AreDeclared types args used ms → ls ≡ ms

-- no two locals have the same number
abbrev pub OneLocalEach : Type 0
OneLocalEach = (args others : List ℕ) (a b n : ℕ) → number_of_local args others a ≡ Some n → number_of_local args others b ≡ Some n → a ≡ b

-- Where no argument is named twice, each argument and each declared local has its place as its number.
abbrev pub PlacesAreNumbers : Type 0
PlacesAreNumbers =
    (types : List (ValType ℕ)) (args : List ℕ) (used : ℕ → Bool) (locals : List Local) → AreDeclared types args used locals
    → Apart args → (n id : ℕ) → slice_get (args ++ ids_of locals) n ≡ Some id
    → number_of_local args (ids_of locals) id ≡ Some n

-- the types of runs, each as often as its run says
abbrev pub spread : List (ℕ × ValType ℕ) → List (ValType ℕ)
spread rs = flat_map (λ r. replicate r.0 r.1) rs

-- The runs give the types again, each has at least one local, and neighbours are of different types: the runs are maximal.
pub record AreRuns (types : List (ValType ℕ)) (rs : List (ℕ × ValType ℕ)) : Type 0 where
  pub whole : spread rs ≡ types
  pub present : All (λ r. 1 ≤ r.0) rs
  pub maximal : AllAdjacentBelow (λ r s. same_type r.1 s.1 ≡ false) rs (length rs)

abbrev pub RunsAreMaximal : Type 0
RunsAreMaximal = (types : List (ValType ℕ)) → AreRuns types (runs types)
