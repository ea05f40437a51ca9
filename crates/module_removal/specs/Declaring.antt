-- The functions of which references are taken in bodies, and those that are named outside of them (WebAssembly core specification 3.0,
-- validation, modules: `refs` of the context has the functions that are named outside of bodies and of the start function).
use Rattle.std.specs.Prelude.{◌≡◌, ◌==◌, ℕ, ◌+◌, nat_lt, not, ◌&&◌, if◌then◌else◌, Bool, true, false, List, [], ◌∷◌, ◌++◌, flat_map, Option, Some, None}
use Rattle.std.specs.List.{fold, list_any}
use Rattle.wasm_operators.specs.declared.immediates.Immediates.TheVariants as immediates
use Rattle.wasm_operators.specs.declared.types.Opcode.{Opcode}
use Rattle.wasm_operators.specs.declared.types.Space.{Space}
use Rattle.wasm_operators.specs.declared.types.Space.TheVariants.{Funcs}
use Rattle.wasm_operators.specs.Operations.{RawOperation}
use Rattle.wasm_operators.specs.Parts.{ListedImmediates, shape_of}
use Rattle.wasm_sections.specs.References.{is_ref_func}
use Rattle.item_sets.specs.ItemsLeft.{is_left}
use Rattle.module_removal.specs.declared.item.Item.{Item}
use Rattle.module_removal.specs.declared.item.ItemCounts.{ItemCounts}
use Rattle.module_removal.specs.declared.declared.Named.{Named}
use Rattle.module_removal.specs.declared.declared.Taken.{Taken}
use Rattle.module_removal.specs.ItemNumbers.{first_number}

-- ---- who names a function

abbrev pub named_if : (by : ℕ) → (func : Option ℕ) → List Named
named_if by (Some func) = record { by = by; func = func } ∷ []
named_if by None = []

-- the function, if the item is one
abbrev pub function_indexed : Space → (index : ℕ) → Option ℕ
function_indexed Funcs index = Some index
function_indexed _ index = None

-- the functions among items, in order, which are named by the item with this number
abbrev pub functions_among : (by : ℕ) → List Item → List Named
functions_among by items = flat_map (λ item. named_if by (function_indexed item.space item.index)) items

-- the function of which an operator takes a reference, by `ref.func`
abbrev pub index_named : ListedImmediates → Option ℕ
index_named (immediates.Index space i) = Some i
index_named _ = None

abbrev pub function_referred : Opcode → ListedImmediates → Option ℕ
function_referred o is = if is_ref_func o then index_named is else None

-- the same, taken in the body of the function with this index
abbrev pub taken_in_body : (by : ℕ) → RawOperation → List Named
taken_in_body by o = named_if by (function_referred o.opcode (shape_of o.immediates))

-- ---- what is gathered

-- More functions are taken in a body, in order, after those that were taken.
pub record TakesFunctions (more : List Named) (old new : Taken) : Type 0 where
  pub in_bodies : new.in_bodies.items ≡ old.in_bodies.items ++ more
  pub outside : new.outside.items ≡ old.outside.items

-- More functions are named outside of bodies, in order, after those that were named.
pub record NamesFunctions (more : List Named) (old new : Taken) : Type 0 where
  pub outside : new.outside.items ≡ old.outside.items ++ more
  pub in_bodies : new.in_bodies.items ≡ old.in_bodies.items

-- what an item names, if it declares functions: imports, types and the start function don't
abbrev pub functions_if : (declares : Bool) → (by : ℕ) → List Item → List Named
functions_if true by items = functions_among by items
functions_if false by items = []

-- ---- what has to be declared, where the items are left that have a mark that is set, of one mark for each number

-- an item that is left names the function outside of bodies
abbrev pub is_declared : List Named → (marks : List Bool) → (func : ℕ) → Bool
is_declared outside marks func = list_any (λ n. is_left marks n.by && (n.func == func)) outside

-- the body that takes the function is left, and no item that is left declares it
abbrev pub is_undeclared : ItemCounts → List Named → (marks : List Bool) → Named → Bool
is_undeclared c outside marks n =
    is_left marks (first_number c Funcs + n.by) && nat_lt n.func c.funcs && not (is_declared outside marks n.func)

abbrev pub with_function : List ℕ → (is_wanted : Bool) → (func : ℕ) → List ℕ
with_function funcs is_wanted func = if is_wanted && not (list_any (λ f. f == func) funcs) then funcs ++ func ∷ [] else funcs

-- the functions that have to be declared, each once, in the order in which they are taken
abbrev pub undeclared_of : ItemCounts → (in_bodies outside : List Named) → (marks : List Bool) → List ℕ
undeclared_of c in_bodies outside marks = fold (λ funcs n. with_function funcs (is_undeclared c outside marks n) n.func) [] in_bodies

abbrev pub undeclared_in : Taken → ItemCounts → (marks : List Bool) → List ℕ
undeclared_in t c marks = undeclared_of c t.in_bodies.items t.outside.items marks
