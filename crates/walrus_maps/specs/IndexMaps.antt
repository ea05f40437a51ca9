-- The index maps of a module: the ids of its old indices, as a list for each space and for the locals of each function; and the
-- new indices of its ids, as a finite map for each space.
use Rattle.std.specs.Prelude.{ℕ, List, [], ◌∷◌, ◌++◌, slice_get, slice_set, Result}
use Rattle.std.specs.Ordering.{nat_cmp}
use Rattle.std.specs.FinMap.{FinMap, empty, get, insert, len}
use Rattle.wasm_operators.specs.declared.types.Space.{Space}
use Rattle.wasm_operators.specs.declared.types.Space.TheVariants.{Tables, Types, Funcs, Globals, Memories, Elements, Data, Tags}
use Rattle.wasm_body.specs.declared.error.IndexError.{IndexError}
use Rattle.wasm_body.specs.declared.error.IndexError.TheVariants.{OutOfRange, Unnumbered}
use Rattle.walrus_maps.specs.declared.indices_to_ids.IndicesToIds.{IndicesToIds}
use Rattle.walrus_maps.specs.declared.ids_to_indices.IdsToIndices.{IdsToIndices}
use Rattle.wasm_numbers.specs.Results.{some_or}
use Rattle.walrus_maps.specs.Locals.{list_of, with_local, local_in}

-- ---- from old indices to ids

-- no index has an id
abbrev pub no_ids : IndicesToIds
no_ids = record { tables = []; types = []; funcs = []; globals = []; memories = []; elements = []; «data» = []; tags = []; locals = empty }

-- the ids of a space, by old index
abbrev pub ids_in : IndicesToIds → Space → List ℕ
ids_in m Tables = m.tables
ids_in m Types = m.types
ids_in m Funcs = m.funcs
ids_in m Globals = m.globals
ids_in m Memories = m.memories
ids_in m Elements = m.elements
ids_in m Data = m.data
ids_in m Tags = m.tags

-- the same maps with these ids in a space
abbrev pub with_ids_in : Space → List ℕ → IndicesToIds → IndicesToIds
with_ids_in Tables ids m = record m { tables = ids }
with_ids_in Types ids m = record m { types = ids }
with_ids_in Funcs ids m = record m { funcs = ids }
with_ids_in Globals ids m = record m { globals = ids }
with_ids_in Memories ids m = record m { memories = ids }
with_ids_in Elements ids m = record m { elements = ids }
with_ids_in Data ids m = record m { «data» = ids }
with_ids_in Tags ids m = record m { tags = ids }

-- the same maps with one more id at the end of a space
abbrev pub with_next_id : Space → (id : ℕ) → IndicesToIds → IndicesToIds
with_next_id space id m = with_ids_in space (ids_in m space ++ id ∷ []) m

-- the same maps with this id at an index of a space
abbrev pub with_id_at : Space → (index id : ℕ) → IndicesToIds → IndicesToIds
with_id_at space index id m = with_ids_in space (slice_set (ids_in m space) index id) m

-- the id of an old index
abbrev pub id_of : IndicesToIds → Space → ℕ → Result ℕ IndexError
id_of m space index = some_or (slice_get (ids_in m space) index) (OutOfRange space index)

-- the locals of a function, by old index
abbrev pub locals_in : IndicesToIds → ℕ → List ℕ
locals_in m function = list_of m.locals function

-- the same maps with these locals in a function
abbrev pub with_locals : ℕ → List ℕ → IndicesToIds → IndicesToIds
with_locals function ids m = record m { locals = insert m.locals function ids }

-- the same maps with one more local at the end of a function's list
abbrev pub with_next_local : (function local : ℕ) → IndicesToIds → IndicesToIds
with_next_local function local m = record m { locals = with_local function local m.locals }

-- the local of an old index in a function
abbrev pub local_of : IndicesToIds → ℕ → ℕ → Result ℕ IndexError
local_of m function index = local_in m.locals function index

-- ---- from ids to new indices

-- the numbers of the ids of a space
abbrev pub numbers_in : IdsToIndices → Space → FinMap nat_cmp ℕ
numbers_in m Tables = m.tables
numbers_in m Types = m.types
numbers_in m Funcs = m.funcs
numbers_in m Globals = m.globals
numbers_in m Memories = m.memories
numbers_in m Elements = m.elements
numbers_in m Data = m.data
numbers_in m Tags = m.tags

-- the same maps with these numbers in a space
abbrev pub with_numbers : Space → FinMap nat_cmp ℕ → IdsToIndices → IdsToIndices
with_numbers Tables numbers m = record m { tables = numbers }
with_numbers Types numbers m = record m { types = numbers }
with_numbers Funcs numbers m = record m { funcs = numbers }
with_numbers Globals numbers m = record m { globals = numbers }
with_numbers Memories numbers m = record m { memories = numbers }
with_numbers Elements numbers m = record m { elements = numbers }
with_numbers Data numbers m = record m { «data» = numbers }
with_numbers Tags numbers m = record m { tags = numbers }

-- the same maps with this number for an id of a space
abbrev pub with_number : Space → (id number : ℕ) → IdsToIndices → IdsToIndices
with_number space id number m = with_numbers space (insert (numbers_in m space) id number) m

-- the numbers, with the next number for an id: the number of ids that have one
abbrev pub numbered : FinMap nat_cmp ℕ → ℕ → FinMap nat_cmp ℕ
numbered numbers id = insert numbers id (len numbers)

-- the same maps with the next number of a space for an id
abbrev pub with_next_number : Space → ℕ → IdsToIndices → IdsToIndices
with_next_number space id m = with_numbers space (numbered (numbers_in m space) id) m

-- the number of an id
abbrev pub number_of : IdsToIndices → Space → ℕ → Result ℕ IndexError
number_of m space id = some_or (get (numbers_in m space) id) (Unnumbered space)
