-- The items that an operator names, in the order of its immediates (WebAssembly core specification 3.0, binary format, instructions).
use Rattle.std.specs.Prelude.{◌≡◌, ◌⊎◌, ℕ, List, [], ◌∷◌, ◌++◌, Option, Some, None, Result, Ok, Err}
use Rattle.std.specs.List.{flat_map}
use Rattle.wasm_types.specs.declared.val_type.HeapType.{HeapType}
use Rattle.wasm_types.specs.declared.val_type.HeapType.TheVariants.{Abstract, Concrete}
use Rattle.wasm_types.specs.declared.val_type.ValType.{ValType}
use Rattle.wasm_types.specs.declared.val_type.ValType.TheVariants.{Ref}
use Rattle.wasm_operators.specs.declared.immediates.Immediates.TheVariants as immediates
use Rattle.wasm_operators.specs.declared.types.BlockType.{BlockType}
use Rattle.wasm_operators.specs.declared.types.BlockType.TheVariants as blocks
use Rattle.wasm_operators.specs.declared.types.Space.TheVariants.{Types, Memories, Tags}
use Rattle.wasm_operators.specs.Operations.{CatchClause, RawOperation}
use Rattle.wasm_operators.specs.Parts.{ListedImmediates, shape_of}
use Rattle.wasm_sections.specs.declared.fault.ModuleError.{ModuleError}
use Rattle.wasm_sections.specs.declared.fault.ModuleFault.TheVariants as fault
use Rattle.wasm_sections.specs.Format.{operator_part}
use Rattle.module_removal.specs.declared.item.Item.{Item}
use Rattle.module_removal.specs.declared.copier.Copier.{Copier}
use Rattle.module_removal.specs.declared.declared.Taken.{Taken}
use Rattle.module_removal.specs.CopiedParts.{Copied, item_at, AppendsCopied}
use Rattle.module_removal.specs.Declaring.{taken_in_body, TakesFunctions}

-- these items are named, and nothing is written
abbrev pub finds : List Item → Copied
finds items = record { written = []; named = items }

abbrev pub named_by_heap : HeapType ℕ → List Item
named_by_heap (Concrete i) = item_at Types i ∷ []
named_by_heap (Abstract a) = []

abbrev pub named_by_type : ValType ℕ → List Item
named_by_type (Ref r) = named_by_heap r.heap_type
named_by_type _ = []

abbrev pub named_by_block : BlockType → List Item
named_by_block blocks.Empty = []
named_by_block (blocks.Value t) = named_by_type t
named_by_block (blocks.FuncType i) = item_at Types i ∷ []

-- the tag of a clause, if it has one
abbrev pub named_by_tag : Option ℕ → List Item
named_by_tag (Some i) = item_at Tags i ∷ []
named_by_tag None = []

abbrev pub named_by_clauses : List (CatchClause ℕ) → List Item
named_by_clauses cs = flat_map (λ c. named_by_tag c.tag) cs

abbrev pub named_by_parts : ListedImmediates → List Item
named_by_parts (immediates.Index space i) = item_at space i ∷ []
named_by_parts (immediates.IndexNumber space i n) = item_at space i ∷ []
named_by_parts (immediates.Pair first i second j) = item_at first i ∷ item_at second j ∷ []
named_by_parts (immediates.Access a) = item_at Memories a.memory ∷ []
named_by_parts (immediates.LaneAccess a n) = item_at Memories a.memory ∷ []
named_by_parts (immediates.Block t) = named_by_block t
named_by_parts (immediates.Clauses t cs) = named_by_block t ++ named_by_clauses cs
named_by_parts (immediates.Heap h) = named_by_heap h
named_by_parts (immediates.Value t) = named_by_type t
named_by_parts (immediates.Cast c) = named_by_heap c.source ++ named_by_heap c.target
named_by_parts _ = []

abbrev pub named_by : RawOperation → List Item
named_by o = named_by_parts (shape_of o.immediates)

-- ---- bodies (binary format, code section)

-- The text, which ends at this place of the file, begins with these operators, and these bytes follow them.
abbrev pub OperatorsThen : (end : ℕ) → (text : List ℕ) → List RawOperation → (following : List ℕ) → Type 0
OperatorsThen end text [] following = text ≡ following
OperatorsThen end text (o ∷ os) following =
    (rest : List ℕ) × (operator_part end text ≡ Ok (o, rest)) × OperatorsThen end rest os following

-- The text is operators; what they name is found, in order, and the functions of which they take references are taken in the body of this
-- one. Or, after some, this is the fault of the next one, unless memory ran out.
abbrev pub FindsOperators : (func : ℕ) → (old new : Copier × Taken) → Result (Unit {0}) ModuleError → (end : ℕ) → (text : List ℕ) → Type 0
FindsOperators func old new (Ok u) end text =
    (os : List RawOperation) × OperatorsThen end text os [] × AppendsCopied old.0 (finds (flat_map named_by os)) new.0
    × TakesFunctions (flat_map (taken_in_body func) os) old.1 new.1
FindsOperators func old new (Err e) end text =
    (e.fault ≡ fault.Memory)
    ⊎ ((os : List RawOperation) × (rest : List ℕ) × OperatorsThen end text os rest × (operator_part end rest ≡ Err e))
