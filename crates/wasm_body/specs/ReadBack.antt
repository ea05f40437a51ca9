-- Reading back: the bytes of a normal form are accepted again, as a body whose normal form is the same tree, locations aside.
use Rattle.std.specs.Prelude.{◌≡◌, ℕ, List, [], map, Option, Some, None, IsOk, Ok, true}
use Rattle.std.specs.List.{AllByRecursion}
use Rattle.wasm_types.specs.declared.val_type.HeapType.{HeapType}
use Rattle.wasm_types.specs.declared.val_type.HeapType.TheVariants.{Abstract, Concrete}
use Rattle.wasm_types.specs.declared.val_type.ValType.{ValType}
use Rattle.wasm_types.specs.declared.val_type.ValType.TheVariants.{Ref}
use Rattle.walrus_ir.specs.declared.val_type.InstrSeqType.{InstrSeqType}
use Rattle.walrus_ir.specs.declared.val_type.InstrSeqType.TheVariants.{Simple, MultiValue}
use Rattle.wasm_operators.specs.declared.types.Space.{Space}
use Rattle.wasm_operators.specs.declared.types.Space.TheVariants.{Types, Memories, Tags}
use Rattle.wasm_operators.specs.Operations.{CatchClause, Immediate, index, local, access, clauses, block, heap, value, cast, Operation}
use Rattle.wasm_operators.specs.OperatorList.{Placed, Lists}
use Rattle.wasm_body.specs.Translation.{Located}
use Rattle.wasm_body.specs.SourceTree.{Body}
use Rattle.wasm_body.specs.Naming.{Environment, Occurrence}
use Rattle.wasm_body.specs.Parsing.Accepted.{HasSpelling, placed, Lawful, Setting, Accepted, has_location, validated}
use Rattle.wasm_body.specs.FunctionTree.{FunctionTree, IsSameTree}
use Rattle.wasm_body.specs.NormalForm.{Typing, typing_of, normal_form, body_tree}
use Rattle.wasm_body.specs.FlatText.{tree_text, with_ids}
use Rattle.wasm_body.specs.Bytes.{Numbers, tree_bytes}
use Rattle.wasm_body.specs.TextLaws.{HasBodyText}

-- ---- conditions on the parts of an immediate: P on ids of index spaces, Q on locals, S on block types

abbrev pub EachInHeap : (Space → ℕ → Type 0) → HeapType ℕ → Type 0
EachInHeap P (Abstract a) = Unit {0}
EachInHeap P (Concrete id) = P Types id

abbrev pub EachInValue : (Space → ℕ → Type 0) → ValType ℕ → Type 0
EachInValue P (Ref r) = EachInHeap P r.heap_type
EachInValue P _ = Unit {0}

abbrev pub EachInTag : (Space → ℕ → Type 0) → Option ℕ → Type 0
EachInTag P None = Unit {0}
EachInTag P (Some id) = P Tags id

abbrev pub EachIn : {L B : Type 0} → (Space → ℕ → Type 0) → (ℕ → Type 0) → (B → Type 0) → Immediate L B → Type 0
EachIn P Q S (index space id) = P space id
EachIn P Q S (local id) = Q id
EachIn P Q S (access a) = P Memories a.memory
EachIn {L} P Q S (clauses cs) = AllByRecursion (λ (c : CatchClause L). EachInTag P c.tag) cs
EachIn P Q S (block type) = S type
EachIn P Q S (heap type) = EachInHeap P type
EachIn P Q S (value type) = EachInValue P type
EachIn P Q S (cast c) = EachInHeap P c.source × EachInHeap P c.target
EachIn P Q S _ = Unit {0}

-- ---- maps that undo numbers

-- If the id has a number, the environment maps this number to the id.
abbrev pub IsUndone : Numbers → Environment → Space → ℕ → Type 0
IsUndone to env space id = (n : ℕ) → to.number_of space id ≡ Ok n → env.id_of space n ≡ Ok id

abbrev pub IsUndoneLocal : Numbers → Environment → ℕ → Type 0
IsUndoneLocal to env id = (n : ℕ) → to.local_number id ≡ Ok n → env.local_of n ≡ Ok id

-- the same for the ids in the type of a sequence, as it is written
abbrev pub IsUndoneType : Numbers → Environment → InstrSeqType → Type 0
IsUndoneType to env (Simple None) = Unit {0}
IsUndoneType to env (Simple (Some t)) = EachInValue (IsUndone to env) t
IsUndoneType to env (MultiValue id) = IsUndone to env Types id

abbrev pub AreUndone : Numbers → Environment → List (Immediate ℕ InstrSeqType) → Type 0
AreUndone to env is = AllByRecursion (EachIn (IsUndone to env) (IsUndoneLocal to env) (IsUndoneType to env)) is

-- The types and tags of the module and the function's own type are the same, and the number of each id in the tree's text is
-- mapped to the id.
pub record Undoes (to : Numbers) (tree : FunctionTree) (env again : Environment) : Type 0 where
  pub types : again.types ≡ env.types
  pub tags : again.tags ≡ env.tags
  pub type : again.type ≡ env.type
  pub ids : (xs : List (Located (Operation ℕ InstrSeqType))) → tree_text with_ids tree ≡ Ok xs
      → AllByRecursion (λ x. AreUndone to again x.op.immediates) xs

-- ---- maps that undo all numbers

-- Each number is mapped to its id.
pub record IsInverse (to : Numbers) (again : Environment) : Type 0 where
  pub indices : (space : Space) (id : ℕ) → IsUndone to again space id
  pub locals : (id : ℕ) → IsUndoneLocal to again id

-- ---- the law

-- From this place on the bytes are encodings of operators that form a lawful body; the normal form of the body is this tree,
-- locations aside, and has the same bytes.
pub record IsReadBack (again : Environment) (start : ℕ) (locate : ℕ → ℕ) (to : Numbers) (tree : FunctionTree) (bytes : List ℕ) : Type 0 where
  pub operators : List Occurrence
  pub body : Body Occurrence
  pub spelt : Lists (map placed operators) start bytes []
  pub located : AllByRecursion (λ x. x.location ≡ locate x.place) operators
  pub lawful : Lawful again operators body
  pub same : IsSameTree (body_tree again body) tree
  pub unchanged : tree_bytes to (body_tree again body) ≡ Ok bytes

-- The bytes of the normal form of a lawful body are read back, from any place on and with any locations, with all maps that
-- undo the numbers.
abbrev pub ReadBack : Type 0
ReadBack =
    (env : Environment) (xs : List Occurrence) (body : Body Occurrence) → AllByRecursion HasSpelling xs → Lawful env xs body →
    (to : Numbers) (bytes : List ℕ) → tree_bytes to (body_tree env body) ≡ Ok bytes →
    (again : Environment) → Undoes to (body_tree env body) env again →
    (start : ℕ) (locate : ℕ → ℕ) → IsReadBack again start locate to (body_tree env body) bytes

-- Maps that undo all numbers undo those of the normal form of every lawful body.
abbrev pub InverseUndoes : Type 0
InverseUndoes =
    (env : Environment) (xs : List Occurrence) (body : Body Occurrence) → Lawful env xs body →
    (to : Numbers) (again : Environment) → again.types ≡ env.types → again.tags ≡ env.tags → again.type ≡ env.type →
    IsInverse to again → Undoes to (body_tree env body) env again

-- The tree has a text with names, which forms a body again, and the normal form of that body is the same tree.
pub record IsReadByNames (m : Typing) (tree : FunctionTree) : Type 0 where
  pub read : HasBodyText m tree
  pub same : IsSameTree (normal_form m read.body) tree

-- This holds for the normal form of every lawful body.
abbrev pub NormalFormAgain : Type 0
NormalFormAgain =
    (env : Environment) (xs : List Occurrence) (body : Body Occurrence) → AllByRecursion HasSpelling xs → Lawful env xs body →
    IsReadByNames (typing_of env) (body_tree env body)

-- Trees that are the same have the same bytes, or the same fault.
abbrev pub SameBytes : Type 0
SameBytes = (to : Numbers) (t u : FunctionTree) → IsSameTree t u → tree_bytes to t ≡ tree_bytes to u

-- ---- the same for accepted bodies

-- The operators that the bytes encode have locations, and the validator accepts them.
pub record AreReadable {W : Type 0} (again : Setting W) (bytes : List ℕ) : Type 0 where
  pub have_locations : (xs : List Placed) → Lists xs again.start bytes []
      → AllByRecursion (λ x. has_location again.locations x.place ≡ true) xs
  pub passes : (xs : List Placed) → Lists xs again.start bytes [] → IsOk (validated again.check again.first xs)

-- The bytes are accepted as a body; and whatever body they are accepted as, its normal form is this tree, locations aside, and
-- has the same bytes.
pub record IsAcceptedAgain {W : Type 0} (again : Setting W) (to : Numbers) (tree : FunctionTree) (bytes : List ℕ) : Type 0 where
  pub body : Body Occurrence
  pub accepted : Accepted again bytes body
  pub same : (c : Body Occurrence) → Accepted again bytes c → IsSameTree (body_tree again.environment c) tree
  pub unchanged : (c : Body Occurrence) → Accepted again bytes c → tree_bytes to (body_tree again.environment c) ≡ Ok bytes

-- The bytes of the normal form of an accepted body are accepted again, if they are readable, with all maps that undo the
-- numbers. `V` and `W` are the types of the states of the two validators.
abbrev pub AcceptedAgain : (V W : Type 0) → Type 0
AcceptedAgain V W =
    (given : Setting V) (source : List ℕ) (body : Body Occurrence) → Accepted given source body →
    (to : Numbers) (bytes : List ℕ) → tree_bytes to (body_tree given.environment body) ≡ Ok bytes →
    (again : Setting W) → Undoes to (body_tree given.environment body) given.environment again.environment →
    AreReadable again bytes → IsAcceptedAgain again to (body_tree given.environment body) bytes
