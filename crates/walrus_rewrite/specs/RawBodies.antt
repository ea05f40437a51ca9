-- Raw bodies: the declarations of a function's locals, and its operators (WebAssembly core specification 3.0, binary
-- format, code section).
use Rattle.std.specs.Prelude.{◌≡◌, ◌⊎◌, ℕ, ◌+◌, Bool, List, [], ◌++◌, length, map, Option, Result, Ok, Err}
use Rattle.walrus_ir.specs.declared.module.Module.{Module}
use Rattle.wasm_types.specs.declared.val_type.ValType.{ValType}
use Rattle.walrus_ir.specs.Function.{Function}
use Rattle.walrus_ir.specs.declared.error.WalkError.{WalkError}
use Rattle.walrus_ir.specs.Walk.{HasNoWalk}
use Rattle.std.proofs.Common.{inl, inr}
use Rattle.wasm_encode.specs.Declarations as encoded
use Rattle.wasm_body.specs.declared.error.EmitError.{EmitError}
use Rattle.wasm_body.specs.declared.error.EmitError.TheVariants.{Memory, TooLarge, UnknownSequence}
use Rattle.wasm_body.specs.declared.error.ParseFailure.{ParseFailure}
use Rattle.wasm_body.specs.Bytes.{Numbers, tree_bytes}
use Rattle.wasm_body.specs.EmissionFaults.{HasNoNumber}
use Rattle.wasm_body.specs.FunctionTree.{FunctionTree}
use Rattle.wasm_body.specs.LocalNumbers.{Local, ids_of, AreDeclared, declared, uses_local, numbering_locals}
use Rattle.wasm_body.specs.Pairs.{Pair, tree_pairs, AddsPairs}
use Rattle.wasm_body.specs.TreeOfFunction.{HasTree, fault_of_walk}
use Rattle.walrus_maps.specs.declared.ids_to_indices.IdsToIndices.{IdsToIndices}
use Rattle.walrus_numbering.specs.EmittedLocals.{Declares, HasNoDeclarations, IsNotDeclared}
use Rattle.walrus_body.specs.Emitting.{Written}
use Rattle.walrus_body.specs.FunctionParts.{FunctionParts}
use Rattle.walrus_body.specs.LocalFunctions.{first_slot, HasEntry}
use Rattle.walrus_facts.specs.Sizes.{IsTooLarge}
use Rattle.walrus_body.specs.EmittedInstructions.{LentPairs, Left, OfLists, IsNotEmitted}
use Rattle.walrus_emitter.specs.TreeWriting.Trees as trees
use Rattle.walrus_numbering.specs.NumberMaps.{numbers_by}
use Rattle.walrus_rewrite.specs.declared.error.RewriteError.{RewriteError}
use Rattle.walrus_rewrite.specs.declared.error.RewriteError.TheVariants.{Parse, Walk, Emit}

-- The input of writing a body: the numbers of ids, the types of the module's locals, and the function's arguments.
pub record EmitInput : Type 0 where
  pub to : Numbers
  pub types : List (ValType ℕ)
  pub args : List ℕ

-- the same for a function in a module with these arguments, with the numbers of index maps
abbrev pub input_for : IdsToIndices → Module → (args : List ℕ) → EmitInput
input_for out m args = record { to = numbers_by m.types out []; types = m.locals; args = args }

-- the same for this function
abbrev pub emit_input : IdsToIndices → Module → FunctionParts → EmitInput
emit_input out m f = input_for out m f.args

-- These are the bytes and the location pairs of a tree as a raw body, the places counted from its first byte.
pub record IsRawBody (by : EmitInput) (t : FunctionTree) (bytes : List ℕ) (pairs : List Pair) : Type 0 where
  pub others : List Local
  pub are_declared : AreDeclared by.types by.args (uses_local t) others
  pub declarations : List (ℕ × ValType ℕ)
  pub declarations_are : declared by.to (length by.args) others ≡ Ok declarations
  pub operators : List ℕ
  pub operators_are : tree_bytes (numbering_locals by.to by.args (ids_of others)) t ≡ Ok operators
  pub bytes_are : bytes ≡ encoded.declaration_bytes declarations ++ operators
  pub pairs_are : tree_pairs (numbering_locals by.to by.args (ids_of others)) t (length (encoded.declaration_bytes declarations)) ≡ Ok pairs

-- This is why a tree has no raw body: a used local isn't known, or else the declarations have this first fault, or else the
-- operators.
pub data HasNoRawBody (by : EmitInput) (t : FunctionTree) (e : EmitError) : Type 0 where
  undeclared : HasNoDeclarations by.to by.types by.args (uses_local t) e → HasNoRawBody by t e
  unwritten :
      (others : List Local) (declarations : List (ℕ × ValType ℕ)) → AreDeclared by.types by.args (uses_local t) others →
      declared by.to (length by.args) others ≡ Ok declarations → tree_bytes (numbering_locals by.to by.args (ids_of others)) t ≡ Err e →
      HasNoRawBody by t e

-- The tree of a parsed body has no raw body for these reasons only: a used local isn't known; the declarations count too many
-- locals, or name a type without a number; or an operator names an id or a local without a number.
abbrev pub IsOfParsed : (by : EmitInput) (t : FunctionTree) (e : EmitError) → HasNoRawBody by t e → Type 0
IsOfParsed by t e (undeclared (inl missing)) = Unit {0}
IsOfParsed by t e (undeclared (inr fault)) = (e ≡ TooLarge) ⊎ HasNoNumber e
IsOfParsed by t e (unwritten others declarations are_declared declarations_are fault) = HasNoNumber e

-- This is why the tree of a parsed body has no raw body.
pub record HasNoParsedBody (by : EmitInput) (t : FunctionTree) (e : EmitError) : Type 0 where
  pub has_none : HasNoRawBody by t e
  pub is_of_parsed : IsOfParsed by t e has_none

-- ---- of a function

-- These are the bytes and the pairs of the function's tree.
pub record IsRawBodyOf (by : EmitInput) (f : Function) (bytes : List ℕ) (pairs : List Pair) : Type 0 where
  pub tree : FunctionTree
  pub has_tree : HasTree f.sequences (first_slot f) tree
  pub is_raw_body : IsRawBody by tree bytes pairs

-- a pair whose place is moved up by this number of bytes
abbrev pub moved_pair : ℕ → Pair → Pair
moved_pair n p = (p.0, n + p.1)

-- ---- of a function, with the list of its used locals given

-- These locals are declared so in an encoder, and they and the arguments have these numbers.
pub record BeginsRawBody (by : EmitInput) (used : ℕ → Bool) (encoder : List ℕ) (numbers : List (ℕ × ℕ)) : Type 0 where
  pub declarations : List (ℕ × ValType ℕ)
  pub declares : Declares by.to by.types by.args used declarations numbers
  pub encoder_is : encoder ≡ encoded.declaration_bytes declarations

abbrev pub IsNotBegun : EmitInput → (ℕ → Bool) → EmitError → Type 0
IsNotBegun by used e = IsNotDeclared by.to by.types by.args used e

-- The operators, written with the numbers of the locals, follow the declarations, and the pairs are appended to the list, if
-- there is one.
pub record WritesRawBody (by : EmitInput) (used : ℕ → Bool) (f : Function) (bytes : List ℕ) (lists : Option (List Pair × List Pair)) : Type 0 where
  pub others : List Local
  pub are_declared : AreDeclared by.types by.args used others
  pub declarations : List (ℕ × ValType ℕ)
  pub declarations_are : declared by.to (length by.args) others ≡ Ok declarations
  pub is_written : trees.Appends f.sequences (first_slot f) (numbering_locals by.to by.args (ids_of others)) (encoded.declaration_bytes declarations) bytes lists

pub data DeclinesRawBody (by : EmitInput) (used : ℕ → Bool) (f : Function) (e : EmitError) : Type 0 where
  not_begun : IsNotBegun by used e → DeclinesRawBody by used f e
  not_written :
      (others : List Local) (declarations : List (ℕ × ValType ℕ)) → AreDeclared by.types by.args used others →
      declared by.to (length by.args) others ≡ Ok declarations → IsNotEmitted f (numbering_locals by.to by.args (ids_of others)) e →
      DeclinesRawBody by used f e

-- ---- appended

-- The pairs are appended to the list, if there is one.
abbrev pub AppendsPairs : {Z : Type 0} → List Pair → (entry : Option (LentPairs Z)) → (exit : Left (LentPairs Z)) → Type 0
AppendsPairs pairs entry exit = OfLists (AddsPairs pairs) entry exit

-- The function's raw body is appended, and its pairs to the list, if there is one.
pub record AppendsRawBody (by : EmitInput) (f : Function) (old new : List ℕ) (lists : Option (List Pair × List Pair)) : Type 0 where
  pub raw : List ℕ
  pub pairs : List Pair
  pub is_raw_body : IsRawBodyOf by f raw pairs
  pub appends : new ≡ old ++ raw
  pub appends_pairs : AddsPairs pairs lists

-- Memory ran out, or facts about the function can't be gathered, or it can't be written.
abbrev pub IsNotAppended : EmitInput → Function → RewriteError → Type 0
IsNotAppended by f (Parse p) = ⊥
IsNotAppended by f (Walk w) = HasNoWalk f.sequences (first_slot f) w ⊎ IsTooLarge f.sequences (first_slot f) w
IsNotAppended by f (Emit e) = (e ≡ Memory) ⊎ ((t : FunctionTree) × HasTree f.sequences (first_slot f) t × HasNoRawBody by t e)

-- After a parse: its failure, or why the raw body of its function isn't appended.
abbrev pub IsNotFinished : (FunctionParts → EmitInput) → Result FunctionParts ParseFailure → RewriteError → Type 0
IsNotFinished by (Ok made) e = IsNotAppended (by made) made.builder e
IsNotFinished by (Err f) e = e ≡ Parse f

-- ---- the entry of a function in the code section

-- The function has an entry, the bytes are its raw body, and the pairs are its own, moved up by the number of bytes before.
pub record WritesEntry (by : EmitInput) (f : Function) (before : ℕ) (written : Written) : Type 0 where
  pub has_entry : HasEntry f
  pub pairs : List Pair
  pub is_raw_body : IsRawBodyOf by f written.bytes pairs
  pub are_moved : written.code_transform ≡ map (moved_pair before) pairs

-- Both are appended.
pub record AppendsEntry (by : EmitInput) (f : Function) (old new : List ℕ) (old_pairs new_pairs : List Pair) : Type 0 where
  pub written : Written
  pub writes : WritesEntry by f (length old) written
  pub appends : new ≡ old ++ written.bytes
  pub appends_pairs : new_pairs ≡ old_pairs ++ written.code_transform

-- Why a function with an entry isn't appended: memory ran out, or there is no walk, or too many instructions, or no raw body.
abbrev pub RefusesEntry : EmitInput → Function → EmitError → Type 0
RefusesEntry by f e =
    (e ≡ Memory) ⊎ (((w : WalkError) × (HasNoWalk f.sequences (first_slot f) w ⊎ IsTooLarge f.sequences (first_slot f) w) × (e ≡ fault_of_walk w))
    ⊎ ((t : FunctionTree) × HasTree f.sequences (first_slot f) t × HasNoRawBody by t e))

-- And why any function isn't: its entry isn't a sequence of its builder, or one of these.
abbrev pub RefusesAnyEntry : EmitInput → Function → EmitError → Type 0
RefusesAnyEntry by f e = (HasEntry f × RefusesEntry by f e) ⊎ ((HasEntry f → ⊥) × (e ≡ UnknownSequence))
