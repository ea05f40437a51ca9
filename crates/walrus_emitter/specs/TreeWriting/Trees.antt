-- Writing a function's tree: what is written for it, and why it isn't written.
use Rattle.std.specs.Prelude.{◌≡◌, ◌⊎◌, ◌++◌, ℕ, List, [], ◌∷◌, length, Bool, Option, Some, slice_get, Ok, Err}
use Rattle.walrus_ir.specs.declared.seq.InstrSeq.{InstrSeq}
use Rattle.walrus_ir.specs.declared.error.WalkError.{WalkError}
use Rattle.walrus_ir.specs.Faults.{FirstWalkFault}
use Rattle.wasm_operators.specs.Operations.{RawOperation}
use Rattle.wasm_body.specs.declared.error.EmitError.{EmitError}
use Rattle.wasm_body.specs.declared.error.EmitError.TheVariants.{Memory}
use Rattle.wasm_body.specs.Translation.{Located}
use Rattle.wasm_body.specs.FunctionTree.{FunctionTree}
use Rattle.wasm_body.specs.TreeOfFunction.{HasTree, fault_of_walk}
use Rattle.wasm_body.specs.Bytes.{Numbers, numbered_text, tree_bytes}
use Rattle.wasm_body.specs.Pairs.{Pair, tree_pairs, AddsPairs}
use Rattle.walrus_emit_state.specs.Emission.{output_of}
use Rattle.walrus_emit_state.specs.TreeWriting.Drafts.{Drafted}
use Rattle.walrus_emit_state.specs.declared.closing.Closer.TheVariants.{End}
use Rattle.walrus_emit_state.specs.TreeWriting.ScopeLists.{ScopeLists, ending}

-- the draft of the tree from a sequence on, with `base` bytes before it
pub record IsDraftOf (b : List InstrSeq) (entry : ℕ) (to : Numbers) (base : ℕ) (has_map : Bool)
    (draft : Drafted) : Type 0 where
  pub tree : FunctionTree
  pub has_tree : HasTree b entry tree
  pub operators : List (Located RawOperation)
  pub text : numbered_text to tree ≡ Ok operators
  pub is : draft
      ≡ record { base = base; has_map = has_map; output = output_of has_map base operators }

-- The bytes of the tree from a sequence on are appended to an encoder, and its location pairs to a list, if there is one.
pub record Appends (b : List InstrSeq) (entry : ℕ) (to : Numbers) (old new : List ℕ) (lists : Option (List Pair × List Pair)) : Type 0 where
  pub tree : FunctionTree
  pub has_tree : HasTree b entry tree
  pub bytes : List ℕ
  pub bytes_are : tree_bytes to tree ≡ Ok bytes
  pub appends : new ≡ old ++ bytes
  pub pairs : List Pair
  pub pairs_are : tree_pairs to tree (length old) ≡ Ok pairs
  pub appends_pairs : AddsPairs pairs lists

-- no sequence is open, and only the one at the entry is to come, which an `end` closes
pub record IsFirstScope (b : List InstrSeq) (entry : ℕ) (scopes : ScopeLists) : Type 0 where
  pub seq : InstrSeq
  pub in_arena : slice_get b entry ≡ Some seq
  pub is : scopes
      ≡ record { count = length b; coming = ending entry End seq.end ∷ []; open_scopes = [] }

-- ---- why it isn't written

-- Memory ran out, there is no tree, or this is the first fault of the tree in the order of writing.
abbrev pub IsNotWritten : List InstrSeq → (entry : ℕ) → Numbers → EmitError → Type 0
IsNotWritten b entry to e =
    (e ≡ Memory) ⊎ (((walk : WalkError) × FirstWalkFault b entry walk × (e ≡ fault_of_walk walk))
    ⊎ ((t : FunctionTree) × HasTree b entry t × (tree_bytes to t ≡ Err e)))
