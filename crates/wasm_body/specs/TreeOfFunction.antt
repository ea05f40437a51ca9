-- The tree of a function as this crate defines it: the builder's sequences unfolded, without their places. The target of a
-- branch is the number of sequences between.
use Rattle.std.specs.Prelude.{◌≡◌, ℕ, suc, List, [], ◌∷◌, ◌==◌, if◌then◌else◌, Ok}
use Rattle.walrus_ir.specs.declared.seq.InstrSeq.{InstrSeq}
use Rattle.walrus_ir.specs.declared.error.WalkError.{WalkError}
use Rattle.walrus_ir.specs.declared.error.WalkError.TheVariants as walk
use Rattle.walrus_ir.specs.Tree.{Items, no_items, item, Sequences, no_sequences, sequence, Tree}
use Rattle.walrus_ir.specs.Unfolding.{SequenceAt, LocatedInstr, IsTree}
use Rattle.wasm_numbers.specs.Results.{infallible}
use Rattle.wasm_body.specs.declared.error.EmitError.{EmitError}
use Rattle.wasm_body.specs.declared.error.EmitError.TheVariants as emit
use Rattle.wasm_body.specs.Translation.{Translation, keeping_numbers, translate_immediates}
use Rattle.wasm_body.specs.FunctionTree.{Target, Depth, Outside, TreeOperation, Head, Instruction, FunctionTree}
use Rattle.wasm_body.specs.InstructionTable.{PlacedOperation, operation_of, clauses_of_try}

abbrev pub deeper : Target → Target
deeper (Depth n) = Depth (suc n)
deeper Outside = Outside

-- the target that a place becomes, if the sequences at these places are open, innermost first
abbrev pub target_in : List ℕ → ℕ → Target
target_in [] place = Outside
target_in (p ∷ ps) place = if place == p then Depth 0 else deeper (target_in ps place)

-- places of sequences become targets
abbrev pub to_targets : List ℕ → Translation ℕ (Unit {0}) Target (Unit {0}) ⊥
to_targets around = keeping_numbers (λ place. Ok (target_in around place)) (λ b. Ok b) (λ n. n)

abbrev pub with_targets : List ℕ → PlacedOperation → TreeOperation
with_targets around o = record { opcode = o.opcode; immediates = infallible (translate_immediates (to_targets around) o.immediates) }

abbrev pub instruction_in : List ℕ → LocatedInstr → Instruction
instruction_in around x = record { op = with_targets around (operation_of x.0); clauses = clauses_of_try x.0; location = x.1 }

abbrev pub head_of : InstrSeq → Head
head_of seq = record { type = seq.ty; end_location = seq.end }

-- within the sequences at these places, innermost first
abbrev mutual
  pub items_in : List ℕ → Items SequenceAt LocatedInstr → Items Head Instruction
  items_in around no_items = no_items
  items_in around (item x inside rest) = item (instruction_in around x) (sequences_in around inside) (items_in around rest)

  pub sequences_in : List ℕ → Sequences SequenceAt LocatedInstr → Sequences Head Instruction
  sequences_in around no_sequences = no_sequences
  sequences_in around (sequence h items rest) = sequence (head_of h.seq) (items_in (h.slot ∷ around) items) (sequences_in around rest)

abbrev pub tree_of : Tree SequenceAt LocatedInstr → FunctionTree
tree_of t = record { head = head_of t.head.seq; items = items_in (t.head.slot ∷ []) t.items }

-- From this sequence on, the builder's sequences are this tree.
pub record HasTree (sequences : List InstrSeq) (start : ℕ) (tree : FunctionTree) : Type 0 where
  pub unfolded : Tree SequenceAt LocatedInstr
  pub is_tree : IsTree sequences start unfolded
  pub is : tree_of unfolded ≡ tree

-- the fault of writing that an error of a walk becomes
abbrev pub fault_of_walk : WalkError → EmitError
fault_of_walk walk.UnknownSequence = emit.UnknownSequence
fault_of_walk walk.SharedSequence = emit.SharedSequence
fault_of_walk walk.Memory = emit.Memory
fault_of_walk walk.TooLarge = emit.TooLarge
