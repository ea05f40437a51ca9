-- The locals that a builder's instructions name are the locals that its tree names.
use Rattle.std.specs.Prelude.{Option, Some, None}
use Rattle.std.proofs.Common.{◌≡◌, ℕ, suc, ◌+◌, length, List, [], ◌∷◌, ◌++◌, refl, sym, ap, ◌∙◌}
use Rattle.std.specs.List.{flat_map}
use Rattle.std.proofs.lemmas.Grind.{flat_map-append}
use Rattle.std.proofs.lemmas.List.{length-append}
use Rattle.walrus_ir.specs.declared.instr.Instr.{Instr}
use Rattle.walrus_ir.specs.declared.instr.Instr.TheVariants as instr
use Rattle.wasm_types.specs.declared.val_type.ValType.{ValType}
use Rattle.walrus_ir.specs.declared.value.Value.{Value}
use Rattle.walrus_ir.specs.declared.value.Value.TheVariants as value
use Rattle.wasm_types.specs.declared.unary.UnaryOp.{UnaryOp}
use Rattle.wasm_types.specs.declared.unary.UnaryOp.TheVariants as unary
use Rattle.wasm_types.specs.declared.binary.BinaryOp.{BinaryOp}
use Rattle.wasm_types.specs.declared.binary.BinaryOp.TheVariants as binary
use Rattle.wasm_types.specs.declared.memory.LoadSimdKind.{LoadSimdKind}
use Rattle.wasm_types.specs.declared.memory.LoadSimdKind.TheVariants as vector_access
use Rattle.wasm_operators.specs.Operations.{Access}
use Rattle.wasm_operators.specs.UnaryOperations.{unary_operation}
use Rattle.wasm_operators.specs.BinaryOperations.{binary_operation}
use Rattle.wasm_operators.specs.VectorAccessOpcodes.{vector_access_operation}
use Rattle.walrus_ir.specs.Tree.{Items, no_items, item, Sequences, no_sequences, sequence, Tree}
use Rattle.walrus_ir.specs.Unfolding.{SequenceAt, LocatedInstr}
use Rattle.wasm_body.specs.InstructionTable.{PlacedOperation, operation_of, const_operation, select_operation, access_at}
use Rattle.wasm_body.specs.LocalNumbers.{locals_among, locals_in_items, locals_inside, locals_of}
use Rattle.wasm_body.specs.Translation.{translate_immediates}
use Rattle.wasm_body.specs.TreeOfFunction.{to_targets, with_targets, items_in, sequences_in, tree_of}
use Rattle.wasm_body.proofs.Translation.LocalsKept.{locals_kept}
use Rattle.wasm_body.proofs.Translation.Steps.{ok-infallible}
use Rattle.walrus_facts.specs.Facts.{instructions, instructions_inside, count, local_of_instr, locals_used}

-- an operator that names no local
abbrev NamesNone : PlacedOperation → Type 0
NamesNone o = locals_among o.immediates ≡ []

of_value : (v : Value) → NamesNone (const_operation v)
of_value (value.I32 z) = refl
of_value _ = refl

of_select : (t : Option (ValType ℕ)) → NamesNone (select_operation t)
of_select None = refl
of_select (Some t) = refl

of_unary : (op : UnaryOp) → NamesNone (unary_operation op)
of_unary (unary.I8x16ExtractLaneS n) = refl
of_unary _ = refl

of_binary : (op : BinaryOp) → NamesNone (binary_operation op)
of_binary (binary.I8x16ReplaceLane n) = refl
of_binary _ = refl

of_lanes : (k : LoadSimdKind) (a : Access) → NamesNone (vector_access_operation k a)
of_lanes (vector_access.V128Load8Lane n) a = refl
of_lanes _ a = refl

-- the local of an instruction is that of its operator
of_instr : (x : Instr) → locals_among (operation_of x).immediates ≡ local_of_instr x
of_instr (instr.LocalGet x) = refl
of_instr (instr.LocalSet x) = refl
of_instr (instr.LocalTee x) = refl
of_instr (instr.Const x) = of_value x.value
of_instr (instr.Select x) = of_select x.ty
of_instr (instr.Unop x) = of_unary x.op
of_instr (instr.Binop x) = of_binary x.op
of_instr (instr.LoadSimd x) = of_lanes x.kind (access_at x.memory x.arg)
of_instr _ = refl

targets_alike : (around : List ℕ) (x : Instr) → locals_among (with_targets around (operation_of x)).immediates ≡ local_of_instr x
targets_alike around x =
    locals_kept (to_targets around) (λ n. refl) (operation_of x).immediates (with_targets around (operation_of x)).immediates
    (ok-infallible (translate_immediates (to_targets around) (operation_of x).immediates)) ∙ of_instr x

abbrev local_at : LocatedInstr → List ℕ
local_at x = local_of_instr x.0

mutual
  of_items : (around : List ℕ) (is : Items SequenceAt LocatedInstr) → locals_in_items (items_in around is) ≡ flat_map local_at (instructions is)
  of_items around no_items = refl
  of_items around (item x inside rest) =
      ap (λ l. l ++ (locals_inside (sequences_in around inside) ++ locals_in_items (items_in around rest))) (targets_alike around x.0)
      ∙ (ap (λ l. local_at x ++ (l ++ locals_in_items (items_in around rest))) (of_sequences around inside)
      ∙ (ap (λ l. local_at x ++ (flat_map local_at (instructions_inside inside) ++ l)) (of_items around rest)
      ∙ ap (λ l. local_at x ++ l) (sym (flat_map-append local_at (instructions_inside inside) (instructions rest)))))

  of_sequences : (around : List ℕ) (ss : Sequences SequenceAt LocatedInstr) → locals_inside (sequences_in around ss) ≡ flat_map local_at (instructions_inside ss)
  of_sequences around no_sequences = refl
  of_sequences around (sequence h is rest) =
      ap (λ l. l ++ locals_inside (sequences_in around rest)) (of_items (h.slot ∷ around) is)
      ∙ (ap (λ l. flat_map local_at (instructions is) ++ l) (of_sequences around rest)
      ∙ sym (flat_map-append local_at (instructions is) (instructions_inside rest)))

pub locals_of_tree : (t : Tree SequenceAt LocatedInstr) → locals_of (tree_of t) ≡ locals_used t.items
locals_of_tree t = of_items (t.head.slot ∷ []) t.items

-- ---- the builder has as many instructions as the tree

mutual
  count_items : (around : List ℕ) (is : Items SequenceAt LocatedInstr) → length (instructions (items_in around is)) ≡ length (instructions is)
  count_items around no_items = refl
  count_items around (item x inside rest) =
      ap suc
      (length-append (instructions_inside (sequences_in around inside)) (instructions (items_in around rest))
      ∙ (ap (λ n. n + length (instructions (items_in around rest))) (count_sequences around inside)
      ∙ (ap (λ n. length (instructions_inside inside) + n) (count_items around rest) ∙ sym (length-append (instructions_inside inside) (instructions rest)))))

  count_sequences : (around : List ℕ) (ss : Sequences SequenceAt LocatedInstr) → length (instructions_inside (sequences_in around ss)) ≡ length (instructions_inside ss)
  count_sequences around no_sequences = refl
  count_sequences around (sequence h is rest) =
      length-append (instructions (items_in (h.slot ∷ around) is)) (instructions_inside (sequences_in around rest))
      ∙ (ap (λ n. n + length (instructions_inside (sequences_in around rest))) (count_items (h.slot ∷ around) is)
      ∙ (ap (λ n. length (instructions is) + n) (count_sequences around rest) ∙ sym (length-append (instructions is) (instructions_inside rest))))

pub count_of_tree : (t : Tree SequenceAt LocatedInstr) → count (tree_of t).items ≡ count t.items
count_of_tree t = count_items (t.head.slot ∷ []) t.items
