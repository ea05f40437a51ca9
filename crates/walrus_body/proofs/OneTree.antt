-- A function has one tree, and begins with a sequence of its builder.
use Rattle.std.specs.Prelude.{◌≡◌, ◌<◌, ℕ, List, [], ◌∷◌, length, Some, unwrap_or}
use Rattle.std.proofs.Common.{sym, ap, subst, ◌∙◌}
use Rattle.std.proofs.lemmas.Option.{slice_get_within}
use Rattle.walrus_ir.specs.declared.seq.InstrSeq.{InstrSeq}
use Rattle.walrus_ir.specs.Function.{Function}
use Rattle.walrus_ir.specs.Tree.{Sequences}
use Rattle.walrus_ir.specs.Unfolding.{SequenceAt, LocatedInstr, AreSequences, are_sequences}
use Rattle.walrus_ir.proofs.WalkLaws.{one_tree}
use Rattle.wasm_body.specs.FunctionTree.{FunctionTree}
use Rattle.wasm_body.specs.TreeOfFunction.{tree_of, HasTree}
use Rattle.walrus_body.specs.LocalFunctions.{first_slot, HasEntry}
use Rattle.walrus_parser.specs.Bodies.{IsFunction}

pub one_function : (b : List InstrSeq) (start : ℕ) (t u : FunctionTree) → HasTree b start t → HasTree b start u → t ≡ u
one_function b start t u h k = sym h.is ∙ (ap tree_of (one_tree b start h.unfolded k.unfolded h.is_tree k.is_tree) ∙ k.is)

module _ (f : Function) (t : FunctionTree) (has : IsFunction f t) where
  slot_is : first_slot f ≡ 0
  slot_is = ap (λ e. unwrap_or e 0) has.entry

  pub from_slot : HasTree f.sequences (first_slot f) t
  from_slot = subst (λ n. HasTree f.sequences n t) (sym slot_is) has.holds

  pub only_tree : (u : FunctionTree) → HasTree f.sequences (first_slot f) u → u ≡ t
  only_tree u h = one_function f.sequences (first_slot f) u t h from_slot

  pub begins : HasEntry f
  begins = record { is = has.entry ∙ ap Some (sym slot_is); in_arena = within (first_slot f) from_slot.is_tree.unfolds }
    where
      within : (slot : ℕ) {rest : Sequences SequenceAt LocatedInstr} → AreSequences f.sequences (slot ∷ []) rest → slot < length f.sequences
      within slot (are_sequences in_arena items rest) = slice_get_within f.sequences slot _ in_arena
