-- The normal form of a body has a text, or a fault of these, in any way of writing that has a result, or a fault of these, for
-- each of its operators.
use Rattle.std.specs.Prelude.{ℕ, List, [], ◌∷◌, map, Bool, IfErr, Result, Ok, Err}
use Rattle.std.specs.List.{AllByRecursion}
use Rattle.std.proofs.Common.{sym, subst}
use Rattle.walrus_ir.specs.declared.val_type.InstrSeqType.{InstrSeqType}
use Rattle.walrus_ir.specs.declared.val_type.InstrSeqType.TheVariants.{Simple}
use Rattle.std.specs.Prelude.{None}
use Rattle.wasm_operators.specs.declared.types.Space.TheVariants.{Tags}
use Rattle.wasm_operators.specs.declared.types.Opcode.TheVariants.{Byte}
use Rattle.wasm_operators.specs.Operations.{index, outer, operation}
use Rattle.wasm_body.specs.declared.error.EmitError.{EmitError}
use Rattle.wasm_numbers.specs.Results.{◌>>=◌, gather}
use Rattle.wasm_body.specs.Control.{Control, Does, Opens, Catch, End, Delegate, Marked, with_control, catch_opcode}
use Rattle.wasm_body.specs.SourceTree.{Sequence, Body, body_text}
use Rattle.wasm_body.specs.Translation.{translate, at_location}
use Rattle.wasm_body.specs.Naming.{NamedOperation}
use Rattle.wasm_body.specs.NormalForm.{Typing, construct_type, kept_operation, normal_form}
use Rattle.wasm_body.specs.FlatText.{Writing, with_block_type, tree_text}
use Rattle.wasm_body.proofs.Translation.Faults.{steps_within, last_within}
use Rattle.wasm_body.proofs.Structure.Along.{Each, AllMarked, HasControl, weaker, all_of_each}
use Rattle.wasm_body.specs.RewrittenTree.{end_at, catch_at, delegate_at, rewritten}
use Rattle.wasm_body.proofs.NormalForm.Rewritten.{Named, each_rewritten}
use Rattle.wasm_body.proofs.NormalForm.WrittenTexts.{named_by, named_written, written_result, anew_by, tree_text_by}

abbrev pub AllWithin : {A E : Type 0} → (E → Type 0) → List (Result A E) → Type 0
AllWithin Q rs = AllByRecursion (λ r. IfErr r Q) rs

-- the faults of a list of results are those of its elements
pub all_gathered : {A E : Type 0} → (Q : E → Type 0) (rs : List (Result A E)) → AllWithin Q rs → IfErr (gather rs) Q
all_gathered Q [] h = tt
all_gathered Q (r ∷ rs) h = steps_within Q r (λ x. gather rs >>= λ xs. Ok (x ∷ xs)) h.0 (λ x. last_within Q (gather rs) (λ xs. x ∷ xs) (all_gathered Q rs h.1))

module _ {M C : Type 0} (Q : EmitError → Type 0) (w : Writing M C) (m : Typing) where
  -- for an operator of the source: its writing has a result, or a fault of Q
  abbrev pub Writes : Named → Control → Type 0
  Writes a (Does action) = IfErr (translate (with_block_type w.translation (Simple None)) (kept_operation a.op)) Q
  Writes a (Opens construct) = IfErr (translate (with_block_type w.translation (construct_type m a.op)) (kept_operation a.op)) Q
  Writes a (Catch t) = IfErr (w.translation.index Tags t) Q
  Writes a (Delegate n) = IfErr (w.translation.outer n) Q
  Writes a _ = Unit {0}

  abbrev pub CanWrite : Named → Control → Type 0
  CanWrite a c = HasControl a c × Writes a c

  -- it is written
  abbrev IsWrittenWithin : Named → Control → Type 0
  IsWrittenWithin a c = IfErr (written_result w.translation m (with_control a c)) Q

  written_at : (a : Named) (t : InstrSeqType) → IfErr (translate (with_block_type w.translation t) (kept_operation a.op)) Q → IfErr (translate (named_by w.translation t) a.op >>= λ x. Ok (at_location x a.location)) Q
  written_at a t h = last_within Q (translate (named_by w.translation t) a.op) (λ x. at_location x a.location) (subst (λ r. IfErr r Q) (named_written w.translation t a.op) h)

  written_index : (t l : ℕ) → IfErr (w.translation.index Tags t) Q → IsWrittenWithin (catch_at t l) (Catch t)
  written_index t l h = by_result (w.translation.index Tags t) h
    where
      by_result : (r : Result ℕ EmitError) → IfErr r Q → IfErr (((((r >>= λ n. Ok (index Tags n)) >>= λ i. Ok (i ∷ [])) >>= λ is. Ok (operation {L = M} {B = C} catch_opcode is))) >>= λ x. Ok (at_location x l)) Q
      by_result (Ok n) h = tt
      by_result (Err e) h = h

  written_outer : (n l : ℕ) → IfErr (w.translation.outer n) Q → IsWrittenWithin (delegate_at n l) (Delegate n)
  written_outer n l h = by_result (w.translation.outer n) h
    where
      by_result : (r : Result ℕ EmitError) → IfErr r Q → IfErr (((((r >>= λ n. Ok (outer n)) >>= λ i. Ok (i ∷ [])) >>= λ is. Ok (operation {L = M} {B = C} (Byte 0x18) is))) >>= λ x. Ok (at_location x l)) Q
      by_result (Ok n) h = tt
      by_result (Err e) h = h

  abbrev balances_for : NamedOperation → Bool
  balances_for o = w.balanced (construct_type m o)

  all_written : (s : Sequence Named) → Each CanWrite s → Each IsWrittenWithin (rewritten balances_for s)
  all_written =
      each_rewritten balances_for CanWrite IsWrittenWithin (λ a action h. written_at a (Simple None) h.1) (λ a construct h. written_at a (construct_type m a.op) h.1)
      (λ l. tt) (λ l. tt) (λ a t l h. written_index t l h.1) (λ l. tt) (λ e n l h. written_outer n l h.1)

  all_within : (xs : List (Marked Named)) → AllMarked IsWrittenWithin xs → AllWithin Q (map (written_result w.translation m) xs)
  all_within [] h = tt
  all_within (x ∷ xs) h = (h.0, all_within xs h.1)

  pub normal_text : (b : Body Named) → Each CanWrite b.sequence → IfErr (tree_text w (normal_form m b)) Q
  normal_text b h =
      let last = with_control (end_at b.close.location) End in
      let all = all_of_each IsWrittenWithin (rewritten balances_for b.sequence) (last ∷ []) (all_written b.sequence h) (tt, tt) in
      subst (λ r. IfErr r Q) (sym (tree_text_by w m b (weaker CanWrite HasControl (λ a c g. g.0) b.sequence h)))
      (all_gathered Q (map (written_result w.translation m) (body_text (anew_by w.balanced m b))) (all_within (body_text (anew_by w.balanced m b)) all))
