-- An operator with other locals does the same to the control flow.
use Rattle.std.proofs.Common.{◌≡◌, ℕ, List, [], ◌∷◌, map, refl, ap}
use Rattle.walrus_ir.specs.Types.{Signature}
use Rattle.wasm_operators.specs.Operations.{Immediate, local, label, clauses, cast, block}
use Rattle.wasm_body.specs.Control.{Role, a_catch, a_throw, a_rethrow, a_branch, a_conditional_branch, a_table_branch, a_delegate, a_try_table, Does, Opens, Catch, Delegate, Branch, ConditionalBranch, Throw, Rethrow, TryTable, first_label, first_depth, first_index, branches, catch_list, control_by, control_of, role_of}
use Rattle.wasm_body.specs.Naming.{NamedOperation, block_types, block_signature, first_signature}
use Rattle.wasm_body.specs.Validity.{try_table_clauses}
use Rattle.renamed_locals.specs.RenamedLocals.{renamed_immediate, renamed}

module _ (f : ℕ → ℕ) where
  abbrev Immediates : Type 0
  Immediates = List (Immediate ℕ Signature)

  abbrev over : Immediates → Immediates
  over is = map (renamed_immediate f) is

  same_label : (is : Immediates) → first_label (over is) ≡ first_label is
  same_label [] = refl
  same_label (label n ∷ is) = refl
  same_label (cast c ∷ is) = refl
  same_label (local n ∷ is) = same_label is
  same_label (i ∷ is) = same_label is

  same_depth : (is : Immediates) → first_depth (over is) ≡ first_depth is
  same_depth [] = refl
  same_depth (local n ∷ is) = refl
  same_depth (i ∷ is) = refl

  same_index : (is : Immediates) → first_index (over is) ≡ first_index is
  same_index [] = refl
  same_index (local n ∷ is) = refl
  same_index (i ∷ is) = refl

  same_branches : (is : Immediates) → branches (over is) ≡ branches is
  same_branches [] = refl
  same_branches (local n ∷ is) = refl
  same_branches (i ∷ is) = refl

  same_catches : (is : Immediates) → catch_list (over is) ≡ catch_list is
  same_catches [] = refl
  same_catches (clauses cs ∷ is) = refl
  same_catches (local n ∷ is) = same_catches is
  same_catches (i ∷ is) = same_catches is

  same_by_role : (r : Role) (is : Immediates) → control_by r (over is) ≡ control_by r is
  same_by_role a_catch is = ap Catch (same_index is)
  same_by_role a_throw is = ap (λ n. Does (Throw n)) (same_index is)
  same_by_role a_rethrow is = ap (λ n. Does (Rethrow n)) (same_depth is)
  same_by_role a_branch is = ap (λ n. Does (Branch n)) (same_label is)
  same_by_role a_conditional_branch is = ap (λ n. Does (ConditionalBranch n)) (same_label is)
  same_by_role a_table_branch is = ap Does (same_branches is)
  same_by_role a_delegate is = ap Delegate (same_depth is)
  same_by_role a_try_table is = ap (λ cs. Opens (TryTable cs)) (same_catches is)
  same_by_role _ is = refl

  pub same_control : (o : NamedOperation) → control_of (renamed f o) ≡ control_of o
  same_control o = same_by_role (role_of o.opcode) o.immediates

  same_blocks : (is : Immediates) → block_types (over is) ≡ block_types is
  same_blocks [] = refl
  same_blocks (block s ∷ is) = ap (λ ss. s ∷ ss) (same_blocks is)
  same_blocks (local n ∷ is) = same_blocks is
  same_blocks (i ∷ is) = same_blocks is

  pub same_signature : (o : NamedOperation) → block_signature (renamed f o) ≡ block_signature o
  same_signature o = ap first_signature (same_blocks o.immediates)

  clauses_in : (is : Immediates) → try_table_clauses (over is) ≡ try_table_clauses is
  clauses_in [] = refl
  clauses_in (clauses cs ∷ is) = refl
  clauses_in (local n ∷ is) = clauses_in is
  clauses_in (i ∷ is) = clauses_in is

  pub same_clauses : (o : NamedOperation) → try_table_clauses (renamed f o).immediates ≡ try_table_clauses o.immediates
  same_clauses o = clauses_in o.immediates
