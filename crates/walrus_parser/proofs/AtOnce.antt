-- A common operator, which is taken at once.
use Rattle.std.specs.Prelude.{◌≡◌, ◌<◌, ℕ, List, [], ◌∷◌, length, Bool, true, false, Ok}
use Rattle.std.proofs.Common.{reverse, refl, ap, sym, ◌∙◌, arith}
use Rattle.walrus_ir.specs.declared.instr.Instr.{Instr}
use Rattle.walrus_ir.specs.Unfolding.{slots_in}
use Rattle.wasm_operators.specs.declared.operator.Op.TheVariants.{End}
use Rattle.wasm_operators.specs.Meaning.{Listed, meaning}
use Rattle.wasm_ops.specs.declared.common.CommonOperator.{CommonOperator}
use Rattle.wasm_ops.specs.declared.common.CommonOperator.TheVariants as common
use Rattle.wasm_ops.specs.CommonOperators.{common_listed}
use Rattle.wasm_body.specs.InstructionTable.{operation_of, clauses_of_try}
use Rattle.walrus_from_operators.specs.OperatorKinds.{is_instruction}
use Rattle.walrus_context.specs.OpenFrames.{OpenFrame, changed_at, with_instr}
use Rattle.walrus_context.specs.OpenTrees.{OpenTrees}
use Rattle.walrus_parser.specs.declared.body_parser.BodyParser.{BodyParser}
use Rattle.walrus_parser.specs.OperatorKinds.{makes_unreachable}
use Rattle.walrus_parser.specs.BodyParsers.{TakesAtOnce, placed_in, with_appended}
use Rattle.walrus_parser.proofs.SingleInstructions.{appended_alone, same_body}
use Rattle.walrus_parser.proofs.Roles.{fate_by, fate_of_operator}
use Rattle.std.specs.Prelude.{Some}

-- a frame that is changed is still open
pub some_changed : (change : OpenFrame → OpenFrame) (fs : List OpenFrame) → 0 < length fs → 0 < length (changed_at 0 change fs)
some_changed change [] some = some
some_changed change (f ∷ fs) some = (let z : 0 < length (change f ∷ fs) = omega arith in z)

module _ (old : BodyParser) (o : Listed) (i : Instr) (location : ℕ) (unreachable_there : Bool) (kind : is_instruction o ≡ true) (unreachable_after : unreachable_there ≡ makes_unreachable o) (placed : placed_in old (meaning o) ≡ Ok (operation_of i))
    (plain : (slots_in i ≡ []) × (clauses_of_try i ≡ [])) where
  -- The instruction is in the innermost frame, which may be unreachable after it.
  pub taken_at_once : (new : OpenTrees) → (0 < length old.context.frames) × (new ≡ record old.context { frames = changed_at 0 (with_appended (i, location) unreachable_there) old.context.frames }) →
      TakesAtOnce old (record old { context = new }) (meaning o) location true
  taken_at_once new changes =
      let role = fate_of_operator o kind ∙ ap (λ b. Some (fate_by b)) (sym unreachable_after) in (
        λ ls s place keeps. appended_alone old.context new (reverse old.if_else.items) ls s (meaning o) place location unreachable_there role keeps i placed plain.0 plain.1 (Ok tt) changes tt,
        same_body old.context new (i, location) unreachable_there (Ok tt) changes,
      )

-- the effect of an instruction after which the frame isn't unreachable
pub stays_alive : (old new : OpenTrees) (i : Instr) (location : ℕ) (unreachable_there : Bool) → unreachable_there ≡ false → (0 < length old.frames) × (new ≡ record old { frames = changed_at 0 (with_instr (i, location)) old.frames }) →
    (0 < length old.frames) × (new ≡ record old { frames = changed_at 0 (with_appended (i, location) unreachable_there) old.frames })
stays_alive old new i location unreachable_there alive changes =
    (changes.0, changes.1 ∙ ap (λ fs. record old { frames = fs }) (by_frames old.frames ∙ ap (λ b. changed_at 0 (with_appended (i, location) b) old.frames) (sym alive)))
  where
    by_frames : (fs : List OpenFrame) → changed_at 0 (with_instr (i, location)) fs ≡ changed_at 0 (with_appended (i, location) false) fs
    by_frames [] = refl
    by_frames (f ∷ fs) = refl

-- None of them is an `end`.
not_end : {A : Type 0} (c : CommonOperator) → common_listed c ≡ End → A
not_end (common.LocalGet x) is = absurd cc
not_end (common.LocalSet x) is = absurd cc
not_end (common.LocalTee x) is = absurd cc
not_end (common.I32Const x) is = absurd cc
not_end (common.I64Const x) is = absurd cc
not_end (common.Unop x) is = absurd cc
not_end (common.Binop x) is = absurd cc
not_end (common.Load x y) is = absurd cc
not_end (common.Store x y) is = absurd cc
not_end (common.Call x) is = absurd cc
not_end (common.GlobalGet x) is = absurd cc
not_end (common.GlobalSet x) is = absurd cc
not_end (common.Br x) is = absurd cc
not_end (common.BrIf x) is = absurd cc
not_end common.Drop is = absurd cc

pub is_no_end : {A : Type 0} (c : CommonOperator) {o : Listed} → o ≡ common_listed c → o ≡ End → A
is_no_end c is end = not_end c (sym is ∙ end)
