-- The steps of the algorithm over operators as they are encoded are those over their names.
use Rattle.std.proofs.Common.{◌≡◌, ℕ, List, [], ◌∷◌, Result, Ok, Err, refl, ap, ◌∙◌}
use Rattle.wasm_numbers.specs.Results.{◌>>=◌, with_fault}
use Rattle.wasm_operators.specs.OperatorList.{Placed}
use Rattle.wasm_body.specs.Control.{control_of}
use Rattle.wasm_body.specs.NormalForm.{Typing}
use Rattle.wasm_body.specs.Validity.{Checked, step_in, validate}
use Rattle.wasm_body.proofs.NormalForm.Rewritten.{Named}
use Rattle.wasm_typing.specs.StandardRules.{standard_rules}
use Rattle.wasm_context.specs.Validation.{BodyContext, BodyState, typing_in, raw_named, named_step, raw_step, refusal_number, steps_through}
use Rattle.wasm_context.proofs.TagsDecide.{same_step}

abbrev pub numbered : {X : Type 0} → Checked X → Result X ℕ
numbered r = with_fault (λ e. refusal_number) r

after_step : (f : BodyState → Result BodyState ℕ) (g : BodyState → Checked BodyState) → ((s : BodyState) → f s ≡ numbered (g s)) → (r : Checked BodyState) → (numbered r >>= f) ≡ numbered (r >>= g)
after_step f g h (Ok s) = h s
after_step f g h (Err e) = refl

module _ (m : Typing) (c : BodyContext) (tags : (tag : ℕ) → (typing_in c).tag_parameters tag ≡ m.tag_parameters tag) where
  -- Each operator has the name in its place.
  abbrev pub HaveNames : List Placed → List Named → Type 0
  HaveNames [] [] = Unit {0}
  HaveNames (x ∷ xs) (n ∷ ns) = (raw_named c x.spelt ≡ Ok n.op) × HaveNames xs ns
  HaveNames _ _ = ⊥

  step_is : (x : Placed) (n : Named) → raw_named c x.spelt ≡ Ok n.op → (s : BodyState) → raw_step c x.spelt s ≡ step_in m (standard_rules c.operands) (control_of n.op) n.op s.stacks s.controls
  step_is x n h s =
      ap (λ r. r >>= λ o. named_step c o s) h ∙ same_step (typing_in c) m (standard_rules c.operands) tags (control_of n.op) n.op s.stacks s.controls

  pub steps_are : (xs : List Placed) (ns : List Named) → HaveNames xs ns → (s : BodyState) → steps_through c s xs ≡ numbered (validate m (standard_rules c.operands) ns s)
  steps_are [] [] h s = refl
  steps_are [] (n ∷ ns) h s = absurd h
  steps_are (x ∷ xs) [] h s = absurd h
  steps_are (x ∷ xs) (n ∷ ns) h s =
      ap (λ r. numbered r >>= λ w. steps_through c w xs) (step_is x n h.0 s)
      ∙ after_step (λ w. steps_through c w xs) (λ w. validate m (standard_rules c.operands) ns w) (steps_are xs ns h.1)
      (step_in m (standard_rules c.operands) (control_of n.op) n.op s.stacks s.controls)
