-- What the loop over a body shows of a front, and of all bytes.
use Rattle.std.proofs.Common.{◌≡◌, ◌==◌, ℕ, ◌<◌, List, [], ◌∷◌, length, Bool, true, false, Result, Ok, Err, inr, refl, sym, ap, subst, ◌∙◌, arith}
use Rattle.wasm_ops.specs.Position.{Position}
use Rattle.wasm_body.specs.Validity.{ControlFrame}
use Rattle.wasm_context.specs.Validation.{BodyContext, BodyState, raw_step}
use Rattle.wasm_validator.specs.declared.state.Validator.{Validator}
use Rattle.wasm_validator.specs.Steps.{inner_of, outer_of, whole_state_of}
use Rattle.wasm_validation.specs.declared.error.ValidationError.{ValidationError}
use Rattle.wasm_validation.specs.declared.error.ValidationError.TheVariants.{Trailing, MissingEnd}
use Rattle.wasm_validation.specs.declared.error.ValidationFailure.{ValidationFailure}
use Rattle.wasm_validation.specs.BodyValidation.{BodySetting, begin_state, taken_next, IsFaultOfRest}
use Rattle.wasm_validation.specs.Taking.{TakesNextOperator, TakesAll}
use Rattle.wasm_validation.proofs.Fronts.{TakenFront, nothing_taken, taken_more}

-- ---- the frames of a state

abbrev frames_if : Validator → Bool → List ControlFrame
frames_if v ended = (whole_state_of (record v { ended = ended })).controls

pub ended_frames : (v : Validator) → v.ended ≡ true → (whole_state_of v).controls ≡ []
ended_frames v h = ap (frames_if v) h

pub open_frames_are : (v : Validator) → v.ended ≡ false → (whole_state_of v).controls ≡ inner_of v ∷ outer_of v
open_frames_are v h = ap (frames_if v) h

-- ---- a body that is taken from its begin

-- what was taken of the bytes, whatever body it is that begins in this context and state
abbrev pub SoFarTaken : BodyContext → BodyState → (from at : Position) → BodyState → Type 0
SoFarTaken c s from at reached = (g : BodySetting) → g.context ≡ c → begin_state g ≡ s → TakenFront g from.place from.rest at.place at.rest reached

pub begins_so : (c : BodyContext) (s : BodyState) (from : Position) → SoFarTaken c s from from s
begins_so c s from g of begins = subst (λ (t : BodyState). TakenFront g from.place from.rest from.place from.rest t) begins (nothing_taken g from.place from.rest)

module _ (c : BodyContext) (s : BodyState) (from at : Position) (reached : BodyState) (so : SoFarTaken c s from at reached) where
  pub goes_on : (next : Position) (new : BodyState) → TakesNextOperator c reached new at next (Ok tt) → SoFarTaken c s from next new
  goes_on next new h g of begins =
      let o = h.0 in
      let text = h.1 in
      let moves = h.2 in
      let f = subst (λ (rest : List ℕ). TakenFront g from.place from.rest at.place rest reached) moves.parts (so g of begins) in
      let step : raw_step g.context o reached ≡ Ok new = ap (λ (b : BodyContext). raw_step b o reached) of ∙ h.4 in
      subst (λ (n : ℕ). TakenFront g from.place from.rest n next.rest new) (sym moves.place) (taken_more g from.place from.rest at.place text next.rest o reached new f h.3 step)

  -- all bytes are taken, and the function's frame is closed
  pub closes : at.rest ≡ [] → reached.controls ≡ [] → TakesAll c s from (Ok tt)
  closes last closed g of begins =
      let f = subst (λ (rest : List ℕ). TakenFront g from.place from.rest at.place rest reached) last (so g of begins) in
      record { operators = f.front; reached = reached; leads = f.leads; closed = closed }

  -- the fault comes after the front
  pub stops : (f : ValidationFailure) → f.at ≡ at.place → IsFaultOfRest c reached reached.controls at.rest f.error → TakesAll c s from (Err f)
  stops f here fault g of begins =
      let t = so g of begins in
      inr (record {
        front = t.front;
        rest = at.rest;
        reached = reached;
        leads = t.leads;
        place_is = (let h = t.place_is in omega arith);
        fault = subst (λ (b : BodyContext). IsFaultOfRest b reached reached.controls at.rest f.error) (sym of) fault;
      })

-- ---- the fault of the rest

abbrev failed : ValidationError → Result BodyState ValidationError
failed e = Err e

pub fault_at_end : (c : BodyContext) (s : BodyState) (fs : List ControlFrame) (rest : List ℕ) (error : ValidationError) (f : ControlFrame) (gs : List ControlFrame) → fs ≡ f ∷ gs → length rest ≡ 0
    → error ≡ MissingEnd → IsFaultOfRest c s fs rest error
fault_at_end c s [] rest error f gs inside last e = absurd cc
fault_at_end c s (d ∷ fs) [] error f gs inside last e = e
fault_at_end c s (d ∷ fs) (b ∷ rest) error f gs inside last e = absurd (omega (arith, last))

pub fault_after_function : (c : BodyContext) (s : BodyState) (fs : List ControlFrame) (rest : List ℕ) (error : ValidationError) → fs ≡ [] → 0 < length rest → error ≡ Trailing
    → IsFaultOfRest c s fs rest error
fault_after_function c s [] [] error closed some e = absurd (omega (arith, some))
fault_after_function c s [] (b ∷ rest) error closed some e = e
fault_after_function c s (d ∷ fs) rest error closed some e = absurd cc

pub fault_of_next : (c : BodyContext) (s : BodyState) (fs : List ControlFrame) (rest : List ℕ) (error : ValidationError) (f : ControlFrame) (gs : List ControlFrame) → fs ≡ f ∷ gs → 0 < length rest
    → taken_next c s rest ≡ Err error → IsFaultOfRest c s fs rest error
fault_of_next c s [] rest error f gs inside some h = absurd cc
fault_of_next c s (d ∷ fs) [] error f gs inside some h = absurd (omega (arith, some))
fault_of_next c s (d ∷ fs) (b ∷ rest) error f gs inside some h = h

-- the fault of the next operator, in the same context
pub fault_here : (b c : BodyContext) (s : BodyState) (rest : List ℕ) (e error : ValidationError) → b ≡ c → error ≡ e → taken_next b s rest ≡ Err e → taken_next c s rest ≡ Err error
fault_here b c s rest e error same is h = ap (λ (d : BodyContext). taken_next d s rest) (sym same) ∙ h ∙ ap (λ (d : ValidationError). failed d) (sym is)

pub some_left : (rest : List ℕ) → false ≡ (length rest == 0) → 0 < length rest
some_left [] h = absurd cc
some_left (b ∷ rest) h = omega arith

pub none_left : (rest : List ℕ) → length rest ≡ 0 → rest ≡ []
none_left [] h = refl
none_left (b ∷ rest) h = absurd (omega (arith, h))
