-- Frames that are opened and closed, and labels.
use Rattle.std.proofs.Common.{◌≡◌, ◌≢◌, ℕ, zero, suc, ◌+◌, ◌-◌, ◌≤◌, List, [], ◌∷◌, ◌++◌, length, Bool, false, Some, Result, Ok, Err, refl, sym, ap, ◌∙◌, arith, eq-eqb}
use Rattle.std.specs.Prelude.{nat_eq, slice_get, OnOk}
use Rattle.std.proofs.lemmas.Bool.Decides.{nat_tests}
use Rattle.wasm_numbers.specs.Results.{◌>>=◌}
use Rattle.wasm_body.specs.Validity as algorithm
use Rattle.wasm_body.specs.Validity.{ControlFrame, Stacks, State, Checked, refused, demand, up_to}
use Rattle.wasm_body.specs.ValidityLaws.{KnownOperand}
use Rattle.wasm_typing.specs.StandardRules.{standard_rules}
use Rattle.wasm_context.specs.Validation.{BodyContext, BodyState, typing_in}
use Rattle.wasm_validator.specs.declared.fault.Fault.{Fault}
use Rattle.wasm_validator.specs.declared.state.Validator.{Validator}
use Rattle.wasm_validator.specs.declared.frame.Frame.{Frame}
use Rattle.wasm_validator.specs.declared.frame.Opened.{Opened}
use Rattle.wasm_context.specs.TypeLists.{types_in}
use Rattle.wasm_context.specs.declared.blocks.TypeList.{TypeList}
use Rattle.wasm_context.specs.declared.context.Context.{Context}
use Rattle.wasm_validator.specs.States.{Known, control_frame, frames_onto, opened_of, locals_height_of}
use Rattle.wasm_validator.specs.WellFormed.{is_function_frame}
use Rattle.wasm_validator.specs.Steps.{setting_of, operand_stack, stacks_of, inner_of, outer_of, open_state, pop_all_in, push_each_in, pop_control_in, EntersFrame, OpensFrame}

-- ---- lists of frames

module _ (c : Context) (initial : ℕ) where
  pub frames_last : (fs : List Frame) (f : Frame) (ys : List ControlFrame) → frames_onto c initial (fs ++ f ∷ []) ys ≡ control_frame c initial f ∷ frames_onto c initial fs ys
  frames_last [] f ys = refl
  frames_last (g ∷ fs) f ys = frames_last fs f (control_frame c initial g ∷ ys)

  pub length_frames : (fs : List Frame) (ys : List ControlFrame) → length (frames_onto c initial fs ys) ≡ length fs + length ys
  length_frames [] ys = omega arith
  length_frames (g ∷ fs) ys = let h = length_frames fs (control_frame c initial g ∷ ys) in omega arith

  -- ---- labels

  past : (fs : List Frame) (ys : List ControlFrame) (k n : ℕ) → n ≡ length fs + k → algorithm.labelled_frame (frames_onto c initial fs ys) n ≡ algorithm.labelled_frame ys k
  past [] ys k n e = ap (algorithm.labelled_frame ys) (let h : n ≡ k = omega arith in h)
  past (g ∷ fs) ys k n e = past fs (control_frame c initial g ∷ ys) (suc k) n (omega arith)

  found : (fs : List Frame) (ys : List ControlFrame) (i n : ℕ) (f : Frame) → n + i + 1 ≡ length fs → slice_get fs i ≡ Some f
      → algorithm.labelled_frame (frames_onto c initial fs ys) n ≡ Ok (control_frame c initial f)
  found [] ys i n f e at = absurd cc
  found (g ∷ fs) ys zero n f e at = let same : g ≡ f = cc in past fs (control_frame c initial g ∷ ys) 0 n (omega arith) ∙ ap (λ h. Ok (control_frame c initial h)) same
  found (g ∷ fs) ys (suc i) n f e at = found fs (control_frame c initial g ∷ ys) i n f (omega arith) at

pub none_there : (cs : List ControlFrame) (n : ℕ) → length cs ≤ n → algorithm.labelled_frame cs n ≡ Err refused
none_there [] n h = refl
none_there (f ∷ cs) zero h = absurd (omega arith)
none_there (f ∷ cs) (suc n) h = none_there cs n (omega arith)

further : (f : ControlFrame) (cs : List ControlFrame) (n : ℕ) → n ≢ 0 → algorithm.labelled_frame (f ∷ cs) n ≡ algorithm.labelled_frame cs (n - 1)
further f cs zero h = absurd (h refl)
further f cs (suc n) h = ap (algorithm.labelled_frame cs) (let e : n ≡ suc n - 1 = omega arith in e)

pub labels_outer : (c : Context) (initial : ℕ) (f : ControlFrame) (fs : List Frame) (i n : ℕ) (g : Frame) → n ≢ 0 → n + i ≡ length fs → slice_get fs i ≡ Some g
    → algorithm.labelled_frame (f ∷ frames_onto c initial fs []) n ≡ Ok (control_frame c initial g)
labels_outer c initial f fs i n g h e at = further f (frames_onto c initial fs []) n h ∙ found c initial fs [] i (n - 1) g (omega arith) at

pub labels_none : (c : Context) (initial : ℕ) (f : ControlFrame) (fs : List Frame) (n : ℕ) → length fs + 1 ≤ n → algorithm.labelled_frame (f ∷ frames_onto c initial fs []) n ≡ Err refused
labels_none c initial f fs n h = let l = length_frames c initial fs [] in none_there (f ∷ frames_onto c initial fs []) n (omega arith)

-- ---- frames that are closed

abbrev closed : ControlFrame → Stacks KnownOperand → List Known → Bool → Checked (Stacks KnownOperand)
closed f s xs test = demand test >>= λ u. Ok (record { operands = xs; initialised = up_to f.locals_height s.initialised })

pub closes : (b : BodyContext) (f : ControlFrame) (s : Stacks KnownOperand) (xs : List Known) (ls : List ℕ) → pop_all_in b f f.end_types s.operands ≡ Ok xs → length xs ≡ f.height
    → ls ≡ up_to f.locals_height s.initialised → pop_control_in b f s ≡ Ok (record { operands = xs; initialised = ls })
closes b f s xs ls p h e =
    ap (λ a. a >>= λ zs. closed f s zs (nat_eq (length zs) f.height)) p ∙ ap (closed f s xs) (eq-eqb (length xs) f.height h)
    ∙ ap (λ l. Ok (record { operands = xs; initialised = l })) (sym e)

pub closes_not : (b : BodyContext) (f : ControlFrame) (s : Stacks KnownOperand) (xs : List Known) → pop_all_in b f f.end_types s.operands ≡ Ok xs → length xs ≢ f.height
    → pop_control_in b f s ≡ Err refused
closes_not b f s xs p h =
    let isnt : nat_eq (length xs) f.height ≡ false = grind (arith, nat_tests) in
    ap (λ a. a >>= λ zs. closed f s zs (nat_eq (length zs) f.height)) p ∙ ap (closed f s xs) isnt

-- the locals below a frame that isn't the function's
pub locals_below_inner : (o : algorithm.Opened) (initial set : ℕ) → is_function_frame o ≡ false → locals_height_of o initial set ≡ set + initial
locals_below_inner algorithm.OfFunction initial set h = absurd cc
locals_below_inner algorithm.OfBlock initial set h = refl
locals_below_inner algorithm.OfLoop initial set h = refl
locals_below_inner algorithm.OfIf initial set h = refl
locals_below_inner algorithm.OfElse initial set h = refl
locals_below_inner algorithm.OfTryTable initial set h = refl
locals_below_inner algorithm.OfTry initial set h = refl
locals_below_inner algorithm.OfCatch initial set h = refl
locals_below_inner algorithm.OfCatchAll initial set h = refl

-- ---- a frame that is opened

abbrev with_all : List Known → Stacks KnownOperand → ControlFrame → List ControlFrame → BodyState
with_all xs s f fs = record { stacks = record s { operands = xs }; controls = f ∷ fs }

pub enters_from : (old new : Validator) (f : Frame) (o : Opened) (starts ends : TypeList) (r : Result (Unit {0}) Fault)
    → inner_of (record old { inner = f }) ≡ algorithm.control (typing_in (setting_of old)) (standard_rules (setting_of old).operands) (stacks_of old) (opened_of o) (types_in old.context.now starts) (types_in old.context.now ends)
    → OnOk r (operand_stack new ≡ push_each_in (setting_of old) (types_in old.context.now starts) (operand_stack old)) → new ≡ record old { inner = f; operands = new.operands }
    → OnOk r (EntersFrame old new o starts ends)
enters_from old new f o starts ends (Err e) hi p same = tt
enters_from old new f o starts ends (Ok u) hi p same =
    let mid : Validator = record old { inner = f } in
    ap open_state same
    ∙ ap (λ xs. with_all xs (stacks_of old) (inner_of mid) (outer_of old)) p
    ∙ ap (λ g. with_all (push_each_in (setting_of old) (types_in old.context.now starts) (operand_stack old)) (stacks_of old) g (outer_of old)) hi

pub opens_from : (old mid new : Validator) (o : Opened) (starts ends : TypeList) (r : Result (Unit {0}) Fault) → outer_of (record old { outer = mid.outer }) ≡ inner_of old ∷ outer_of old
    → OnOk r (EntersFrame (record old { outer = mid.outer }) new o starts ends) → OnOk r (OpensFrame old new o starts ends)
opens_from old mid new o starts ends (Err e) ho h = tt
opens_from old mid new o starts ends (Ok u) ho h =
    h ∙ ap (algorithm.push_control (typing_in (setting_of old)) (standard_rules (setting_of old).operands) (opened_of o) (types_in old.context.now starts) (types_in old.context.now ends) (stacks_of old)) ho

-- ---- the results of the function

deeper : (c : Context) (initial : ℕ) (f : ControlFrame) (fs : List Frame) (h : ControlFrame) (ys : List ControlFrame) (g : ControlFrame) → algorithm.results (h ∷ ys) ≡ g.end_types
    → algorithm.results (f ∷ frames_onto c initial fs (h ∷ ys)) ≡ g.end_types
deeper c initial f [] h ys g e = e
deeper c initial f (k ∷ fs) h ys g e = deeper c initial f fs (control_frame c initial k) (h ∷ ys) g e

outermost : (c : Context) (initial : ℕ) (f : ControlFrame) (fs : List Frame) (g : ControlFrame) → algorithm.results (f ∷ frames_onto c initial fs (g ∷ [])) ≡ g.end_types
outermost c initial f [] g = refl
outermost c initial f (h ∷ fs) g = deeper c initial f fs (control_frame c initial h) (g ∷ []) g refl

pub results_of_first : (c : Context) (initial : ℕ) (f : ControlFrame) (fs : List Frame) (g : Frame) → slice_get fs 0 ≡ Some g → algorithm.results (f ∷ frames_onto c initial fs []) ≡ types_in c g.ends
results_of_first c initial f [] g at = absurd cc
results_of_first c initial f (h ∷ fs) g at = let same : h ≡ g = cc in outermost c initial f fs (control_frame c initial h) ∙ ap (λ (x : Frame). types_in c x.ends) same
