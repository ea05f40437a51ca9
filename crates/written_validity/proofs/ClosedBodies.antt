-- The operators of an accepted body close all frames that they open: so a body that the algorithm takes as a validator is valid code.
use Rattle.std.proofs.Common.{◌≡◌, ℕ, zero, suc, List, [], ◌∷◌, length, map, Bool, true, false, Option, Some, None, Result, Ok, Err, refl, sym, ap, ◌∙◌, subst}
use Rattle.std.specs.Prelude.{IsOk, if◌then◌else◌}
use Rattle.std.proofs.lemmas.Option.{none-some}
use Rattle.wasm_types.specs.declared.val_type.ValType.{ValType}
use Rattle.wasm_numbers.specs.Results.{◌>>=◌}
use Rattle.wasm_numbers.proofs.ResultLemmas.{bind_ok, with_fault_ok, ok_same}
use Rattle.wasm_operators.specs.OperatorList.{Placed}
use Rattle.wasm_body.specs.Control.{Control, Does, Opens, Else, Catch, CatchAll, End, Delegate, control_of}
use Rattle.wasm_body.specs.Frames.{SequenceFrame, TryBody, function_frames, else_moves, catch_moves, catch_all_moves, onto, delegate_moves, moves, frames_after}
use Rattle.wasm_body.specs.Naming.{NamedOperation, Occurrence, block_signature}
use Rattle.wasm_body.specs.NormalForm.{Typing, typing_of, name_at}
use Rattle.wasm_body.specs.Parsing.Accepted.{mark, placed, validated}
use Rattle.wasm_body.specs.Parsing.Progress.{nothing_read}
use Rattle.wasm_body.specs.SourceTree.{Body, body_text}
use Rattle.wasm_body.specs.Validity.{ControlFrame, Stacks, State, state, Checked, OperandRules, demand, labelled_frame, is_if, is_try, may_catch, transfers, opened_by, OfElse, OfCatch, OfCatchAll, push_control, pop_control, given, taken, taken_by, unreachable, after_action, checks_catches, opens, checks_end, next_sequence, step_in, validate}
use Rattle.wasm_body.proofs.Structure.ReadFrames.{progress_frames, after_frames, none_stays}
use Rattle.wasm_body.proofs.Structure.ReadingTrees.{body_read}
use Rattle.wasm_typing.specs.StandardRules.{standard_rules}
use Rattle.wasm_context.specs.Validation.{refusal_number, steps_through}
use Rattle.wasm_body.proofs.NormalForm.Rewritten.{Named}
use Rattle.renamed_locals.specs.RenamedLocals.{renamed, renamed_at}
use Rattle.renamed_locals.proofs.SameControl.{same_control}
use Rattle.wasm_validation.specs.BodyChecks.{check_body}
use Rattle.wasm_validation.specs.BodyValidation.{begin_state}
use Rattle.wasm_validation.proofs.CheckedSteps.{same_steps}
use Rattle.written_validity.specs.ValidatedBodies.{AcceptedIsValid}
use Rattle.written_validity.proofs.NamedSteps.{steps_are}
use Rattle.written_validity.proofs.SourceNames.{same_tags, all_source_names}

-- ---- how many frames are open after an operator

abbrev one_less : ℕ → ℕ
one_less zero = zero
one_less (suc n) = n

abbrev depth_after : Control → ℕ → ℕ
depth_after (Does action) n = n
depth_after (Opens construct) n = suc n
depth_after Else n = n
depth_after (Catch t) n = n
depth_after CatchAll n = n
depth_after End n = one_less n
depth_after (Delegate l) n = one_less n

-- ---- frames of a body

module _ {A : Type 0} where
  replaced_depth : (fs gs : List (SequenceFrame A)) (o : Option (SequenceFrame A)) → onto fs o ≡ Some gs → length gs ≡ suc (length fs)
  replaced_depth fs gs (Some f) e = let same : f ∷ fs ≡ gs = cc e in sym (ap length same)
  replaced_depth fs gs None e = absurd (none-some gs e)

  delegate_depth : (fs gs : List (SequenceFrame A)) (f : SequenceFrame A) → delegate_moves fs f ≡ Some gs → length gs ≡ length fs
  delegate_depth fs gs (TryBody a) e = let same : fs ≡ gs = cc e in sym (ap length same)
  delegate_depth fs gs _ e = absurd (none-some gs e)

  frames_depth : (k : Control) (a : A) (fs gs : List (SequenceFrame A)) → moves k a fs ≡ Some gs → length gs ≡ depth_after k (length fs)
  frames_depth k a [] gs e = absurd (none-some gs e)
  frames_depth (Does action) a (f ∷ fs) gs e = let same : f ∷ fs ≡ gs = cc e in sym (ap length same)
  frames_depth (Opens construct) a (f ∷ fs) (g ∷ gs) e = let same : f ∷ fs ≡ gs = cc e in ap suc (sym (ap length same))
  frames_depth (Opens construct) a (f ∷ fs) [] e = absurd cc
  frames_depth Else a (f ∷ fs) gs e = replaced_depth fs gs (else_moves f) e
  frames_depth (Catch t) a (f ∷ fs) gs e = replaced_depth fs gs (catch_moves f) e
  frames_depth CatchAll a (f ∷ fs) gs e = replaced_depth fs gs (catch_all_moves f) e
  frames_depth End a (f ∷ fs) gs e = let same : fs ≡ gs = cc e in sym (ap length same)
  frames_depth (Delegate l) a (f ∷ fs) gs e = delegate_depth fs gs f e

body_frames : (xs : List Occurrence) (b : Body Occurrence) → map mark xs ≡ body_text b → frames_after (Some function_frames) (map mark xs) ≡ Some []
body_frames xs b e = ap (frames_after (Some function_frames)) e ∙ sym (after_frames (body_text b) nothing_read) ∙ ap progress_frames (body_read b)

-- ---- frames of the algorithm

module _ {T : Type 0} (m : Typing) (r : OperandRules T) where
  abbrev HasDepth : State T → ℕ → Type 0
  HasDepth t n = length t.controls ≡ n

  reached_depth : (s t : State T) (n : ℕ) → (let done : Checked (State T) = Ok s in done) ≡ Ok t → HasDepth s n → HasDepth t n
  reached_depth s t n e h = subst (λ x. HasDepth x n) (ok_same s t e) h

  action_depth : (b : Bool) (c : ControlFrame) (s : Stacks T) (cs : List ControlFrame) → HasDepth (if b then unreachable m r c s cs else state s (c ∷ cs)) (suc (length cs))
  action_depth true c s cs = refl
  action_depth false c s cs = refl

  given_depth : (ts : List (ValType ℕ)) (s : Stacks T) (cs : List ControlFrame) → HasDepth (given m r ts s cs) (length cs)
  given_depth ts s [] = refl
  given_depth ts s (c ∷ cs) = refl

  next_depth : (k : Control) (c : ControlFrame) (s : Stacks T) (cs : List ControlFrame) (t : State T) → next_sequence m r k c s cs ≡ Ok t → HasDepth t (depth_after k (suc (length cs)))
  next_depth Else c s cs t e =
      let u = bind_ok (demand (is_if c.opened)) (λ u. Ok (push_control m r OfElse c.start_types c.end_types s cs)) t e in
      reached_depth (push_control m r OfElse c.start_types c.end_types s cs) t (suc (length cs)) u.2 refl
  next_depth (Catch tag) c s cs t e =
      let u = bind_ok (demand (may_catch c.opened)) (λ u. Ok (push_control m r OfCatch (m.tag_parameters tag) c.end_types s cs)) t e in
      reached_depth (push_control m r OfCatch (m.tag_parameters tag) c.end_types s cs) t (suc (length cs)) u.2 refl
  next_depth CatchAll c s cs t e =
      let u = bind_ok (demand (may_catch c.opened)) (λ u. Ok (push_control m r OfCatchAll [] c.end_types s cs)) t e in
      reached_depth (push_control m r OfCatchAll [] c.end_types s cs) t (suc (length cs)) u.2 refl
  next_depth End c s cs t e =
      let u = bind_ok (checks_end m r c.opened c s) (λ x. Ok (given m r c.end_types x cs)) t e in
      reached_depth (given m r c.end_types u.0 cs) t (length cs) u.2 (given_depth c.end_types u.0 cs)
  next_depth (Delegate l) c s cs t e =
      let u = bind_ok (demand (is_try c.opened)) (λ u. labelled_frame cs l >>= λ d. Ok (given m r c.end_types s cs)) t e in
      let d = bind_ok (labelled_frame cs l) (λ d. Ok (given m r c.end_types s cs)) t u.2 in
      reached_depth (given m r c.end_types s cs) t (length cs) d.2 (given_depth c.end_types s cs)
  next_depth (Does action) c s cs t e = absurd cc
  next_depth (Opens construct) c s cs t e = absurd cc

  closing_depth : (k : Control) (c : ControlFrame) (s : Stacks T) (cs : List ControlFrame) (t : State T) → (pop_control m r c s >>= λ u. next_sequence m r k c u cs) ≡ Ok t
      → HasDepth t (depth_after k (suc (length cs)))
  closing_depth k c s cs t e = let u = bind_ok (pop_control m r c s) (λ u. next_sequence m r k c u cs) t e in next_depth k c u.0 cs t u.2

  step_depth : (k : Control) (o : NamedOperation) (s : Stacks T) (cs : List ControlFrame) (t : State T) → step_in m r k o s cs ≡ Ok t → HasDepth t (depth_after k (length cs))
  step_depth k o s [] t e = absurd cc
  step_depth (Does action) o s (c ∷ cs) t e =
      let u = bind_ok (taken m r action o c (c ∷ cs) s) (λ x. Ok (after_action m r action c x cs)) t e in
      reached_depth (after_action m r action c u.0 cs) t (suc (length cs)) u.2 (action_depth (transfers action) c u.0 cs)
  step_depth (Opens construct) o s (c ∷ cs) t e =
      let u = bind_ok (taken_by m r construct o c s) (λ x. opens m r construct o x (c ∷ cs)) t e in
      let next : State T = push_control m r (opened_by construct) (block_signature o).parameters (block_signature o).results u.0 (c ∷ cs) in
      let v = bind_ok (checks_catches m r construct o (c ∷ cs) u.0) (λ x. Ok next) t u.2 in
      reached_depth next t (suc (suc (length cs))) v.2 refl
  step_depth Else o s (c ∷ cs) t e = closing_depth Else c s cs t e
  step_depth (Catch tag) o s (c ∷ cs) t e = closing_depth (Catch tag) c s cs t e
  step_depth CatchAll o s (c ∷ cs) t e = closing_depth CatchAll c s cs t e
  step_depth End o s (c ∷ cs) t e = closing_depth End c s cs t e
  step_depth (Delegate l) o s (c ∷ cs) t e = closing_depth (Delegate l) c s cs t e

  -- both have as many frames after the operators
  same_depth : (f : ℕ → ℕ) (xs : List Occurrence) (fs gs : List (SequenceFrame Occurrence)) (s t : State T) → length fs ≡ length s.controls → frames_after (Some fs) (map mark xs) ≡ Some gs
      → validate m r (map (renamed_at f) (map name_at xs)) s ≡ Ok t → length gs ≡ length t.controls
  same_depth f [] fs gs s t h e v =
      let same : fs ≡ gs = cc e in
      sym (ap length same) ∙ h ∙ ap (λ x. length x.controls) (ok_same s t v)
  same_depth f (x ∷ xs) fs gs s t h e v =
      elim (moves (control_of x.named) x fs) as (λ o. moves (control_of x.named) x fs ≡ o → frames_after o (map mark xs) ≡ Some gs → length gs ≡ length t.controls) [
        | None ↦ λ is more. absurd (none-some gs (sym (none_stays (map mark xs)) ∙ more))
        | Some hs ↦ λ is more.
            let o = renamed f x.named in
            let next = bind_ok (step_in m r (control_of o) o s.stacks s.controls) (λ w. validate m r (map (renamed_at f) (map name_at xs)) w) t v in
            let here = step_depth (control_of x.named) o s.stacks s.controls next.0 (ap (λ k. step_in m r k o s.stacks s.controls) (sym (same_control f x.named)) ∙ next.1) in
            same_depth f xs hs gs next.0 t (frames_depth (control_of x.named) x fs hs is ∙ ap (depth_after (control_of x.named)) h ∙ sym here) more next.2
      ] refl e

none_open : (cs : List ControlFrame) → 0 ≡ length cs → cs ≡ []
none_open [] h = refl
none_open (c ∷ cs) h = absurd cc

-- ---- a body that is accepted

ok_found : {X E : Type 0} (r : Result X E) → IsOk r → (x : X) × (r ≡ Ok x)
ok_found (Ok x) h = (x, refl)
ok_found (Err e) h = absurd cc

pub accepted_is_valid : AcceptedIsValid
accepted_is_valid given source b accepted g alike index_of own check first =
    let env = given.environment in
    let m = typing_of env in
    let rules = standard_rules g.context.operands in
    let xs : List Placed = map placed accepted.operators in
    let names : List Named = map (renamed_at index_of) (map name_at accepted.operators) in
    let passes : IsOk (validated check_body (Some (g.context, begin_state g)) xs) =
    subst (λ v. IsOk (validated check_body v xs)) first (subst (λ k. IsOk (validated k given.first xs)) check accepted.all.passes) in
    let last = ok_found (validated check_body (Some (g.context, begin_state g)) xs) passes in
    let reached = bind_ok (steps_through g.context (begin_state g) xs) (λ t. Ok (Some (g.context, t))) last.0 (sym (same_steps g.context (begin_state g) xs) ∙ last.1) in
    let named = with_fault_ok (λ e. refusal_number) (validate m rules names (begin_state g)) reached.0
    (sym (steps_are m g.context (same_tags env g.context alike) xs names (all_source_names env g.context alike index_of own accepted.operators b accepted.lawful) (begin_state g)) ∙ reached.1) in
    let closed = none_open reached.0.controls
    (same_depth m rules index_of accepted.operators function_frames [] (begin_state g) reached.0 refl (body_frames accepted.operators b accepted.lawful.is_body) named) in
    record { operators = xs; reached = reached.0; leads = record { listed = accepted.all.spelt; steps = reached.1 }; closed = closed }
