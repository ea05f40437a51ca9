-- Every front that can be completed to a lawful body is a front of the one before the first fault.
use Rattle.std.proofs.Common.{◌≡◌, ℕ, ◌+◌, ◌-◌, ◌<◌, ◌≤◌, List, [], ◌∷◌, ◌++◌, length, map, Some, Result, Ok, Err, refl, sym, ap, subst, ◌∙◌, arith, length-append}
use Rattle.wasm_operators.specs.OperatorList.{Placed, Lists}
use Rattle.wasm_operators.specs.Laws.{ReadingAgrees}
use Rattle.wasm_body.specs.declared.error.ParseError.{ParseError}
use Rattle.wasm_body.specs.Frames.{SequenceFrame}
use Rattle.wasm_body.specs.Naming.{Occurrence}
use Rattle.wasm_body.specs.Parsing.Accepted.{placed, mark, validated, Setting, Handled, handled, FaultAfter}
use Rattle.wasm_body.specs.Parsing.Laws.{LongestFront}
use Rattle.wasm_body.specs.Parsing.Progress.{Layer, Progress, Within, Whole, NoBody, nothing_read, frames_of, further}
use Rattle.wasm_body.proofs.Structure.ReadFrames.{progress_frames, after_frames}
use Rattle.wasm_numbers.proofs.ResultLemmas.{ok_same}
use Rattle.wasm_body.proofs.Parsing.Parses.{Over, one_over}
use Rattle.wasm_body.proofs.Parsing.ParseResults.{is_ok, front_over, completed_goes}

cannot_fail : {V : Type 0} (h : Handled V) (e : ParseError) → (let r : Result (Handled V) ParseError = Ok h in r) ≡ Err e → ⊥
cannot_fail h e q = cc

some_same : {A : Type 0} (x y : A) → Some x ≡ Some y → x ≡ y
some_same x y e = cc

module _ {V : Type 0} (given : Setting V) (agrees : ReadingAgrees) where
  -- an operator that is handled is not at fault
  not_at_fault : (ls : List (Layer Occurrence)) (v : V) (place : ℕ) (bytes : List ℕ) (h : Handled V) (error : ParseError) → handled given v (frames_of ls) place bytes ≡ Ok h → length h.rest < length bytes
      → FaultAfter given v (frames_of ls) place bytes error → ⊥
  not_at_fault ls v place [] h error e s f = omega arith
  not_at_fault [] v place (x ∷ bytes) h error e s f = cannot_fail h error (sym e ∙ f)
  not_at_fault (l ∷ ls) v place (x ∷ bytes) h error e s f = cannot_fail h error (sym e ∙ f)

  longest : (xs ys : List Occurrence) (p : Progress Occurrence) (v : V) (place : ℕ) (bytes : List ℕ) (q r : Progress Occurrence) (w u : V) (at to : ℕ) (rest following : List ℕ) (frames : List (SequenceFrame Occurrence)) (error : ParseError)
      → Over given p v place bytes xs q w at rest → Over given p v place bytes ys r u to following → progress_frames r ≡ Some frames → FaultAfter given u frames to following error
      → (more : List Occurrence) × (ys ≡ xs ++ more)
  longest [] ys p v place bytes q r w u at to rest following frames error o k e f = (ys, refl)
  longest (x ∷ xs) ys NoBody v place bytes q r w u at to rest following frames error o k e f = absurd o.goes
  longest (x ∷ xs) ys (Whole b) v place bytes q r w u at to rest following frames error o k e f = absurd o.goes.1
  longest (x ∷ xs) [] (Within ls s) v place bytes q r w u at to rest following frames error o k e f =
      let i = one_over given agrees 0 ls s v place bytes x xs q w at rest o in
      let same_bytes : bytes ≡ following = k.spelt in
      let same_state : v ≡ u = ok_same {E = ℕ} v u k.passes in
      let same_frames : frames_of ls ≡ frames = some_same (frames_of ls) frames (ap progress_frames k.ends ∙ e) in
      let l : length bytes ≡ length following = ap length same_bytes in
      let same_place : to ≡ place = (let j = k.place_is in omega arith) in
      absurd (not_at_fault ls v place bytes (record { operator = x; rest = i.following; state = i.state }) error i.handles i.shorter
      (subst (λ (z : List ℕ). FaultAfter given v (frames_of ls) place z error) (sym same_bytes)
      (subst (λ (z : ℕ). FaultAfter given v (frames_of ls) z following error) same_place
      (subst (λ z. FaultAfter given v z to following error) (sym same_frames)
      (subst (λ (z : V). FaultAfter given z frames to following error) (sym same_state) f)))))
  longest (x ∷ xs) (y ∷ ys) (Within ls s) v place bytes q r w u at to rest following frames error o k e f =
      let i = one_over given agrees 0 ls s v place bytes x xs q w at rest o in
      let j = one_over given agrees 0 ls s v place bytes y ys r u to following k in
      let hx : Handled V = record { operator = x; rest = i.following; state = i.state } in
      let hy : Handled V = record { operator = y; rest = j.following; state = j.state } in
      let same : hx ≡ hy = ok_same {E = ParseError} hx hy (sym i.handles ∙ j.handles) in
      let over_x = subst (λ (h : Handled V). Over given (further (Within ls s) (mark h.operator)) h.state (place + (length bytes - length h.rest)) h.rest xs q w at rest) {x = hx} same i.over in
      let m = longest xs ys (further (Within ls s) (mark y)) j.state (place + (length bytes - length j.following)) j.following q r w u at to rest following frames error over_x j.over e f in
      (m.0, ap (λ (z : List Occurrence). y ∷ z) m.1 ∙ ap (λ (h : Handled V). h.operator ∷ (xs ++ m.0)) (sym same))

-- a rest is no longer than the bytes
spelt_shorter : (xs : List Placed) (place : ℕ) (bytes rest : List ℕ) → Lists xs place bytes rest → length rest ≤ length bytes
spelt_shorter [] place bytes rest h = (let e : length bytes ≡ length rest = ap length h in omega arith)
spelt_shorter (x ∷ xs) place bytes rest h =
    let s = spelt_shorter xs (place + length h.1) h.2 rest h.5 in
    let l : length bytes ≡ length h.1 + length h.2 = ap length h.3 ∙ length-append h.1 h.2 in
    omega arith

pub longest_front : (agrees : ReadingAgrees) (V : Type 0) → LongestFront V
longest_front agrees V given bytes f fault xs rest count is_front completes =
    let env = given.environment in
    let p = is_ok (validated given.check given.first (map placed xs)) is_front.passes in
    let at = given.start + (length bytes - length rest) in
    let shorter = spelt_shorter (map placed xs) given.start bytes rest is_front.spelt in
    let o = front_over given agrees xs bytes rest p.0 at is_front p.1 (completed_goes env xs count completes) (omega arith) in
    let k = front_over given agrees fault.front bytes fault.rest fault.state f.at fault.is_front fault.state_is (completed_goes env fault.front (length fault.frames) fault.completes) fault.place in
    longest given agrees xs fault.front nothing_read given.first given.start bytes _ _ p.0 fault.state at f.at rest fault.rest fault.frames f.error o k
    (after_frames (map mark fault.front) nothing_read ∙ fault.frames_are) fault.fault
