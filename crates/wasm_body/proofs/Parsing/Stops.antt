-- Where parsing on lists stops: after a front of operators, at the end of the body or at the first fault.
use Rattle.std.proofs.Common.{◌≡◌, ℕ, zero, suc, ◌+◌, ◌-◌, ◌≤◌, List, [], ◌∷◌, ◌++◌, length, map, Bool, true, Some, Result, Ok, Err, refl, sym, ap, subst, ◌∙◌, arith, length-append}
use Rattle.wasm_operators.specs.Operations.{RawOperation}
use Rattle.wasm_operators.specs.OperatorList.{Placed}
use Rattle.wasm_operators.specs.Spelling.{Spells, read_operation}
use Rattle.wasm_operators.specs.Laws.{AreBytes, ReadingAgrees}
use Rattle.wasm_body.specs.declared.error.ParseError.{ParseError}
use Rattle.wasm_body.specs.declared.error.ParseError.TheVariants.{Read, PlaceTooGreat, Checked, Trailing, MissingEnd}
use Rattle.wasm_body.specs.declared.error.ParseFailure.{ParseFailure}
use Rattle.wasm_numbers.specs.Results.{◌>>=◌, unless, with_fault}
use Rattle.wasm_body.specs.SourceTree.{Sequence, Body}
use Rattle.wasm_body.specs.Frames.{SequenceFrame}
use Rattle.wasm_body.specs.Naming.{NamedOperation, Occurrence, named_in}
use Rattle.wasm_body.specs.Parsing.Accepted.{placed, mark, IsNamed, location_at, has_location, Setting, Admitted, admitted, Handled, handled}
use Rattle.wasm_body.specs.Parsing.Progress.{Layer, Progress, Within, Whole, NoBody, frames_of, further}
use Rattle.wasm_body.specs.Parsing.Lists.{failure, continue_from, parsed_from}
use Rattle.wasm_body.proofs.Structure.ReadTexts.{IsRead}
use Rattle.wasm_body.proofs.Structure.ReadFrames.{progress_frames, further_frames, Goes}
use Rattle.wasm_numbers.proofs.ResultLemmas.{bind_ok, with_fault_ok, unless_ok, ok_same}
use Rattle.wasm_body.proofs.Parsing.NamingLemmas.{named_moves}
use Rattle.wasm_body.proofs.Parsing.Parses.{Over, spelling_begins}

-- the conditions that a handled operator has passed
pub record Passed {V : Type 0} (given : Setting V) (v : V) (fs : List (SequenceFrame Occurrence)) (place : ℕ) (bytes : List ℕ) (h : Handled V) : Type 0 where
  pub read : read_operation bytes ≡ Ok (h.operator.spelt, h.rest)
  pub place_is : h.operator.place ≡ place
  pub has_place : has_location given.locations h.operator.place ≡ true
  pub location : h.operator.location ≡ location_at given.locations h.operator.place
  pub checked : given.check v (placed h.operator) ≡ Ok h.state
  pub named : named_in given.environment fs h.operator.spelt ≡ Ok h.operator.named

-- the conditions that an admitted operator has passed
abbrev ArePassed : {V : Type 0} → (ℕ → Bool) → (V → Placed → Result V ℕ) → V → (place : ℕ) → List ℕ → Admitted V → Type 0
ArePassed fits check v place bytes a =
    (read_operation bytes ≡ Ok (a.spelt, a.rest)) × (fits place ≡ true) × (check v (record { spelt = a.spelt; place = place }) ≡ Ok a.state)

are_passed : {V : Type 0} (fits : ℕ → Bool) (check : V → Placed → Result V ℕ) (v : V) (place : ℕ) (bytes : List ℕ) (a : Admitted V) → admitted fits check v place bytes ≡ Ok a
    → ArePassed fits check v place bytes a
are_passed {V} fits check v place bytes a e =
    let made = λ (x : RawOperation × List ℕ) (w : V). (let r : Admitted V = record { spelt = x.0; rest = x.1; state = w } in r) in
    let made_then = λ (x : RawOperation × List ℕ) (w : V). (let r : Result (Admitted V) ParseError = Ok (made x w) in r) in
    let checked_then = λ (x : RawOperation × List ℕ). with_fault Checked (check v (record { spelt = x.0; place = place })) >>= λ w. made_then x w in
    let b = bind_ok (with_fault (λ fault. Read (record { fault = fault; at = place })) (read_operation bytes)) (λ x. unless (fits place) PlaceTooGreat >>= λ _. checked_then x) a e in
    let c = bind_ok (unless (fits place) PlaceTooGreat) (λ _. checked_then b.0) a b.2 in
    let d = bind_ok (with_fault Checked (check v (record { spelt = b.0.0; place = place }))) (λ w. made_then b.0 w) a c.2 in
    subst (ArePassed fits check v place bytes) {x = made b.0 d.0} (ok_same {E = ParseError} (made b.0 d.0) a d.2) (
      with_fault_ok (λ fault. Read (record { fault = fault; at = place })) (read_operation bytes) b.0 b.1,
      unless_ok (fits place) PlaceTooGreat c.0 c.1,
      with_fault_ok Checked (check v (record { spelt = b.0.0; place = place })) d.0 d.1,
    )

pub passed : {V : Type 0} (given : Setting V) (v : V) (fs : List (SequenceFrame Occurrence)) (place : ℕ) (bytes : List ℕ) (h : Handled V) → handled given v fs place bytes ≡ Ok h → Passed given v fs place bytes h
passed {V} given v fs place bytes h e =
    let made = λ (a : Admitted V) (n : NamedOperation). (let r : Handled V = record { operator = record { spelt = a.spelt; place = place; location = location_at given.locations place; named = n }; rest = a.rest; state = a.state } in r) in
    let made_then = λ (a : Admitted V) (n : NamedOperation). (let r : Result (Handled V) ParseError = Ok (made a n) in r) in
    let a = bind_ok (admitted (has_location given.locations) given.check v place bytes) (λ a. named_in given.environment fs a.spelt >>= λ n. made_then a n) h e in
    let d = bind_ok (named_in given.environment fs a.0.spelt) (λ n. made_then a.0 n) h a.2 in
    let p = are_passed (has_location given.locations) given.check v place bytes a.0 a.1 in
    subst (Passed given v fs place bytes) {x = made a.0 d.0} (ok_same {E = ParseError} (made a.0 d.0) h d.2)
    (record { read = p.0; place_is = refl; has_place = p.1; location = refl; checked = p.2; named = d.1 })

-- parsing stops: nothing more is read
abbrev pub StopsAt : {V : Type 0} → Setting V → Progress Occurrence → V → ℕ → List ℕ → Result (Body Occurrence) ParseFailure → Type 0
StopsAt given (Whole b) v place [] r = r ≡ Ok b
StopsAt given (Whole b) v place (x ∷ bytes) r = r ≡ Err (failure Trailing place)
StopsAt given (Within ls s) v place [] r = r ≡ Err (failure MissingEnd place)
StopsAt given (Within ls s) v place (x ∷ bytes) r = (e : ParseError) × (handled given v (frames_of ls) place (x ∷ bytes) ≡ Err e) × (r ≡ Err (failure e place))
StopsAt given NoBody v place bytes r = ⊥

-- a front that was gone over, and a stop after it
pub record Stopped {V : Type 0} (given : Setting V) (p : Progress Occurrence) (v : V) (place : ℕ) (bytes : List ℕ) (r : Result (Body Occurrence) ParseFailure) : Type 0 where
  pub operators : List Occurrence
  pub reached : Progress Occurrence
  pub state : V
  pub at : ℕ
  pub rest : List ℕ
  pub over : Over given p v place bytes operators reached state at rest
  pub stops : StopsAt given reached state at rest r

frames_read : (p : Progress Occurrence) (gs : List (SequenceFrame Occurrence)) → progress_frames p ≡ Some gs → IsRead p
frames_read (Within ls s) gs e = tt
frames_read (Whole b) gs e = tt
frames_read NoBody gs e = absurd (cc)

goes_nil : (R : List (SequenceFrame Occurrence) → _ → Type 0) (p : Progress Occurrence) → IsRead p → Goes R (progress_frames p) []
goes_nil R (Within ls s) h = tt
goes_nil R (Whole b) h = tt
goes_nil R NoBody h = absurd h

abbrev IsFilled : List ℕ → Type 0
IsFilled [] = ⊥
IsFilled (x ∷ xs) = Unit {0}

module _ {V : Type 0} (given : Setting V) (agrees : ReadingAgrees) where
  stops_here : (p : Progress Occurrence) (v : V) (place : ℕ) (bytes : List ℕ) (r : Result (Body Occurrence) ParseFailure) → IsRead p → StopsAt given p v place bytes r → Stopped given p v place bytes r
  stops_here p v place bytes r h s =
      record {
        operators = [];
        reached = p;
        state = v;
        at = place;
        rest = bytes;
        over = record { spelt = refl; have_locations = tt; located = tt; passes = refl; goes = goes_nil (IsNamed given.environment) p h; ends = refl; place_is = refl };
        stops = s;
      }

  -- an operator more in front
  stops_after : (ls : List (Layer Occurrence)) (s : Sequence Occurrence) (v : V) (place : ℕ) (bytes : List ℕ) (h : Handled V) (text : List ℕ) (r : Result (Body Occurrence) ParseFailure)
      → Passed given v (frames_of ls) place bytes h → bytes ≡ text ++ h.rest → Spells h.operator.spelt text
      → Stopped given (further (Within ls s) (mark h.operator)) h.state (place + length text) h.rest r → Stopped given (Within ls s) v place bytes r
  stops_after ls s v place bytes h text r p parts spells t =
      record {
        operators = h.operator ∷ t.operators;
        reached = t.reached;
        state = t.state;
        at = t.at;
        rest = t.rest;
        over = record {
          spelt = (p.place_is, text, h.rest, parts, spells, t.over.spelt);
          have_locations = (p.has_place, t.over.have_locations);
          located = (p.location, t.over.located);
          passes = rw p.checked t.over.passes;
          goes = (p.named, subst (λ f. Goes (IsNamed given.environment) f (map mark t.operators)) (further_frames (Within ls s) (mark h.operator)) t.over.goes);
          ends = t.over.ends;
          place_is = (let i = t.over.place_is in let l : length bytes ≡ length text + length h.rest = ap length parts ∙ length-append text h.rest in omega arith);
        };
        stops = t.stops;
      }

  further_read : (ls : List (Layer Occurrence)) (s : Sequence Occurrence) (x : Occurrence) → named_in given.environment (frames_of ls) x.spelt ≡ Ok x.named → IsRead (further (Within ls s) (mark x))
  further_read ls s x n =
      let m = named_moves given.environment (frames_of ls) x.spelt x.named x n in
      frames_read (further (Within ls s) (mark x)) m.0 (further_frames (Within ls s) (mark x) ∙ m.1)

  -- parsing stops, with this many turns
  abbrev pub Stopping : ℕ → Type 0
  Stopping turns = (p : Progress Occurrence) (v : V) (place : ℕ) (bytes : List ℕ) → IsRead p → AreBytes bytes → length bytes ≤ turns → Stopped given p v place bytes (parsed_from given turns p v place bytes)

  handled_case : (turns : ℕ) → Stopping turns → (ls : List (Layer Occurrence)) (s : Sequence Occurrence) (v : V) (place : ℕ) (bytes : List ℕ) → IsFilled bytes → AreBytes bytes → length bytes ≤ suc turns
      → (o : Result (Handled V) ParseError) → handled given v (frames_of ls) place bytes ≡ o
      → Stopped given (Within ls s) v place bytes (continue_from place o (λ h. parsed_from given turns (further (Within ls s) (mark h.operator)) h.state (place + (length bytes - length h.rest)) h.rest))
  handled_case turns go ls s v place [] f fits enough o q = absurd f
  handled_case turns go ls s v place (x ∷ bytes) f fits enough (Err e) q = stops_here (Within ls s) v place (x ∷ bytes) (Err (failure e place)) tt (e, q, refl)
  handled_case turns go ls s v place (x ∷ bytes) f fits enough (Ok k) q =
      let p = passed given v (frames_of ls) place (x ∷ bytes) k q in
      let t = agrees.takes (x ∷ bytes) k.operator.spelt k.rest fits p.read in
      let long : length (x ∷ bytes) ≡ length t.0 + length k.rest = ap length t.1 ∙ length-append t.0 k.rest in
      let b = spelling_begins k.operator.spelt t.0 t.2 in
      let some : length t.0 ≡ suc (length b.others) = ap length b.is in
      let at : place + (length (x ∷ bytes) - length k.rest) ≡ place + length t.0 = omega arith in
      let next = further (Within ls s) (mark k.operator) in
      let n = go next k.state (place + length t.0) k.rest (further_read ls s k.operator p.named) t.3 (omega arith) in
      stops_after ls s v place (x ∷ bytes) k t.0 (parsed_from given turns next k.state (place + (length (x ∷ bytes) - length k.rest)) k.rest) p t.1 t.2
      (subst (λ (z : ℕ). Stopped given next k.state (place + length t.0) k.rest (parsed_from given turns next k.state z k.rest)) (sym at) n)

  pub stopped : (turns : ℕ) → Stopping turns
  stopped turns NoBody v place bytes h fits enough = absurd h
  stopped turns (Whole b) v place [] h fits enough = stops_here (Whole b) v place [] (Ok b) tt refl
  stopped turns (Whole b) v place (x ∷ bytes) h fits enough = stops_here (Whole b) v place (x ∷ bytes) (Err (failure Trailing place)) tt refl
  stopped turns (Within ls s) v place [] h fits enough = stops_here (Within ls s) v place [] (Err (failure MissingEnd place)) tt refl
  stopped zero (Within ls s) v place (x ∷ bytes) h fits enough = absurd (omega arith)
  stopped (suc turns) (Within ls s) v place (x ∷ bytes) h fits enough =
      handled_case turns (stopped turns) ls s v place (x ∷ bytes) tt fits enough (handled given v (frames_of ls) place (x ∷ bytes)) refl
