-- A parse so far: reading the remaining bytes from here gives the same as reading all from the beginning, for every location
-- function that agrees with the locations so far.
use Rattle.std.specs.Prelude.{◌≡◌, ℕ, zero, suc, ◌+◌, ◌-◌, ◌<◌, ◌≤◌, List, [], ◌∷◌, ◌++◌, map, length, Option, Some, None, Result, Ok, Err}
use Rattle.std.specs.Borrow.{Bor}
use Rattle.std.specs.Fn.{Shared}
use Rattle.std.specs.List.{AllByRecursion}
use Rattle.std.proofs.lemmas.List.{map-append, append-nil}
use Rattle.std.proofs.Common.{refl, ap, sym, subst, ◌∙◌, arith}
use Rattle.wasm_operators.specs.Operations.{RawOperation}
use Rattle.wasm_operators.specs.OperatorList.{Placed}
use Rattle.wasm_body.specs.declared.error.ParseError.{ParseError}
use Rattle.wasm_body.specs.declared.error.ParseError.TheVariants.{Trailing, MissingEnd}
use Rattle.wasm_body.specs.declared.error.ParseFailure.{ParseFailure}
use Rattle.wasm_numbers.specs.Results.{◌>>=◌}
use Rattle.wasm_body.specs.Control.{Marked}
use Rattle.wasm_body.specs.SourceTree.{Sequence, Body, body_text}
use Rattle.wasm_body.specs.Frames.{SequenceFrame}
use Rattle.wasm_body.specs.Naming.{Environment, NamedOperation, Occurrence, named_in}
use Rattle.wasm_body.specs.Parsing.Accepted.{mark, has_location, location_at, Setting, Admitted, admitted, Handled, handled}
use Rattle.wasm_body.specs.Parsing.Lists.{failure, continue_from, parsed_from}
use Rattle.wasm_body.specs.Parsing.Progress.{Layer, Progress, Within, Whole, nothing_read, frames_of, further, progress_after}
use Rattle.wasm_body.proofs.Structure.ReadTexts.{IsRead, read_text, text_read}
use Rattle.walrus_validators.specs.Locating.{Locates}
use Rattle.walrus_parser.specs.Settings.{given_with, BothOrNone, locations_in, operators_of, IsMapping}
use Rattle.walrus_parser.proofs.Mappings.{all-front, mapping-append, mapped_locations, mapped_both}

pub progress-append : {A : Type 0} (xs ys : List (Marked A)) (p : Progress A) → progress_after p (xs ++ ys) ≡ progress_after (progress_after p xs) ys
progress-append [] ys p = refl
progress-append (x ∷ xs) ys p = progress-append xs ys (further p x)

-- the same places have a location
pub same_places : {F : Type 0} (o : Option F) (locations : Option (ℕ → ℕ)) → BothOrNone o locations → has_location locations ≡ has_location o
same_places None None h = refl
same_places (Some f) (Some l) h = refl
same_places None (Some l) h = absurd h
same_places (Some f) None h = absurd h

shown_marks : (xs : List Occurrence) → map (λ m. m.shown) (map mark xs) ≡ xs
shown_marks [] = refl
shown_marks (x ∷ xs) = ap (λ ys. x ∷ ys) (shown_marks xs)

abbrev pub occurrence : RawOperation → (place location : ℕ) → NamedOperation → Occurrence
occurrence o place location named = record { spelt = o; place = place; location = location; named = named }

module _ {S F : Type 0} (g : Shared F (Bor ℕ × Unit {0}) ℕ) (o : Option (Bor F)) (env : Environment) (start offset : ℕ) (check : S → Placed → Result S ℕ) (first : S) (bytes : List ℕ) where
  abbrev pub given : Option (ℕ → ℕ) → Setting S
  given = given_with env start check first

  abbrev pub parsed_operators : Option (ℕ → ℕ) → Result (Body Occurrence) ParseFailure
  parsed_operators locations = parsed_from (given locations) (length bytes) nothing_read first start bytes

  abbrev pub AreLocated : Option (ℕ → ℕ) → List Occurrence → Type 0
  AreLocated locations xs = AllByRecursion (λ x. x.location ≡ location_at locations x.place) xs

  -- these operators are read and admitted so far, and they are this part of a body
  pub record Reads (progress : Progress Occurrence) (state : S) (place : ℕ) (rest : List ℕ) (mapping : List (ℕ × ℕ)) : Type 0 where
    pub turns : ℕ
    pub operators : List Occurrence
    pub enough : length rest ≤ turns
    pub place_is : place + length rest ≡ start + length bytes
    pub started : start ≤ place
    pub are_read : progress_after nothing_read (map mark operators) ≡ progress
    pub is_mapping : IsMapping g o offset start place operators mapping
    pub continues : (locations : Option (ℕ → ℕ)) → BothOrNone o locations → AreLocated locations operators →
        parsed_from (given locations) turns progress state place rest ≡ parsed_operators locations

  pub begins : Reads nothing_read first start bytes []
  begins = record {
    turns = length bytes;
    operators = [];
    enough = omega arith;
    place_is = refl;
    started = omega arith;
    are_read = refl;
    is_mapping = record { pairs = refl; rise = omega arith; are_located = tt };
    continues = λ locations both are. refl;
  }

  -- ---- one operator

  abbrev named_admitted : Option (ℕ → ℕ) → List (SequenceFrame Occurrence) → ℕ → Admitted S → Result (Handled S) ParseError
  named_admitted locations fs place t = named_in env fs t.spelt >>= λ named. Ok (record { operator = occurrence t.spelt place (location_at locations place) named; rest = t.rest; state = t.state })

  handled_next : (locations : Option (ℕ → ℕ)) (s : S) (fs : List (SequenceFrame Occurrence)) (place : ℕ) (rest : List ℕ) → BothOrNone o locations →
      handled (given locations) s fs place rest ≡ (admitted (has_location o) check s place rest >>= named_admitted locations fs place)
  handled_next locations s fs place rest both = ap (λ fits. admitted fits check s place rest >>= named_admitted locations fs place) (same_places o locations both)

  abbrev after_next : Option (ℕ → ℕ) → (turns : ℕ) (ls : List (Layer Occurrence)) (s : Sequence Occurrence) (place size : ℕ) → Result (Handled S) ParseError → Result (Body Occurrence) ParseFailure
  after_next locations turns ls s place size r =
      continue_from place r (λ h. parsed_from (given locations) turns (further (Within ls s) (mark h.operator)) h.state (place + (size - length h.rest)) h.rest)

  -- a turn remains, and it takes the next operator
  pub one_turn : (turns : ℕ) (rest : List ℕ) → 0 < length rest → length rest ≤ turns → (t : ℕ) × (turns ≡ suc t)
  one_turn zero rest some enough = absurd (omega arith)
  one_turn (suc t) rest some enough = (t, refl)

  from_next : (locations : Option (ℕ → ℕ)) → BothOrNone o locations → (t : ℕ) (ls : List (Layer Occurrence)) (s : Sequence Occurrence) (state : S) (place : ℕ) (rest : List ℕ) → 0 < length rest →
      parsed_from (given locations) (suc t) (Within ls s) state place rest ≡ after_next locations t ls s place (length rest) (admitted (has_location o) check state place rest >>= named_admitted locations (frames_of ls) place)
  from_next locations both t ls s state place [] some = absurd (omega arith)
  from_next locations both t ls s state place (x ∷ rest) some = ap (after_next locations t ls s place (length (x ∷ rest))) (handled_next locations state (frames_of ls) place (x ∷ rest) both)

  -- an operator that was admitted, and that has a name
  pub goes_over : (ls : List (Layer Occurrence)) (s : Sequence Occurrence) (state next_state : S) (place next : ℕ) (rest after : List ℕ) (mapping : List (ℕ × ℕ)) (op : RawOperation) (location : ℕ) (named : NamedOperation) →
      Reads (Within ls s) state place rest mapping → admitted (has_location o) check state place rest ≡ Ok (record { spelt = op; rest = after; state = next_state }) →
      Locates g o place location → named_in env (frames_of ls) op ≡ Ok named → next + length after ≡ place + length rest → length after < length rest →
      Reads (further (Within ls s) (mark (occurrence op place location named))) next_state next after (mapping ++ (place - offset, location) ∷ [])
  goes_over ls s state next_state place next rest after mapping op location named f take located is moved shorter =
      let t = one_turn f.turns rest (omega arith) f.enough in
      let t_is = t.1 in
      let enough = f.enough in
      let x = occurrence op place location named in
      let here : place + (length rest - length after) ≡ next = omega arith in
      record {
        turns = t.0;
        operators = f.operators ++ x ∷ [];
        enough = omega arith;
        place_is = (let p = f.place_is in omega arith);
        started = (let p = f.started in omega arith);
        are_read = ap (progress_after nothing_read) (map-append mark f.operators (x ∷ [])) ∙ progress-append (map mark f.operators) (mark x ∷ []) nothing_read ∙ ap (λ p. further p (mark x)) f.are_read;
        is_mapping = mapping-append g o offset start place next f.operators mapping x f.is_mapping refl (omega arith) located;
        continues = λ locations both are.
            let parts = all-front (λ y. y.location ≡ location_at locations y.place) f.operators x are in
            ap (λ l. parsed_from (given locations) t.0 (further (Within ls s) (mark (occurrence op place l named))) next_state next after) parts.1
            ∙ ap (λ n. parsed_from (given locations) t.0 (further (Within ls s) (mark (occurrence op place (location_at locations place) named))) next_state n after) (sym here)
            ∙ sym (from_next locations both t.0 ls s state place rest (omega arith)
            ∙ ap (λ r. after_next locations t.0 ls s place (length rest) (r >>= named_admitted locations (frames_of ls) place)) take
            ∙ ap (λ r. after_next locations t.0 ls s place (length rest) (r >>= λ n. Ok (record { operator = occurrence op place (location_at locations place) n; rest = after; state = next_state }))) is)
            ∙ ap (λ n. parsed_from (given locations) n (Within ls s) state place rest) (sym t.1)
            ∙ f.continues locations both parts.0;
      }

  -- ---- the end of the parse

  -- the operators read are those of the body
  pub whole_operators : (b : Body Occurrence) (state : S) (place : ℕ) (rest : List ℕ) (mapping : List (ℕ × ℕ)) (f : Reads (Whole b) state place rest mapping) → f.operators ≡ operators_of b
  whole_operators b state place rest mapping f =
      let read = text_read (map mark f.operators) nothing_read [] (subst IsRead (sym f.are_read) tt) in
      let is : body_text b ≡ map mark f.operators = ap (λ p. read_text p []) (sym f.are_read) ∙ read ∙ append-nil (map mark f.operators) in
      sym (shown_marks f.operators) ∙ ap (map (λ m. m.shown)) (sym is)

  -- the location function of the mapping
  abbrev pub mapped : List (ℕ × ℕ) → Option (ℕ → ℕ)
  mapped mapping = locations_in o offset mapping

  module _ (fits : offset ≤ start) where
    here : (p : Progress Occurrence) (state : S) (place : ℕ) (rest : List ℕ) (mapping : List (ℕ × ℕ)) (f : Reads p state place rest mapping) →
        parsed_operators (mapped mapping) ≡ parsed_from (given (mapped mapping)) f.turns p state place rest
    here p state place rest mapping f = sym (f.continues (mapped mapping) (mapped_both o offset mapping) (mapped_locations g o offset start place f.operators mapping fits f.is_mapping))

    -- the next operator isn't admitted
    pub not_admitted : (ls : List (Layer Occurrence)) (s : Sequence Occurrence) (state : S) (place : ℕ) (rest : List ℕ) (mapping : List (ℕ × ℕ)) (e : ParseError) →
        Reads (Within ls s) state place rest mapping → 0 < length rest → admitted (has_location o) check state place rest ≡ Err e → parsed_operators (mapped mapping) ≡ Err (failure e place)
    not_admitted ls s state place rest mapping e f some take =
        let t = one_turn f.turns rest some f.enough in
        here (Within ls s) state place rest mapping f
        ∙ ap (λ n. parsed_from (given (mapped mapping)) n (Within ls s) state place rest) t.1
        ∙ from_next (mapped mapping) (mapped_both o offset mapping) t.0 ls s state place rest some
        ∙ ap (λ r. after_next (mapped mapping) t.0 ls s place (length rest) (r >>= named_admitted (mapped mapping) (frames_of ls) place)) take

    -- the operator breaks a rule
    pub broken : (ls : List (Layer Occurrence)) (s : Sequence Occurrence) (state next_state : S) (place : ℕ) (rest after : List ℕ) (mapping : List (ℕ × ℕ)) (op : RawOperation) (e : ParseError) →
        Reads (Within ls s) state place rest mapping → 0 < length rest → admitted (has_location o) check state place rest ≡ Ok (record { spelt = op; rest = after; state = next_state }) →
        named_in env (frames_of ls) op ≡ Err e → parsed_operators (mapped mapping) ≡ Err (failure e place)
    broken ls s state next_state place rest after mapping op e f some take is =
        let t = one_turn f.turns rest some f.enough in
        here (Within ls s) state place rest mapping f
        ∙ ap (λ n. parsed_from (given (mapped mapping)) n (Within ls s) state place rest) t.1
        ∙ from_next (mapped mapping) (mapped_both o offset mapping) t.0 ls s state place rest some
        ∙ ap (λ r. after_next (mapped mapping) t.0 ls s place (length rest) (r >>= named_admitted (mapped mapping) (frames_of ls) place)) take
        ∙ ap (λ r. after_next (mapped mapping) t.0 ls s place (length rest) (r >>= λ n. Ok (record { operator = occurrence op place (location_at (mapped mapping) place) n; rest = after; state = next_state }))) is

    -- no bytes remain, and a sequence is open
    pub missing : (ls : List (Layer Occurrence)) (s : Sequence Occurrence) (state : S) (place : ℕ) (rest : List ℕ) (mapping : List (ℕ × ℕ)) →
        Reads (Within ls s) state place rest mapping → length rest ≡ 0 → parsed_operators (mapped mapping) ≡ Err (failure MissingEnd place)
    missing ls s state place [] mapping f none = here (Within ls s) state place [] mapping f
    missing ls s state place (x ∷ rest) mapping f none = absurd (omega arith)

    -- the body is complete, with or without remaining bytes
    pub whole : (b : Body Occurrence) (state : S) (place : ℕ) (rest : List ℕ) (mapping : List (ℕ × ℕ)) → Reads (Whole b) state place rest mapping → length rest ≡ 0 → parsed_operators (mapped mapping) ≡ Ok b
    whole b state place [] mapping f none = here (Whole b) state place [] mapping f
    whole b state place (x ∷ rest) mapping f none = absurd (omega arith)

    pub trailing : (b : Body Occurrence) (state : S) (place : ℕ) (rest : List ℕ) (mapping : List (ℕ × ℕ)) → Reads (Whole b) state place rest mapping → 0 < length rest → parsed_operators (mapped mapping) ≡ Err (failure Trailing place)
    trailing b state place [] mapping f some = absurd (omega arith)
    trailing b state place (x ∷ rest) mapping f some = here (Whole b) state place (x ∷ rest) mapping f
