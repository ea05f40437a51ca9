-- A body that is checked so far: parsing the remaining bytes from here gives the same as parsing all, for one setting.
use Rattle.std.proofs.Common.{◌≡◌, ℕ, zero, suc, ◌+◌, ◌-◌, ◌<◌, ◌≤◌, List, [], ◌∷◌, ◌++◌, length, map, true, false, Result, Ok, Err, refl, sym, ap, ◌∙◌, arith}
use Rattle.std.proofs.lemmas.List.{map-append}
use Rattle.wasm_numbers.specs.declared.fault.ReadFault.{ReadFault}
use Rattle.wasm_operators.specs.Operations.{RawOperation}
use Rattle.wasm_operators.specs.Spelling.{read_operation}
use Rattle.wasm_body.specs.declared.error.ParseError.{ParseError}
use Rattle.wasm_body.specs.declared.error.ParseError.TheVariants.{Read, PlaceTooGreat, Checked, Trailing, MissingEnd}
use Rattle.wasm_body.specs.declared.error.ParseFailure.{ParseFailure}
use Rattle.wasm_body.specs.SourceTree.{Sequence, Body}
use Rattle.wasm_body.specs.Frames.{SequenceFrame}
use Rattle.wasm_body.specs.Naming.{NamedOperation, Occurrence, named_in}
use Rattle.wasm_body.specs.Parsing.Accepted.{mark, location_at, has_location, Setting, Handled, handled}
use Rattle.wasm_body.specs.Parsing.Lists.{failure, continue_from, parsed_from}
use Rattle.wasm_body.specs.Parsing.Progress.{Layer, Progress, Within, Whole, nothing_read, frames_of, further, progress_after}
use Rattle.walrus_validators.specs.Checking.{placed_at}
use Rattle.walrus_parser.specs.Advancing.{occurrence}
use Rattle.walrus_parser.proofs.ParsedSoFar.{progress-append}

module _ {V : Type 0} (given : Setting V) where
  -- ---- the next operator, by the conditions that are tried in turn

  module _ (v : V) (fs : List (SequenceFrame Occurrence)) (place : ℕ) (bytes : List ℕ) where
    abbrev next : Result (Handled V) ParseError
    next = handled given v fs place bytes

    pub unread : (fault : ReadFault) → read_operation bytes ≡ Err fault → next ≡ Err (Read (record { fault = fault; at = place }))
    unread fault r = rw r refl

    module _ (o : RawOperation) (rest : List ℕ) (r : read_operation bytes ≡ Ok (o, rest)) where
      pub too_great : has_location given.locations place ≡ false → next ≡ Err PlaceTooGreat
      too_great l = rw (r, l) refl

      module _ (l : has_location given.locations place ≡ true) where
        pub refused : (n : ℕ) → given.check v (placed_at o place) ≡ Err n → next ≡ Err (Checked n)
        refused n c = rw (r, l, c) refl

        pub unnamed : (w : V) (e : ParseError) → given.check v (placed_at o place) ≡ Ok w → named_in given.environment fs o ≡ Err e → next ≡ Err e
        unnamed w e c n = rw (r, l, c, n) refl

        pub named : (w : V) (name : NamedOperation) → given.check v (placed_at o place) ≡ Ok w → named_in given.environment fs o ≡ Ok name →
            next ≡ Ok (record { operator = occurrence o place (location_at given.locations place) name; rest = rest; state = w })
        named w name c n = rw (r, l, c, n) refl

  -- ---- so far

  module _ (bytes : List ℕ) where
    abbrev pub whole : Result (Body Occurrence) ParseFailure
    whole = parsed_from given (length bytes) nothing_read given.first given.start bytes

    pub record ReadsSo (p : Progress Occurrence) (v : V) (place : ℕ) (rest : List ℕ) (operators : List Occurrence) : Type 0 where
      pub turns : ℕ
      pub enough : length rest ≤ turns
      pub place_is : place + length rest ≡ given.start + length bytes
      pub are_read : progress_after nothing_read (map mark operators) ≡ p
      pub continues : parsed_from given turns p v place rest ≡ whole

    pub begins : ReadsSo nothing_read given.first given.start bytes []
    begins = record { turns = length bytes; enough = omega arith; place_is = refl; are_read = refl; continues = refl }

    abbrev after_next : (turns : ℕ) (ls : List (Layer Occurrence)) (s : Sequence Occurrence) (place size : ℕ) → Result (Handled V) ParseError → Result (Body Occurrence) ParseFailure
    after_next turns ls s place size r =
        continue_from place r (λ h. parsed_from given turns (further (Within ls s) (mark h.operator)) h.state (place + (size - length h.rest)) h.rest)

    from_next : (t : ℕ) (ls : List (Layer Occurrence)) (s : Sequence Occurrence) (v : V) (place : ℕ) (rest : List ℕ) → 0 < length rest →
        parsed_from given (suc t) (Within ls s) v place rest ≡ after_next t ls s place (length rest) (handled given v (frames_of ls) place rest)
    from_next t ls s v place [] some = absurd (omega arith)
    from_next t ls s v place (x ∷ rest) some = refl

    one_turn : (turns : ℕ) (rest : List ℕ) → 0 < length rest → length rest ≤ turns → (t : ℕ) × (turns ≡ suc t)
    one_turn zero rest some enough = absurd (omega arith)
    one_turn (suc t) rest some enough = (t, refl)

    module _ (ls : List (Layer Occurrence)) (s : Sequence Occurrence) (v : V) (place : ℕ) (rest : List ℕ) (operators : List Occurrence) (so : ReadsSo (Within ls s) v place rest operators) where
      module _ (some : 0 < length rest) where
        abbrev turn : (t : ℕ) × (so.turns ≡ suc t)
        turn = one_turn so.turns rest some so.enough

        here : whole ≡ after_next turn.0 ls s place (length rest) (handled given v (frames_of ls) place rest)
        here = sym so.continues ∙ (ap (λ n. parsed_from given n (Within ls s) v place rest) turn.1 ∙ from_next turn.0 ls s v place rest some)

        -- the next operator is at fault
        pub stops : (e : ParseError) → handled given v (frames_of ls) place rest ≡ Err e → whole ≡ Err (failure e place)
        stops e is = here ∙ ap (after_next turn.0 ls s place (length rest)) is

        -- it isn't
        pub goes_over : (x : Occurrence) (next : ℕ) (after : List ℕ) (w : V) → handled given v (frames_of ls) place rest ≡ Ok (record { operator = x; rest = after; state = w }) →
            next + length after ≡ place + length rest → length after < length rest → ReadsSo (further (Within ls s) (mark x)) w next after (operators ++ x ∷ [])
        goes_over x next after w is moved shorter =
            let t = turn in
            let t_is = t.1 in
            let enough = so.enough in
            let here_is : place + (length rest - length after) ≡ next = omega arith in
            record {
              turns = t.0;
              enough = omega arith;
              place_is = (let p = so.place_is in omega arith);
              are_read = ap (progress_after nothing_read) (map-append mark operators (x ∷ [])) ∙ (progress-append (map mark operators) (mark x ∷ []) nothing_read ∙ ap (λ p. further p (mark x)) so.are_read);
              continues =
                  ap (λ n. parsed_from given t.0 (further (Within ls s) (mark x)) w n after) (sym here_is)
                  ∙ sym (here ∙ ap (after_next t.0 ls s place (length rest)) is);
            }

      -- no bytes remain
      pub missing : length rest ≡ 0 → whole ≡ Err (failure MissingEnd place)
      missing none = by_rest rest none so.continues
        where
          by_rest : (bs : List ℕ) → length bs ≡ 0 → parsed_from given so.turns (Within ls s) v place bs ≡ whole → whole ≡ Err (failure MissingEnd place)
          by_rest [] none is = sym is
          by_rest (b ∷ bs) none is = absurd (omega arith)

    module _ (b : Body Occurrence) (v : V) (place : ℕ) (rest : List ℕ) (operators : List Occurrence) (so : ReadsSo (Whole b) v place rest operators) where
      pub trailing : 0 < length rest → whole ≡ Err (failure Trailing place)
      trailing some = by_rest rest some so.continues
        where
          by_rest : (bs : List ℕ) → 0 < length bs → parsed_from given so.turns (Whole b) v place bs ≡ whole → whole ≡ Err (failure Trailing place)
          by_rest [] some is = absurd (omega arith)
          by_rest (c ∷ bs) some is = sym is

      pub complete : length rest ≡ 0 → whole ≡ Ok b
      complete none = by_rest rest none so.continues
        where
          by_rest : (bs : List ℕ) → length bs ≡ 0 → parsed_from given so.turns (Whole b) v place bs ≡ whole → whole ≡ Ok b
          by_rest [] none is = sym is
          by_rest (c ∷ bs) none is = absurd (omega arith)
