-- Parsing on lists: the body that the bytes are accepted as, or the first fault, computed operator by operator as a parse does.
-- The relations `Accepted` and `FirstFault` define which bytes are accepted and which fault is the first; it is a law that the
-- two agree.
use Rattle.std.specs.Prelude.{ℕ, zero, suc, ◌+◌, ◌-◌, List, [], ◌∷◌, length, Result, Ok, Err}
use Rattle.wasm_body.specs.declared.error.ParseError.{ParseError}
use Rattle.wasm_body.specs.declared.error.ParseError.TheVariants.{Trailing, MissingEnd, Memory}
use Rattle.wasm_body.specs.declared.error.ParseFailure.{ParseFailure}
use Rattle.wasm_body.specs.SourceTree.{Body}
use Rattle.wasm_body.specs.Naming.{Occurrence, entry_type_id}
use Rattle.wasm_body.specs.Parsing.Accepted.{mark, Setting, Handled, handled}
use Rattle.wasm_body.specs.Parsing.Progress.{Progress, Within, Whole, NoBody, nothing_read, frames_of, further}

abbrev pub failure : ParseError → ℕ → ParseFailure
failure error at = record { error = error; at = at }

abbrev pub continue_from : {V : Type 0} → ℕ → Result (Handled V) ParseError → (Handled V → Result (Body Occurrence) ParseFailure) → Result (Body Occurrence) ParseFailure
continue_from place (Err error) go = Err (failure error place)
continue_from place (Ok h) go = go h

-- The result from this progress on. An operator has at least one byte, so as many turns as bytes are enough.
abbrev pub parsed_from : {V : Type 0} → Setting V → (turns : ℕ) → Progress Occurrence → V → ℕ → List ℕ → Result (Body Occurrence) ParseFailure
parsed_from given turns (Whole b) v place [] = Ok b
parsed_from given turns (Whole b) v place (x ∷ bytes) = Err (failure Trailing place)
parsed_from given turns (Within ls s) v place [] = Err (failure MissingEnd place)
parsed_from given zero (Within ls s) v place (x ∷ bytes) = Err (failure Memory place)
parsed_from given (suc turns) (Within ls s) v place (x ∷ bytes) =
    continue_from place (handled given v (frames_of ls) place (x ∷ bytes)) (λ h.
    parsed_from given turns (further (Within ls s) (mark h.operator)) h.state (place + (length (x ∷ bytes) - length h.rest)) h.rest)
parsed_from given turns NoBody v place bytes = Err (failure Memory place)

abbrev pub parsed_after_entry : {V : Type 0} → Setting V → Result ℕ ParseError → List ℕ → Result (Body Occurrence) ParseFailure
parsed_after_entry given (Err error) bytes = Err (failure error given.start)
parsed_after_entry given (Ok id) bytes = parsed_from given (length bytes) nothing_read given.first given.start bytes

abbrev pub parsed : {V : Type 0} → Setting V → List ℕ → Result (Body Occurrence) ParseFailure
parsed given bytes = parsed_after_entry given (entry_type_id given.environment) bytes
