-- Which fault is the first doesn't depend on what the location function returns.
use Rattle.std.specs.Prelude.{◌≡◌, ℕ, zero, suc, ◌+◌, ◌-◌, List, [], ◌∷◌, length, Bool, Option, Result, Ok, Err}
use Rattle.std.proofs.Common.{refl, ap, sym, ◌∙◌}
use Rattle.wasm_operators.specs.Operations.{RawOperation}
use Rattle.wasm_operators.specs.OperatorList.{Placed}
use Rattle.wasm_body.specs.declared.error.ParseError.{ParseError}
use Rattle.wasm_body.specs.declared.error.ParseFailure.{ParseFailure}
use Rattle.wasm_numbers.specs.Results.{◌>>=◌}
use Rattle.wasm_body.specs.Control.{control_of}
use Rattle.wasm_body.specs.SourceTree.{Sequence, Body}
use Rattle.wasm_body.specs.Frames.{SequenceFrame, moves}
use Rattle.wasm_body.specs.Naming.{Environment, NamedOperation, Occurrence, named_in}
use Rattle.wasm_body.specs.Parsing.Accepted.{mark, has_location, location_at, Setting, Admitted, admitted, Handled, handled}
use Rattle.wasm_body.specs.Parsing.Lists.{continue_from, parsed_from}
use Rattle.wasm_body.specs.Parsing.Progress.{Layer, Progress, Within, Whole, NoBody, nothing_read, frames_of, further}
use Rattle.wasm_body.proofs.Structure.ReadFrames.{progress_frames, further_frames}
use Rattle.wasm_body.proofs.ReadBack.FrameNames.{after_frames, moves_frames, named_of, shapes, named_same}
use Rattle.walrus_parser.specs.Settings.{given_with, BothOrNone}
use Rattle.walrus_parser.proofs.ParsedSoFar.{occurrence, same_places}

-- ---- one fault

abbrev progress_shapes : Progress Occurrence → Option (List (SequenceFrame NamedOperation))
progress_shapes p = after_frames named_of (progress_frames p)

within_shapes : (ls ks : List (Layer Occurrence)) (s t : Sequence Occurrence) → progress_shapes (Within ls s) ≡ progress_shapes (Within ks t) → shapes (frames_of ls) ≡ shapes (frames_of ks)
within_shapes ls ks s t e = cc

further_shapes : (ls ks : List (Layer Occurrence)) (s t : Sequence Occurrence) (op : RawOperation) (place l m : ℕ) (named : NamedOperation) → shapes (frames_of ls) ≡ shapes (frames_of ks) →
    progress_shapes (further (Within ls s) (mark (occurrence op place l named))) ≡ progress_shapes (further (Within ks t) (mark (occurrence op place m named)))
further_shapes ls ks s t op place l m named e =
    ap (after_frames named_of) (further_frames (Within ls s) (mark (occurrence op place l named)))
    ∙ moves_frames named_of (control_of named) (occurrence op place l named) (frames_of ls)
    ∙ ap (moves (control_of named) named) e
    ∙ sym (moves_frames named_of (control_of named) (occurrence op place m named) (frames_of ks))
    ∙ sym (ap (after_frames named_of) (further_frames (Within ks t) (mark (occurrence op place m named))))

module _ {S : Type 0} (env : Environment) (start : ℕ) (check : S → Placed → Result S ℕ) (first : S) where
  abbrev given : Option (ℕ → ℕ) → Setting S
  given = given_with env start check first

  -- an operator that was admitted, with its name
  abbrev stepped : (ℕ → Bool) → S → List (SequenceFrame Occurrence) → ℕ → List ℕ → Result (NamedOperation × Admitted S) ParseError
  stepped fits v fs place bytes = admitted fits check v place bytes >>= λ t. named_in env fs t.spelt >>= λ named. Ok (named, t)

  abbrev put : Option (ℕ → ℕ) → ℕ → NamedOperation × Admitted S → Handled S
  put locations place k = record { operator = occurrence k.1.spelt place (location_at locations place) k.0; rest = k.1.rest; state = k.1.state }

  handled_as : (locations : Option (ℕ → ℕ)) (v : S) (fs : List (SequenceFrame Occurrence)) (place : ℕ) (bytes : List ℕ) →
      handled (given locations) v fs place bytes ≡ (stepped (has_location locations) v fs place bytes >>= λ k. Ok (put locations place k))
  handled_as locations v fs place bytes = by_admitted (admitted (has_location locations) check v place bytes)
    where
      by_name : (a : Admitted S) (r : Result NamedOperation ParseError) → ◌≡◌ {A = Result (Handled S) ParseError}
          (r >>= λ named. Ok (put locations place (named, a)))
          ((r >>= λ named. Ok (named, a)) >>= λ k. Ok (put locations place k))
      by_name a (Ok named) = refl
      by_name a (Err e) = refl

      by_admitted : (r : Result (Admitted S) ParseError) → ◌≡◌ {A = Result (Handled S) ParseError}
          (r >>= λ a. named_in env fs a.spelt >>= λ named. Ok (put locations place (named, a)))
          ((r >>= λ a. named_in env fs a.spelt >>= λ named. Ok (named, a)) >>= λ k. Ok (put locations place k))
      by_admitted (Ok a) = by_name a (named_in env fs a.spelt)
      by_admitted (Err e) = refl

  same_names : (fits : ℕ → Bool) (v : S) (fs gs : List (SequenceFrame Occurrence)) (place : ℕ) (bytes : List ℕ) → shapes fs ≡ shapes gs → stepped fits v fs place bytes ≡ stepped fits v gs place bytes
  same_names fits v fs gs place bytes e = λ i. admitted fits check v place bytes >>= λ t. named_same env fs gs t.spelt e i >>= λ named. Ok (named, t)

  module _ (l m : Option (ℕ → ℕ)) (both : BothOrNone l m) where
    abbrev SameFault : ℕ → Type 0
    SameFault turns = (p q : Progress Occurrence) (v : S) (place : ℕ) (bytes : List ℕ) (f : ParseFailure) → progress_shapes p ≡ progress_shapes q →
        parsed_from (given l) turns p v place bytes ≡ Err f → parsed_from (given m) turns q v place bytes ≡ Err f

    abbrev after : Option (ℕ → ℕ) → ℕ → (ls : List (Layer Occurrence)) (s : Sequence Occurrence) (place size : ℕ) → Result (Handled S) ParseError → Result (Body Occurrence) ParseFailure
    after locations turns ls s place size r = continue_from place r (λ h. parsed_from (given locations) turns (further (Within ls s) (mark h.operator)) h.state (place + (size - length h.rest)) h.rest)

    turn_same : (turns : ℕ) → SameFault turns → (ls ks : List (Layer Occurrence)) (s t : Sequence Occurrence) (place size : ℕ) (f : ParseFailure) → shapes (frames_of ls) ≡ shapes (frames_of ks) →
        (r : Result (NamedOperation × Admitted S) ParseError) → after l turns ls s place size (r >>= λ k. Ok (put l place k)) ≡ Err f → after m turns ks t place size (r >>= λ k. Ok (put m place k)) ≡ Err f
    turn_same turns ih ls ks s t place size f same (Err e) is = is
    turn_same turns ih ls ks s t place size f same (Ok k) is =
        ih (further (Within ls s) (mark (occurrence k.1.spelt place (location_at l place) k.0))) (further (Within ks t) (mark (occurrence k.1.spelt place (location_at m place) k.0)))
        k.1.state (place + (size - length k.1.rest)) k.1.rest f (further_shapes ls ks s t k.1.spelt place (location_at l place) (location_at m place) k.0 same) is

    not_whole : (ls : List (Layer Occurrence)) (s : Sequence Occurrence) (b : Body Occurrence) → progress_shapes (Within ls s) ≡ progress_shapes (Whole b) → ⊥
    not_whole [] s b e = cc
    not_whole (k ∷ ls) s b e = cc

    same_fault : (turns : ℕ) → SameFault turns
    same_fault turns (Whole b) (Whole c) v place [] f same is = absurd (cc)
    same_fault turns (Whole b) (Whole c) v place (x ∷ bytes) f same is = is
    same_fault turns (Whole b) (Within ks t) v place bytes f same is = absurd (not_whole ks t b (sym same))
    same_fault turns (Whole b) NoBody v place bytes f same is = absurd (cc)
    same_fault turns NoBody NoBody v place bytes f same is = is
    same_fault turns NoBody (Whole c) v place bytes f same is = absurd (cc)
    same_fault turns NoBody (Within ks t) v place bytes f same is = absurd (cc)
    same_fault turns (Within ls s) (Whole c) v place bytes f same is = absurd (not_whole ls s c same)
    same_fault turns (Within ls s) NoBody v place bytes f same is = absurd (cc)
    same_fault turns (Within ls s) (Within ks t) v place [] f same is = is
    same_fault zero (Within ls s) (Within ks t) v place (x ∷ bytes) f same is = is
    same_fault (suc turns) (Within ls s) (Within ks t) v place (x ∷ bytes) f same is =
        let alike = within_shapes ls ks s t same in
        let size = length (x ∷ bytes) in
        let step : stepped (has_location m) v (frames_of ks) place (x ∷ bytes) ≡ stepped (has_location l) v (frames_of ls) place (x ∷ bytes) =
        ap (λ fits. stepped fits v (frames_of ks) place (x ∷ bytes)) (same_places l m both) ∙ sym (same_names (has_location l) v (frames_of ls) (frames_of ks) place (x ∷ bytes) alike) in
        ap (after m turns ks t place size) (handled_as m v (frames_of ks) place (x ∷ bytes) ∙ ap (λ r. r >>= λ k. Ok (put m place k)) step)
        ∙ turn_same turns (same_fault turns) ls ks s t place size f alike (stepped (has_location l) v (frames_of ls) place (x ∷ bytes))
        (sym (ap (after l turns ls s place size) (handled_as l v (frames_of ls) place (x ∷ bytes))) ∙ is)

    pub any_locations : (bytes : List ℕ) (f : ParseFailure) → parsed_from (given l) (length bytes) nothing_read first start bytes ≡ Err f → parsed_from (given m) (length bytes) nothing_read first start bytes ≡ Err f
    any_locations bytes f is = same_fault (length bytes) nothing_read nothing_read first start bytes f refl is
