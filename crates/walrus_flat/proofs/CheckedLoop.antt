-- The loop over the operators of a body that is checked.
use Rattle.std.proofs.Common.{◌≡◌, ◌≢◌, ◌⊎◌, inl, inr, ℕ, ◌+◌, ◌<◌, List, [], ◌∷◌, length, reverse, map, Bool, true, false, Option, Some, None, Result, Ok, Err, refl, sym, ap, subst, ◌∙◌}
use Rattle.wasm_operators.specs.Operations.{RawOperation}
use Rattle.wasm_operators.specs.OperatorList.{Placed}
use Rattle.wasm_operators.specs.Spelling.{read_operation}
use Rattle.wasm_operators.specs.Meaning.{Listed, meaning}
use Rattle.wasm_ops.specs.Position.{Position}
use Rattle.wasm_numbers.specs.declared.fault.ReadFault.{ReadFault}
use Rattle.wasm_body.specs.declared.error.ParseError.{ParseError}
use Rattle.wasm_body.specs.declared.error.ParseError.TheVariants.{Memory, Read, Trailing, MissingEnd}
use Rattle.wasm_body.specs.declared.error.ParseFailure.{ParseFailure}
use Rattle.wasm_body.specs.SourceTree.{Empty}
use Rattle.wasm_body.specs.Frames.{SequenceFrame, OfFunction, moves}
use Rattle.wasm_body.specs.Naming.{Occurrence, named_in}
use Rattle.wasm_body.specs.Parsing.Progress.{Layer, frames_of}
use Rattle.walrus_ir.specs.Types.{ModuleType}
use Rattle.std.proofs.lemmas.List.{reverse-reverse}
use Rattle.wasm_body.specs.Flat.{unreachability}
use Rattle.walrus_flat.specs.declared.open_sequence.OpenSequence.{OpenSequence}
use Rattle.wasm_body.specs.Parsing.Accepted.{Setting, has_location}
use Rattle.wasm_body.specs.Parsing.Lists.{failure}
use Rattle.walrus_from_operators.specs.OperatorKinds.{is_instruction}
use Rattle.walrus_parser.specs.OperatorKinds.{makes_unreachable}
use Rattle.walrus_parser.specs.Advancing.{occurrence}
use Rattle.walrus_parser.proofs.Roles.{fate_of_operator}
use Rattle.walrus_flat.specs.declared.checker.Checker.{Checker}
use Rattle.walrus_flat.specs.Checked.{env_of_checker, AreFrames, check_state_of, Passes, StaysSame}
use Rattle.walrus_flat.specs.Checkers.{used_in}
use Rattle.walrus_flat.specs.CheckedBody.{HasLimit, fits_limit, BeginsBody, setting_at, parsed_here, ChecksBody, RefusesTaking, IsValidated, ChecksNext, ChecksNextAtOnce}
use Rattle.walrus_flat.proofs.CheckedFronts.{begins, unread, too_great, refused, unnamed, named, stops, missing, trailing, complete}
use Rattle.walrus_flat.proofs.CheckedBodies.{ChecksSo, ChecksWhole, continues}
use Rattle.walrus_flat.proofs.CheckedSteps.{alone_named, does}
use Rattle.walrus_flat.proofs.CheckerAtOnce.{same_state, still_some}

has_fit : (limit : Bool) (locations : Option (ℕ → ℕ)) (place : ℕ) → HasLimit limit locations → has_location locations place ≡ fits_limit limit place
has_fit true None place h = refl
has_fit false (Some f) place h = refl
has_fit true (Some f) place h = absurd h
has_fit false None place h = absurd h

no_frames : (types : List ModuleType) (ls : List (Layer Occurrence)) → AreFrames types [] (frames_of ls) → ⊥
no_frames types [] h = h
no_frames types (l ∷ ls) h = h

-- a location function, or none, with a limit or without
some_locations : (limit : Bool) → (locations : Option (ℕ → ℕ)) × HasLimit limit locations
some_locations true = (None, tt)
some_locations false = (Some (λ place. place), tt)

-- a frame is open
some_frame : (ls : List (Layer Occurrence)) → (g : SequenceFrame Occurrence) × (gs : List (SequenceFrame Occurrence)) × (frames_of ls ≡ g ∷ gs)
some_frame [] = (_, _, refl)
some_frame (l ∷ ls) = (_, _, refl)

is_memory : (e : ParseError) → (e ≡ Memory) ⊎ (e ≢ Memory)
is_memory Memory = inl refl
is_memory _ = inr (λ h. cc)

module _ {V : Type 0} (start : ℕ) (check : V → Placed → Result V ℕ) (v0 : V) (limit : Bool) (bytes : List ℕ) (first : Checker) where
  abbrev given : Option (ℕ → ℕ) → Setting V
  given = setting_at (env_of_checker first) start check v0

  pub record SoFar (c : Checker) (v : V) (place : ℕ) (rest : List ℕ) : Type 0 where
    pub env : env_of_checker c ≡ env_of_checker first
    pub inside : c.«open».items ≢ []
    pub checks : (locations : Option (ℕ → ℕ)) → HasLimit limit locations → ChecksSo (given locations) bytes (used_in first) (check_state_of c) v place rest

  pub begins_loop : BeginsBody first → SoFar first v0 start bytes
  begins_loop b = record {
    env = refl;
    inside = λ e. let both : [] ≡ b.entry ∷ [] = sym e ∙ b.opens in absurd cc;
    checks = λ locations h. record {
      operators = [];
      layers = [];
      sequence = Empty;
      reads = begins (given locations) bytes;
      frames = subst (λ l. AreFrames (env_of_checker first).types (reverse l) (OfFunction ∷ [])) (sym b.opens) (b.kind_is, tt);
      unreachable = (λ i. unreachability (b.unreachable i) (map (λ (f : OpenSequence). f.before) (reverse (b.opens i)))) ∙ ap (λ d. unreachability false (d ∷ [])) b.before;
      used = λ x. refl;
    };
  }

  -- nothing changed but memory
  pub still : (c mid : Checker) (v w : V) (place : ℕ) (rest : List ℕ) → StaysSame c mid → w ≡ v → SoFar c v place rest → SoFar mid w place rest
  still c mid v w place rest same state so = record {
    env = ap env_of_checker same.is ∙ so.env;
    inside = still_some c mid same so.inside;
    checks = λ locations h. subst (λ k. ChecksSo (given locations) bytes (used_in first) (check_state_of mid) k place rest) (sym state)
        (subst (λ s. ChecksSo (given locations) bytes (used_in first) s v place rest) (sym (same_state c mid same)) (so.checks locations h));
  }

  module _ (c new : Checker) (v w : V) (place next : ℕ) (rest after : List ℕ) (o : RawOperation) (so : SoFar c v place rest) (read : read_operation rest ≡ Ok (o, after)) (taken : IsValidated check v w o limit place) where
    -- the frames of the open sequences
    frames_at : (locations : Option (ℕ → ℕ)) (h : HasLimit limit locations) → AreFrames (env_of_checker c).types (check_state_of c).frames (frames_of (so.checks locations h).layers)
    frames_at locations h = subst (λ e. AreFrames e.types (check_state_of c).frames (frames_of (so.checks locations h).layers)) (sym so.env) (so.checks locations h).frames

    fits : (locations : Option (ℕ → ℕ)) → HasLimit limit locations → has_location locations place ≡ true
    fits locations h = has_fit limit locations place h ∙ taken.fits

    module _ (passes : (fs : List (SequenceFrame Occurrence)) → AreFrames (env_of_checker c).types (check_state_of c).frames fs → Passes (env_of_checker c) (check_state_of c) (check_state_of new) fs o)
        (moved : next + length after ≡ place + length rest) (shorter : length after < length rest) where
      step_on : (locations : Option (ℕ → ℕ)) → HasLimit limit locations →
          ChecksSo (given locations) bytes (used_in first) (check_state_of new) w next after ⊎ ChecksWhole (given locations) bytes (used_in first) (check_state_of new) w next after
      step_on locations h =
          let s = so.checks locations h in
          let p = subst (λ e. Passes e (check_state_of c) (check_state_of new) (frames_of s.layers) o) so.env (passes (frames_of s.layers) (frames_at locations h)) in
          continues (given locations) bytes (used_in first) (check_state_of c) (check_state_of new) v w place next rest after s o p
          (named (given locations) v (frames_of s.layers) place rest o after read (fits locations h) w p.named taken.accepts p.is_named) moved shorter

      -- sequences are open
      pub stays : env_of_checker new ≡ env_of_checker c → new.«open».items ≢ [] → SoFar new w next after
      stays same inside = record {
        env = same ∙ so.env;
        inside = inside;
        checks = λ locations h. elim (step_on locations h) [
          | inl more ↦ more
          | inr whole ↦ absurd (inside (sym (reverse-reverse new.«open».items) ∙ ap reverse whole.none_open))
        ];
      }

      -- the body is complete
      whole_at : new.«open».items ≡ [] → (locations : Option (ℕ → ℕ)) → HasLimit limit locations → ChecksWhole (given locations) bytes (used_in first) (check_state_of new) w next after
      whole_at none locations h = elim (step_on locations h) [
        | inl more ↦ absurd (no_frames (env_of_checker first).types more.layers (subst (λ l. AreFrames (env_of_checker first).types (reverse l) (frames_of more.layers)) none more.frames))
        | inr whole ↦ whole
      ]

      pub completes : new.«open».items ≡ [] → length after ≡ 0 → (locations : Option (ℕ → ℕ)) → HasLimit limit locations → ChecksBody (given locations) bytes first new
      completes none last locations h =
          let k = whole_at none locations h in
          record { operators = k.operators; body = k.body; is_parsed = complete (given locations) bytes k.body w next after k.operators k.reads last; are_read = k.reads.are_read; used = k.used }

      pub goes_past : new.«open».items ≡ [] → 0 < length after → (locations : Option (ℕ → ℕ)) → HasLimit limit locations → parsed_here (given locations) bytes ≡ Err (failure Trailing next)
      goes_past none more locations h = let k = whole_at none locations h in trailing (given locations) bytes k.body w next after k.operators k.reads more

    -- the operator breaks a rule
    pub breaks : (e : ParseError) (some : 0 < length rest) → ((fs : List (SequenceFrame Occurrence)) → AreFrames (env_of_checker c).types (check_state_of c).frames fs → (e ≡ Memory) ⊎ (named_in (env_of_checker c) fs o ≡ Err e)) →
        (f : ParseFailure) → f ≡ failure e place → (f.error ≡ Memory) ⊎ ((locations : Option (ℕ → ℕ)) → HasLimit limit locations → parsed_here (given locations) bytes ≡ Err f)
    breaks e some refuses f is = elim (is_memory e) [
      | inl memory ↦ inl (ap (λ (g : ParseFailure). g.error) is ∙ memory)
      | inr other ↦ inr (λ locations h.
          let s = so.checks locations h in
          elim (refuses (frames_of s.layers) (frames_at locations h)) [
            | inl memory ↦ absurd (other memory)
            | inr broken ↦
                stops (given locations) bytes s.layers s.sequence v place rest s.operators s.reads some e
                (unnamed (given locations) v (frames_of s.layers) place rest o after read (fits locations h) w e taken.accepts (subst (λ k. named_in k (frames_of s.layers) o ≡ Err e) so.env broken))
                ∙ ap Err (sym is)
          ])
    ]

  module _ (c : Checker) (v : V) (place : ℕ) (rest : List ℕ) (so : SoFar c v place rest) where
    -- ---- what isn't read or taken

    -- no bytes remain
    pub missing_end : length rest ≡ 0 → (f : ParseFailure) → f ≡ failure MissingEnd place → (locations : Option (ℕ → ℕ)) → HasLimit limit locations → parsed_here (given locations) bytes ≡ Err f
    missing_end none f is locations h =
        let s = so.checks locations h in missing (given locations) bytes s.layers s.sequence v place rest s.operators s.reads none ∙ ap Err (sym is)

    module _ (some : 0 < length rest) where
      -- the bytes aren't an operator
      pub unreadable : (fault : ReadFault) → read_operation rest ≡ Err fault → (f : ParseFailure) → f ≡ failure (Read (record { fault = fault; at = place })) place →
          (locations : Option (ℕ → ℕ)) → HasLimit limit locations → parsed_here (given locations) bytes ≡ Err f
      unreadable fault read f is locations h =
          let s = so.checks locations h in
          stops (given locations) bytes s.layers s.sequence v place rest s.operators s.reads some (Read (record { fault = fault; at = place })) (unread (given locations) v (frames_of s.layers) place rest fault read)
          ∙ ap Err (sym is)

      module _ (o : RawOperation) (after : List ℕ) (read : read_operation rest ≡ Ok (o, after)) where
        -- the operator isn't taken
        pub untaken : (e : ParseError) → RefusesTaking check v o limit place e → (f : ParseFailure) → f ≡ failure e place →
            (f.error ≡ Memory) ⊎ ((locations : Option (ℕ → ℕ)) → HasLimit limit locations → parsed_here (given locations) bytes ≡ Err f)
        untaken e (inl memory) f is = inl (ap (λ (g : ParseFailure). g.error) is ∙ memory)
        untaken e (inr (inl (error, far))) f is =
            inr (λ locations h.
            let s = so.checks locations h in
            stops (given locations) bytes s.layers s.sequence v place rest s.operators s.reads some e
            (too_great (given locations) v (frames_of s.layers) place rest o after read (has_fit limit locations place h ∙ far) ∙ ap Err (sym error))
            ∙ ap Err (sym is))
        untaken e (inr (inr (n, error, fits, refuses))) f is =
            inr (λ locations h.
            let s = so.checks locations h in
            stops (given locations) bytes s.layers s.sequence v place rest s.operators s.reads some e
            (refused (given locations) v (frames_of s.layers) place rest o after read (has_fit limit locations place h ∙ fits) n refuses ∙ ap Err (sym error))
            ∙ ap Err (sym is))

    -- ---- an operator by itself

    module _ (new : Checker) (x : Listed) (kind : is_instruction x ≡ true) where
      -- sequences stay open
      stays_inside : ((fs : List (SequenceFrame Occurrence)) → AreFrames (env_of_checker c).types (check_state_of c).frames fs → Passes (env_of_checker c) (check_state_of c) (check_state_of new) fs (meaning x)) → new.«open».items ≢ []
      stays_inside passes none =
          let env = env_of_checker c in
          let some = some_locations limit in
          let s = so.checks some.0 some.1 in
          let f = some_frame s.layers in
          let are : AreFrames env.types (check_state_of c).frames (f.0 ∷ f.1) = subst (AreFrames env.types (check_state_of c).frames) f.2 (subst (λ e. AreFrames e.types (check_state_of c).frames (frames_of s.layers)) (sym so.env) s.frames) in
          let p = passes (f.0 ∷ f.1) are in
          let role = fate_of_operator x kind in
          let d = does env f.0 f.1 (meaning x) (makes_unreachable x) role p.named (sym (alone_named env f.0 f.1 (meaning x) (makes_unreachable x) role) ∙ p.is_named) in
          let this = occurrence (meaning x) place 0 p.named in
          subst (λ l. AreFrames env.types (reverse l) (f.0 ∷ f.1)) none (p.frames this refl (f.0 ∷ f.1) (ap (λ k. moves k this (f.0 ∷ f.1)) d.does))

      pub goes_on : (w : V) (next : ℕ) (after : List ℕ) → read_operation rest ≡ Ok (meaning x, after) → ChecksNext check v w limit place c new (meaning x) (Ok tt) →
          next + length after ≡ place + length rest → length after < length rest → SoFar new w next after
      goes_on w next after read (taken, (steps, env)) moved shorter = stays c new v w place next rest after (meaning x) so read taken steps moved shorter env (stays_inside steps)

  -- ---- an operator that is taken at once

  module _ (c new : Checker) (v w : V) (from to : Position) (so : SoFar c v from.place from.rest) where
    pub goes_next : ChecksNextAtOnce check v w limit from.place from to c new (Ok true) → SoFar new w to.place to.rest
    goes_next t = elim t.4 [
      | inl alone ↦ goes_on c v from.place from.rest so new t.0 alone w to.place to.rest t.1 t.3 t.2.0 t.2.1
      | inr inside ↦ stays c new v w from.place to.place from.rest to.rest (meaning t.0) so t.1 t.3.0 t.3.1.0 t.2.0 t.2.1 t.3.1.1 inside
    ]

    -- or that isn't accepted then
    pub goes_no_further : 0 < length from.rest → (e : ParseError) → ChecksNextAtOnce check v w limit from.place from to c new (Err e) → (f : ParseFailure) → f ≡ failure e from.place →
        (f.error ≡ Memory) ⊎ ((locations : Option (ℕ → ℕ)) → HasLimit limit locations → parsed_here (given locations) bytes ≡ Err f)
    goes_no_further some e t f is = untaken c v from.place from.rest so some (meaning t.0) t.1 t.2 e t.3 f is
