-- `delegate`: its name or the first rule that it breaks, and the state after the calls of the context.
use Rattle.std.proofs.Common.{arith, ◌≡◌, ◌≢◌, ◌<◌, ◌+◌, ℕ, suc, List, [], ◌∷◌, length, nat_lt, slice_get, Bool, true, false, Option, Some, None, is_some, Result, Ok, Err, refl, sym, ap, ◌∙◌, subst}
use Rattle.std.proofs.lemmas.Option.{slice_get_within}
use Rattle.walrus_ir.specs.declared.control.BlockKind.{BlockKind}
use Rattle.walrus_ir.specs.declared.control.BlockKind.TheVariants as kind
use Rattle.walrus_ir.specs.declared.control.LegacyCatch.TheVariants.{Delegate}
use Rattle.wasm_numbers.specs.Results.{◌>>=◌, some_or, unless}
use Rattle.wasm_body.specs.declared.error.ParseError.{ParseError}
use Rattle.wasm_body.specs.declared.error.ParseError.TheVariants.{DelegateOutsideTry, NoSuchLabel}
use Rattle.wasm_body.specs.Control.{delegate_operation}
use Rattle.wasm_body.specs.Frames.{OfFunction, delegate_moves}
use Rattle.wasm_body.specs.Naming.{NamedOperation, Occurrence, open_label, named_in}
use Rattle.wasm_body.specs.SourceTree.{Sequence}
use Rattle.wasm_body.specs.Parsing.Progress.{OpenConstruct, InWrapper, InThen, InElse, InTry, InCatch, InCatchAll, Layer, frame_of, frames_of, continue_after}
use Rattle.walrus_context.specs.declared.frame.ControlFrame.{ControlFrame}
use Rattle.walrus_context.specs.declared.frame.IfElseState.{IfElseState}
use Rattle.walrus_context.specs.OpenConstructs.{kind_in}
use Rattle.walrus_context.specs.OpenFrames.{OpenFrame, with_clause_around}
use Rattle.walrus_context.specs.OpenTrees.{OpenTrees, Pops, AddsClauseAround, env_of}
use Rattle.walrus_context.specs.Keeping.{IsWithinFrames, Holds}
use Rattle.walrus_context.specs.Placing.{kind_at}
use Rattle.walrus_parser.specs.Advancing.{Keeps, KeepsProgress, occurrence, Advances}
use Rattle.walrus_parser.specs.BodyParsers.{state_with}
use Rattle.walrus_parser.proofs.Handlers.{GetsClause, gets_clause, has_try}
use Rattle.walrus_parser.proofs.ConstructKinds.{by_try}
use Rattle.walrus_parser.proofs.Labels.{get_past, holds_length}
use Rattle.walrus_parser.proofs.NextSequences.{some_open, some_around}
use Rattle.walrus_parser.proofs.Rules.{named_delegate}
use Rattle.walrus_parser.proofs.Sealing.{closes_seals}
use Rattle.walrus_parser.proofs.Steps.{Seals, delegate_ends}

stays : (p : OpenConstruct Occurrence) (fs : List _) → kind_in p ≢ kind.Try → is_some (delegate_moves fs (frame_of p)) ≡ false
stays (InTry a) fs other = absurd (other refl)
stays (InWrapper a w) fs other = refl
stays (InThen a) fs other = refl
stays (InElse a b l) fs other = refl
stays (InCatch a b gs h t) fs other = refl
stays (InCatchAll a b gs h) fs other = refl

kind_there : (fs : List OpenFrame) (n : ℕ) (k : BlockKind) → kind_at fs n ≡ Ok k → n < length fs
kind_there fs n k e = by_frame (slice_get fs n) refl e
  where
    by_frame : (o : Option OpenFrame) → slice_get fs n ≡ o → (some_or o NoSuchLabel >>= λ f. let r : Result BlockKind ParseError = Ok f.kind in r) ≡ Ok k → n < length fs
    by_frame (Some f) is h = slice_get_within fs n f is
    by_frame None is h = absurd cc

kind_missing : (fs : List OpenFrame) (n : ℕ) (e : ParseError) → kind_at fs n ≡ Err e → (e ≡ NoSuchLabel) × (slice_get fs n ≡ None)
kind_missing fs n e is = by_frame (slice_get fs n) refl is
  where
    by_frame : (o : Option OpenFrame) → slice_get fs n ≡ o → (some_or o NoSuchLabel >>= λ f. let r : Result BlockKind ParseError = Ok f.kind in r) ≡ Err e → (e ≡ NoSuchLabel) × (slice_get fs n ≡ None)
    by_frame (Some f) at h = absurd cc
    by_frame None at h = let same : NoSuchLabel ≡ e = cc h in (sym same, at)

module _ (old : OpenTrees) (ifs : List IfElseState) (s : Sequence Occurrence) (place location n : ℕ) where
  abbrev Kept : List (Layer Occurrence) → Type 0
  Kept ls = Keeps (env_of old) (state_with old ifs) ls s

  abbrev Within : OpenFrame → List OpenFrame → Layer Occurrence → List (Layer Occurrence) → OpenConstruct Occurrence → Type 0
  Within f fs l ls p = IsWithinFrames (env_of old) old.builder.sequences (length old.builder.sequences) f fs ifs p s (Holds (env_of old) old.builder.sequences ls l.before)

  within : (f : OpenFrame) (fs : List OpenFrame) (l : Layer Occurrence) (ls : List (Layer Occurrence)) → old.frames ≡ f ∷ fs → Kept (l ∷ ls) → Within f fs l ls l.construct
  within f fs l ls frames keeps = subst (λ gs. Holds (env_of old) old.builder.sequences (l ∷ ls) s (length old.builder.sequences) gs ifs) frames keeps

  -- without an open frame
  pub none_open : (e : ParseError) → kind_at old.frames 0 ≡ Err e → (ls : List (Layer Occurrence)) → Kept ls → ⊥
  none_open e is ls keeps = by_frames old.frames refl
    where
      by_frames : (fs : List OpenFrame) → old.frames ≡ fs → ⊥
      by_frames [] at = some_open (env_of old) (state_with old ifs) ls s keeps at
      by_frames (f ∷ fs) at = let both : Ok f.kind ≡ Err e = ap (λ gs. kind_at gs 0) (sym at) ∙ is in cc both

  -- the innermost frame, with its kind
  record Innermost (k : BlockKind) : Type 0 where
    pub frame : OpenFrame
    pub around : List OpenFrame
    pub frames : old.frames ≡ frame ∷ around
    pub is_kind : frame.kind ≡ k

  innermost : (k : BlockKind) → kind_at old.frames 0 ≡ Ok k → Innermost k
  innermost k is = by_frames old.frames refl
    where
      by_frames : (fs : List OpenFrame) → old.frames ≡ fs → Innermost k
      by_frames [] at = absurd (let both : Err NoSuchLabel ≡ Ok k = ap (λ gs. kind_at gs 0) (sym at) ∙ is in cc both)
      by_frames (f ∷ fs) at = let both : Ok f.kind ≡ Ok k = ap (λ gs. kind_at gs 0) (sym at) ∙ is in let same : f.kind ≡ k = cc both in record { frame = f; around = fs; frames = at; is_kind = same }

  -- the innermost sequence isn't the body of a `try`
  pub no_try_body : (k : BlockKind) → kind_at old.frames 0 ≡ Ok k → k ≢ kind.Try → (ls : List (Layer Occurrence)) → Kept ls → named_in (env_of old) (frames_of ls) (delegate_operation n) ≡ Err DelegateOutsideTry
  no_try_body k is other [] keeps = named_delegate (env_of old) OfFunction [] n
  no_try_body k is other (l ∷ ls) keeps =
      let i = innermost k is in
      let h = within i.frame i.around l ls i.frames keeps in
      named_delegate (env_of old) (frame_of l.construct) (frames_of ls) n
      ∙ ap (λ b. unless b DelegateOutsideTry >>= λ _. open_label (frames_of ls) n >>= λ m. let r : Result NamedOperation ParseError = Ok (delegate_operation m) in r)
      (stays l.construct (frames_of ls) (λ e. other (sym i.is_kind ∙ h.encloses.kind ∙ e)))

  module _ (is_try : kind_at old.frames 0 ≡ Ok kind.Try) where
    in_try : Innermost kind.Try
    in_try = innermost kind.Try is_try

    abbrev f : OpenFrame
    f = in_try.frame

    abbrev fs : List OpenFrame
    fs = in_try.around

    not_outermost : Kept [] → ⊥
    not_outermost keeps =
        let outermost = subst (λ gs. Holds (env_of old) old.builder.sequences [] s (length old.builder.sequences) gs ifs) in_try.frames keeps in
        let no : kind.FunctionEntry ≡ kind.Try = sym outermost.kind ∙ in_try.is_kind in absurd (cc no)

    module _ (l : Layer Occurrence) (ls : List (Layer Occurrence)) (keeps : Kept (l ∷ ls)) where
      many : length old.frames ≡ suc (length (frames_of ls))
      many = holds_length (env_of old) old.builder.sequences (l ∷ ls) s (length old.builder.sequences) old.frames ifs keeps

      named_as : (b : Bool) → nat_lt n (length (frames_of ls)) ≡ b → named_in (env_of old) (frames_of (l ∷ ls)) (delegate_operation n) ≡ (unless b NoSuchLabel >>= λ u. Ok (delegate_operation n))
      named_as b e =
          let h = within f fs l ls in_try.frames keeps in
          named_delegate (env_of old) (frame_of l.construct) (frames_of ls) n
          ∙ ap (λ q. unless q DelegateOutsideTry >>= λ _. open_label (frames_of ls) n >>= λ m. let r : Result NamedOperation ParseError = Ok (delegate_operation m) in r)
          (by_try (λ p. is_some (delegate_moves (frames_of ls) (frame_of p)) ≡ true) (λ a. refl) l.construct (sym h.encloses.kind ∙ in_try.is_kind))
          ∙ by_test b e
        where
          by_test : (b : Bool) → nat_lt n (length (frames_of ls)) ≡ b → (open_label (frames_of ls) n >>= λ m. let r : Result NamedOperation ParseError = Ok (delegate_operation m) in r) ≡ (unless b NoSuchLabel >>= λ u. Ok (delegate_operation n))
          by_test true q = rw q refl
          by_test false q = rw q refl

    -- the label isn't that of an open construct
    pub no_depth : (e : ParseError) → kind_at old.frames (n + 1) ≡ Err e → (ls : List (Layer Occurrence)) → Kept ls → named_in (env_of old) (frames_of ls) (delegate_operation n) ≡ Err e
    no_depth e is [] keeps = absurd (not_outermost keeps)
    no_depth e is (l ∷ ls) keeps =
        let missing = kind_missing old.frames (n + 1) e is in
        let past = get_past old.frames (n + 1) missing.1 in
        let long = many l ls keeps in
        let closed : nat_lt n (length (frames_of ls)) ≡ false = grind arith in
        named_as l ls keeps false closed ∙ ap Err (sym missing.0)

    -- the frame around can take the clause
    pub delegates_to : (e : ParseError) → with_clause_around (Delegate n) old.frames ≡ Err e → (ls : List (Layer Occurrence)) → Kept ls → ⊥
    delegates_to e refused [] keeps = not_outermost keeps
    delegates_to e refused (l ∷ ls) keeps =
        let h = within f fs l ls in_try.frames keeps in
        by_try (λ p. Within f fs l ls p → ⊥)
        (λ a i. has_try (Delegate n) f fs i.outside i.opens.0.opener e (some_around (env_of old) (state_with old ifs) l ls s f fs keeps in_try.frames) i.opens.0.frames i.opens.0.is_opener (ap (with_clause_around (Delegate n)) (sym in_try.frames) ∙ refused))
        l.construct (sym h.encloses.kind ∙ in_try.is_kind) h

    module _ (mid : OpenTrees) (added : AddsClauseAround (Delegate n) old mid) where
      gets : GetsClause (Delegate n) f fs mid.frames
      gets = gets_clause (Delegate n) f fs mid.frames (ap (with_clause_around (Delegate n)) (sym in_try.frames) ∙ added.0)

      pub still_open : mid.frames ≡ [] → ⊥
      still_open none = let both : f ∷ gets.around ≡ [] = sym gets.are ∙ none in cc both

      module _ (k : BlockKind) (there : kind_at old.frames (n + 1) ≡ Ok k) (new : OpenTrees) (c : ControlFrame) (block : ℕ) (popped : Pops mid new c block) where
        pub ends_delegate : (ls : List (Layer Occurrence)) → Kept ls → Advances (env_of old) (state_with new ifs) ls s (delegate_operation n) place location
        ends_delegate [] keeps = absurd (not_outermost keeps)
        ends_delegate (l ∷ ls) keeps =
            let within_frames = kind_there old.frames (n + 1) k there in
            let long = many l ls keeps in
            let is_open : nat_lt n (length (frames_of ls)) ≡ true = grind arith in
            let h = within f fs l ls in_try.frames keeps in
            let both : popped.frame ∷ new.frames ≡ f ∷ gets.around = sym popped.closes.frames ∙ gets.are in
            let first : popped.frame ≡ f = cc both in
            let rest : new.frames ≡ gets.around = cc both in
            let same_arena : mid.builder.sequences ≡ old.builder.sequences = ap (λ (t : OpenTrees). t.builder.sequences) added.1 in
            let seals : Seals old.builder.sequences new.builder.sequences f None =
            subst (λ g. Seals old.builder.sequences new.builder.sequences g None) first
            (subst (λ b. Seals b new.builder.sequences popped.frame None) same_arena (closes_seals mid new popped.frame popped.closes)) in
            let x = occurrence (delegate_operation n) place location (delegate_operation n) in
            let made = delegate_ends (env_of old) (state_with old ifs) l ls s f fs in_try.frames keeps l.construct (state_with new ifs) gets.around x n in_try.is_kind seals rest refl gets.adds h in
            record {
              named = delegate_operation n;
              is_named = named_as l ls keeps true is_open;
              keeps = subst (λ o. KeepsProgress (env_of old) (state_with new ifs) (continue_after ls l.before o)) (sym made.1) made.2;
            }
