-- A body that is checked so far, and one operator more.
use Rattle.std.proofs.Common.{◌≡◌, ◌⊎◌, inl, inr, ℕ, ◌+◌, ◌<◌, List, [], ◌∷◌, ◌++◌, length, map, Bool, true, false, Some, None, Ok, refl, sym, ap, subst, ◌∙◌, append-nil, arith}
use Rattle.std.specs.Prelude.{◌||◌}
use Rattle.std.proofs.lemmas.List.{map-append}
use Rattle.std.proofs.lemmas.List.Folds.{list_any-append}
use Rattle.walrus_ir.specs.Unfolding.{among}
use Rattle.wasm_operators.specs.Operations.{RawOperation}
use Rattle.wasm_body.specs.Control.{Marked, control_of}
use Rattle.wasm_body.specs.SourceTree.{Sequence, Body}
use Rattle.wasm_body.specs.Frames.{moves}
use Rattle.wasm_body.specs.Naming.{Occurrence}
use Rattle.wasm_body.specs.NormalForm.{name_at}
use Rattle.wasm_body.specs.TextLaws.{mark_named}
use Rattle.wasm_body.specs.Parsing.Accepted.{mark, location_at, Setting, handled}
use Rattle.wasm_body.specs.Parsing.Progress.{Layer, Progress, Within, Whole, NoBody, frames_of, further}
use Rattle.wasm_body.proofs.Structure.ReadFrames.{progress_frames, further_frames, may_move}
use Rattle.wasm_body.proofs.Parsing.NamingLemmas.{named_is_allowed}
use Rattle.walrus_parser.specs.Advancing.{occurrence}
use Rattle.wasm_body.specs.Flat.{Named, Unreachability, first_unreachability, unreachability_after, live_locals, locals_read, unreachability_behind}
use Rattle.wasm_body.proofs.Flat.Fronts.{locals-append, unreachability-append}
use Rattle.walrus_flat.specs.declared.open_sequence.OpenSequence.{OpenSequence}
use Rattle.walrus_flat.specs.Checked.{AreFrames, CheckState, unreachability_of, marks, Passes}
use Rattle.walrus_flat.proofs.CheckedFronts.{ReadsSo, goes_over}

swap : (a b c : Bool) → (a || (b || c)) ≡ ((b || a) || c)
swap true true c = refl
swap true false c = refl
swap false true c = refl
swap false false c = refl

module _ {V : Type 0} (given : Setting V) (bytes : List ℕ) (before : ℕ → Bool) where
  -- the locals that live operators named, and those before
  abbrev pub names_so : List Occurrence → ℕ → Bool
  names_so operators x = among x (locals_read first_unreachability (marks operators)) || before x

  -- These operators were read, and sequences are open.
  pub record ChecksSo (s : CheckState) (v : V) (place : ℕ) (rest : List ℕ) : Type 0 where
    pub operators : List Occurrence
    pub layers : List (Layer Occurrence)
    pub sequence : Sequence Occurrence
    pub reads : ReadsSo given bytes (Within layers sequence) v place rest operators
    pub frames : AreFrames given.environment.types s.frames (frames_of layers)
    pub unreachable : unreachability_of s ≡ unreachability_behind first_unreachability (marks operators)
    pub used : (x : ℕ) → s.used x ≡ names_so operators x

  -- These operators were read, and are a body.
  pub record ChecksWhole (s : CheckState) (v : V) (place : ℕ) (rest : List ℕ) : Type 0 where
    pub operators : List Occurrence
    pub body : Body Occurrence
    pub reads : ReadsSo given bytes (Whole body) v place rest operators
    pub none_open : s.frames ≡ []
    pub used : (x : ℕ) → s.used x ≡ names_so operators x

  marks_more : (xs : List Occurrence) (x : Occurrence) → marks (xs ++ x ∷ []) ≡ marks xs ++ mark_named (name_at x) ∷ []
  marks_more xs x = ap (map mark_named) (map-append name_at xs (x ∷ [])) ∙ map-append mark_named (map name_at xs) (name_at x ∷ [])

  module _ (s new : CheckState) (v w : V) (place next : ℕ) (rest after : List ℕ) (so : ChecksSo s v place rest) (o : RawOperation) (passes : Passes given.environment s new (frames_of so.layers) o) where
    abbrev this : Occurrence
    this = occurrence o place (location_at given.locations place) passes.named

    abbrev one : Marked Named
    one = mark_named (name_at this)

    unreachable_more : unreachability_of new ≡ unreachability_behind first_unreachability (marks (so.operators ++ this ∷ []))
    unreachable_more =
        passes.unreachable
        ∙ (ap (λ d. unreachability_after d (control_of passes.named)) so.unreachable
        ∙ (sym (unreachability-append (marks so.operators) (one ∷ []) first_unreachability) ∙ ap (unreachability_behind first_unreachability) (sym (marks_more so.operators this))))

    used_more : (x : ℕ) → new.used x ≡ names_so (so.operators ++ this ∷ []) x
    used_more x =
        let d = unreachability_behind first_unreachability (marks so.operators) in
        let here : live_locals s.unreachable one ≡ live_locals d.unreachable one = ap (λ (k : Unreachability). live_locals k.unreachable one) so.unreachable in
        let all : locals_read first_unreachability (marks (so.operators ++ this ∷ [])) ≡ locals_read first_unreachability (marks so.operators) ++ live_locals d.unreachable one =
        ap (locals_read first_unreachability) (marks_more so.operators this)
        ∙ (locals-append (marks so.operators) (one ∷ []) first_unreachability ∙ ap (λ l. locals_read first_unreachability (marks so.operators) ++ l) (append-nil (live_locals d.unreachable one))) in
        let parts : among x (locals_read first_unreachability (marks (so.operators ++ this ∷ []))) ≡ (among x (locals_read first_unreachability (marks so.operators)) || among x (live_locals d.unreachable one)) =
        ap (among x) all ∙ list_any-append _ (locals_read first_unreachability (marks so.operators)) (live_locals d.unreachable one) in
        passes.used this.location x
        ∙ (ap (λ l. among x l || s.used x) here
        ∙ (ap (λ b. among x (live_locals d.unreachable one) || b) (so.used x)
        ∙ (swap (among x (live_locals d.unreachable one)) (among x (locals_read first_unreachability (marks so.operators))) (before x) ∙ ap (λ b. b || before x) (sym parts))))

    frames_more : progress_frames (further (Within so.layers so.sequence) (mark this)) ≡ moves (control_of passes.named) this (frames_of so.layers)
    frames_more = further_frames (Within so.layers so.sequence) (mark this)

    -- sequences are open, or the body is complete
    pub continues : handled given v (frames_of so.layers) place rest ≡ Ok (record { operator = this; rest = after; state = w }) →
        next + length after ≡ place + length rest → length after < length rest → ChecksSo new w next after ⊎ ChecksWhole new w next after
    continues is moved shorter = by_progress (further (Within so.layers so.sequence) (mark this)) refl
      where
        reads : ReadsSo given bytes (further (Within so.layers so.sequence) (mark this)) w next after (so.operators ++ this ∷ [])
        reads = goes_over given bytes so.layers so.sequence v place rest so.operators so.reads (some rest shorter) this next after w is moved shorter
          where
            some : (bs : List ℕ) → length after < length bs → 0 < length bs
            some bs h = omega arith

        by_progress : (p : Progress Occurrence) → further (Within so.layers so.sequence) (mark this) ≡ p → ChecksSo new w next after ⊎ ChecksWhole new w next after
        by_progress (Within ls t) e =
            inl (record {
              operators = so.operators ++ this ∷ [];
              layers = ls;
              sequence = t;
              reads = subst (λ p. ReadsSo given bytes p w next after (so.operators ++ this ∷ [])) e reads;
              frames = passes.frames this refl (frames_of ls) (sym frames_more ∙ ap progress_frames e);
              unreachable = unreachable_more;
              used = used_more;
            })
        by_progress (Whole b) e =
            inr (record {
              operators = so.operators ++ this ∷ [];
              body = b;
              reads = subst (λ p. ReadsSo given bytes p w next after (so.operators ++ this ∷ [])) e reads;
              none_open = none new.frames (passes.frames this refl [] (sym frames_more ∙ ap progress_frames e));
              used = used_more;
            })
          where
            none : (fs : List OpenSequence) → AreFrames given.environment.types fs [] → fs ≡ []
            none [] h = refl
            none (f ∷ fs) h = absurd h
        by_progress NoBody e =
            let may = may_move (control_of passes.named) this (frames_of so.layers) (named_is_allowed given.environment (frames_of so.layers) o passes.named passes.is_named) in
            let both : None ≡ Some may.0 = sym (ap progress_frames e) ∙ (frames_more ∙ may.1) in absurd cc
