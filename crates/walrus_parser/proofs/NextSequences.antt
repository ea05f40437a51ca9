-- The next sequence of a construct, and its end: the state after the calls of the context.
use Rattle.std.proofs.Common.{arith, ◌≡◌, ◌≢◌, ◌<◌, ◌+◌, ℕ, zero, suc, List, [], ◌∷◌, ◌++◌, length, reverse, slice_get, slice_set, true, false, Option, Some, None, is_some, IsSomeAnd, Result, Ok, Err, refl, sym, ap, ◌∙◌, subst}
use Rattle.std.proofs.lemmas.List.{reverse-append}
use Rattle.std.proofs.lemmas.Option.{slice_get_within}
use Rattle.walrus_ir.specs.declared.seq.InstrSeq.{InstrSeq}
use Rattle.walrus_ir.specs.declared.control.BlockKind.TheVariants as kind
use Rattle.walrus_ir.specs.declared.val_type.InstrSeqType.{InstrSeqType}
use Rattle.wasm_types.specs.declared.val_type.ValType.{ValType}
use Rattle.walrus_ir.specs.InstructionSequence.{empty_sequence}
use Rattle.wasm_numbers.specs.Results.{◌>>=◌, unless}
use Rattle.walrus_ir.specs.Types.{existing}
use Rattle.wasm_body.specs.declared.error.ParseError.{ParseError}
use Rattle.wasm_body.specs.declared.error.ParseError.TheVariants.{ElseOutsideIf}
use Rattle.wasm_body.specs.Control.{else_operation}
use Rattle.wasm_body.specs.SourceTree.{Sequence, Empty}
use Rattle.wasm_body.specs.Frames.{OfFunction, else_moves}
use Rattle.wasm_body.specs.Naming.{Environment, NamedOperation, Occurrence, named_in}
use Rattle.wasm_body.specs.Parsing.Progress.{OpenConstruct, InWrapper, InThen, InElse, InTry, InCatch, InCatchAll, Layer, layer, frame_of, frames_of, with_else_open, continue_in}
use Rattle.walrus_context.specs.declared.frame.ControlFrame.{ControlFrame}
use Rattle.walrus_context.specs.declared.frame.IfElseState.{IfElseState}
use Rattle.walrus_context.specs.OpenConstructs.{kind_in}
use Rattle.walrus_context.specs.OpenFrames.{OpenFrame, new_frame}
use Rattle.walrus_context.specs.OpenTrees.{OpenTrees, Opens, Closes, Pops, EndsAt, env_of}
use Rattle.walrus_context.specs.Keeping.{IsWithinFrames, Holds}
use Rattle.walrus_parser.specs.Advancing.{ParseState, Keeps, KeepsProgress, occurrence, Advances}
use Rattle.walrus_parser.specs.BodyParsers.{state_with, with_alternative}
use Rattle.walrus_parser.proofs.ConstructKinds.{by_if}
use Rattle.walrus_parser.proofs.Labels.{some_frame, holds_length}
use Rattle.walrus_parser.proofs.Rules.{named_else}
use Rattle.walrus_parser.proofs.Sealing.{set_written}
use Rattle.walrus_parser.proofs.Steps.{Seals, else_parts}

-- replacing the last item of a list, in terms of the reversed list
record SetLast {A : Type 0} (xs : List A) (i : ℕ) (x y : A) : Type 0 where
  pub others : List A
  pub before : reverse xs ≡ x ∷ others
  pub following : reverse (slice_set xs i y) ≡ y ∷ others

set_last : {A : Type 0} (xs : List A) (i : ℕ) (x y : A) → i + 1 ≡ length xs → slice_get xs i ≡ Some x → SetLast xs i x y
set_last [] i x y long at = absurd (omega arith)
set_last (z ∷ []) zero x y long at = let same : z ≡ x = cc in record { others = []; before = ap (λ w. w ∷ []) same; following = refl }
set_last (z ∷ []) (suc i) x y long at = absurd (omega arith)
set_last (z ∷ w ∷ ws) zero x y long at = absurd (omega arith)
set_last (z ∷ w ∷ ws) (suc i) x y long at =
    let h = set_last (w ∷ ws) i x y (omega arith) at in
    record {
      others = h.others ++ z ∷ [];
      before = reverse-append (z ∷ []) (w ∷ ws) ∙ ap (λ r. r ++ z ∷ []) h.before;
      following = reverse-append (z ∷ []) (slice_set (w ∷ ws) i y) ∙ ap (λ r. r ++ z ∷ []) h.following;
    }

pub alternative_set : (xs : List IfElseState) (i n : ℕ) (x : IfElseState) → i + 1 ≡ length xs → slice_get xs i ≡ Some x → reverse (slice_set xs i (record x { alternative = Some n })) ≡ with_alternative n (reverse xs)
alternative_set xs i n x long at = let h = set_last xs i x (record x { alternative = Some n }) long at in h.following ∙ ap (with_alternative n) (sym h.before)

-- ---- the innermost frame is closed, and its sequence ends at a location

pub seals_end : (old mid end : OpenTrees) (f : OpenFrame) (location : ℕ) → Closes old mid f → EndsAt mid end f.sequence location → Seals old.builder.sequences end.builder.sequences f (Some location)
seals_end old mid end f location h e =
    let b = old.builder.sequences in
    let m = mid.builder.sequences in
    let own : InstrSeq = record h.was { instrs = f.instrs } in
    let seq : InstrSeq = record e.was { end = location } in
    let closed : m ≡ slice_set b f.sequence own = ap (λ (t : OpenTrees). t.builder.sequences) h.is in
    let ended : end.builder.sequences ≡ slice_set m f.sequence seq = ap (λ (t : OpenTrees). t.builder.sequences) e.is in
    let first = set_written b f.sequence own (slice_get_within b f.sequence h.was h.before) in
    let second = set_written m f.sequence seq (slice_get_within m f.sequence e.was e.before) in
    let found : Some e.was ≡ Some own = sym e.before ∙ ap (λ c. slice_get c f.sequence) closed ∙ first.here in
    let same : e.was ≡ own = cc found in
    record {
      was = h.was;
      seq = seq;
      before = h.before;
      written = record {
        here = ap (λ c. slice_get c f.sequence) ended ∙ second.here;
        elsewhere = λ p n. ap (λ c. slice_get c p) ended ∙ second.elsewhere p n ∙ ap (λ c. slice_get c p) closed ∙ first.elsewhere p n;
        as_many = ap length ended ∙ second.as_many ∙ ap length closed ∙ first.as_many;
      };
      same_type = ap (λ (q : InstrSeq). q.ty) same;
      instrs = ap (λ (q : InstrSeq). q.instrs) same;
      end_is = refl;
    }

pub some_is : {A : Type 0} {P : A → Type 0} (o : Option A) → IsSomeAnd o P → (x : A) × (o ≡ Some x) × P x
some_is (Some x) h = (x, refl, h)
some_is None h = absurd h

-- at least one sequence is open
pub some_open : (env : Environment) (p : ParseState) (ls : List (Layer Occurrence)) (s : Sequence Occurrence) → Keeps env p ls s → p.frames ≡ [] → ⊥
some_open env p [] s h e = subst (λ fs. Holds env p.arena [] s (length p.arena) fs p.ifs) e h
some_open env p (l ∷ ls) s h e = subst (λ fs. Holds env p.arena (l ∷ ls) s (length p.arena) fs p.ifs) e h

-- and one around it, if a construct is open
pub some_around : (env : Environment) (p : ParseState) (l : Layer Occurrence) (ls : List (Layer Occurrence)) (s : Sequence Occurrence) (f : OpenFrame) (fs : List OpenFrame) → Keeps env p (l ∷ ls) s → p.frames ≡ f ∷ fs → fs ≢ []
some_around env p l ls s f fs keeps frames none =
    let many : length p.frames ≡ length (frames_of (l ∷ ls)) = holds_length env p.arena (l ∷ ls) s (length p.arena) p.frames p.ifs keeps in
    let shown : length p.frames ≡ length (f ∷ fs) = ap length frames in
    let empty : length fs ≡ 0 = ap length none in
    let more = some_frame ls in
    let sum : length (frames_of (l ∷ ls)) ≡ length (frame_of l.construct ∷ frames_of ls) = refl in
    absurd (omega arith)

-- ---- after the innermost frame is closed

pub popped_in_arena : (old mid : OpenTrees) (c : ControlFrame) (block : ℕ) → Pops old mid c block → block < length mid.builder.sequences
popped_in_arena old mid c block h =
    let closed : mid.builder.sequences ≡ slice_set old.builder.sequences h.frame.sequence (record h.closes.was { instrs = h.frame.instrs }) = ap (λ (t : OpenTrees). t.builder.sequences) h.closes.is in
    let within = slice_get_within old.builder.sequences h.frame.sequence h.closes.was h.closes.before in
    let many : length mid.builder.sequences ≡ length old.builder.sequences = ap length closed ∙ (set_written old.builder.sequences h.frame.sequence (record h.closes.was { instrs = h.frame.instrs }) within).as_many in
    let here = h.is_block in omega arith

module _ (old mid : OpenTrees) (ifs : List IfElseState) (s : Sequence Occurrence) (place location : ℕ) (c : ControlFrame) (block : ℕ) (popped : Pops old mid c block) where
  abbrev f : OpenFrame
  f = popped.frame

  kind_is : f.kind ≡ c.kind
  kind_is = ap (λ (g : OpenFrame). g.kind) popped.shown.is

  starts : f.start_types ≡ c.start_types.items
  starts = ap (λ (g : OpenFrame). g.start_types) popped.shown.is

  ends : f.end_types ≡ c.end_types.items
  ends = ap (λ (g : OpenFrame). g.end_types) popped.shown.is

  abbrev Kept : List (Layer Occurrence) → Type 0
  Kept ls = Keeps (env_of old) (state_with old ifs) ls s

  -- ---- `else`

  pub no_else : c.kind ≢ kind.If → (ls : List (Layer Occurrence)) → Kept ls → named_in (env_of old) (frames_of ls) else_operation ≡ Err ElseOutsideIf
  no_else other [] keeps = named_else (env_of old) OfFunction []
  no_else other (l ∷ ls) keeps = named_else (env_of old) (frame_of l.construct) (frames_of ls)
      ∙ ap (λ b. unless b ElseOutsideIf >>= λ _. let r : Result NamedOperation ParseError = Ok else_operation in r)
      (stays l.construct (subst (λ gs. Holds (env_of old) old.builder.sequences (l ∷ ls) s (length old.builder.sequences) gs ifs) popped.closes.frames keeps).encloses.kind)
    where
      stays : (p : OpenConstruct Occurrence) → f.kind ≡ kind_in p → is_some (else_moves (frame_of p)) ≡ false
      stays (InThen a) e = absurd (other (sym kind_is ∙ e))
      stays (InWrapper a w) e = refl
      stays (InElse a b l) e = refl
      stays (InTry a) e = refl
      stays (InCatch a b gs h t) e = refl
      stays (InCatchAll a b gs h) e = refl

  abbrev Within : Layer Occurrence → List (Layer Occurrence) → OpenConstruct Occurrence → Type 0
  Within l ls p = IsWithinFrames (env_of old) old.builder.sequences (length old.builder.sequences) f mid.frames ifs p s (Holds (env_of old) old.builder.sequences ls l.before)

  module _ (takes gives : List (ValType ℕ)) (takes_is : takes ≡ c.start_types.items) (gives_is : gives ≡ c.end_types.items) where
    abbrev HasPick : Type 0
    HasPick = (t : InstrSeqType) × (existing old.module.types takes gives ≡ Some t)

    -- the state of the open `if`
    pub pick_kept : c.kind ≡ kind.If → (ls : List (Layer Occurrence)) → Kept ls → HasPick
    pick_kept is_if [] keeps =
        let outermost = subst (λ gs. Holds (env_of old) old.builder.sequences [] s (length old.builder.sequences) gs ifs) popped.closes.frames keeps in
        absurd (let q : kind.FunctionEntry ≡ kind.If = sym outermost.kind ∙ kind_is ∙ is_if in cc q)
    pick_kept is_if (l ∷ ls) keeps = by_if (λ p. Within l ls p → HasPick) of_then l.construct (sym inside.encloses.kind ∙ kind_is ∙ is_if) inside
      where
        inside : Within l ls l.construct
        inside = subst (λ gs. Holds (env_of old) old.builder.sequences (l ∷ ls) s (length old.builder.sequences) gs ifs) popped.closes.frames keeps

        of_then : (a : Occurrence) → Within l ls (InThen a) → HasPick
        of_then a h = (h.encloses.takes.1, (λ i. existing old.module.types ((takes_is ∙ sym starts ∙ h.encloses.takes.0) i) ((gives_is ∙ sym ends ∙ h.encloses.gives) i)) ∙ h.encloses.takes.2)

    module _ (end new : OpenTrees) (alternative : ℕ) (is_if : c.kind ≡ kind.If) (ended : EndsAt mid end block location)
        (pushed : IsSomeAnd (existing end.module.types takes gives) (λ t. Opens end new kind.Else t takes gives alternative)) where
      abbrev after : ParseState
      after = state_with new (with_alternative alternative ifs)

      sealed_at : Seals old.builder.sequences end.builder.sequences f (Some location)
      sealed_at = seals_end old mid end f location popped.closes (subst (λ n. EndsAt mid end n location) popped.is_block ended)

      same_module : end.module ≡ old.module
      same_module = ap (λ (t : OpenTrees). t.module) ended.is ∙ ap (λ (t : OpenTrees). t.module) popped.closes.is

      abbrev Continues : Layer Occurrence → List (Layer Occurrence) → OpenConstruct Occurrence → Occurrence → Type 0
      Continues l ls p x = (q : OpenConstruct Occurrence) × (with_else_open p s x ≡ Some q) × Keeps (env_of old) after (layer l.before q ∷ ls) Empty

      pub parts_else : (ls : List (Layer Occurrence)) → Kept ls → Advances (env_of old) after ls s else_operation place location
      parts_else [] keeps =
          let outermost = subst (λ gs. Holds (env_of old) old.builder.sequences [] s (length old.builder.sequences) gs ifs) popped.closes.frames keeps in
          absurd (let q : kind.FunctionEntry ≡ kind.If = sym outermost.kind ∙ kind_is ∙ is_if in cc q)
      parts_else (l ∷ ls) keeps = record {
        named = else_operation;
        is_named = named_else (env_of old) (frame_of l.construct) (frames_of ls) ∙ ap (λ b. unless b ElseOutsideIf >>= λ _. let r : Result NamedOperation ParseError = Ok else_operation in r) (by_if (λ p. is_some (else_moves (frame_of p)) ≡ true) (λ a. refl) l.construct is_if_there);
        keeps = let made = by_if (λ p. Within l ls p → Continues l ls p x) of_then l.construct is_if_there inside in subst (λ o. KeepsProgress (env_of old) after (continue_in ls l.before o)) (sym made.1) made.2;
      }
        where
          x : Occurrence
          x = occurrence else_operation place location else_operation

          inside : Within l ls l.construct
          inside = subst (λ gs. Holds (env_of old) old.builder.sequences (l ∷ ls) s (length old.builder.sequences) gs ifs) popped.closes.frames keeps

          is_if_there : kind_in l.construct ≡ kind.If
          is_if_there = sym inside.encloses.kind ∙ kind_is ∙ is_if

          of_then : (a : Occurrence) → Within l ls (InThen a) → Continues l ls (InThen a) x
          of_then a h =
              let made = some_is (existing end.module.types takes gives) pushed in
              let opens = made.2 in
              let b = end.builder.sequences in
              let g = new_frame kind.Else takes gives alternative in
              let top : IfElseState = record { start = a.location; consequent = f.sequence; alternative = None } in
              let around : end.frames ≡ mid.frames = ap (λ (t : OpenTrees). t.frames) ended.is in
              else_parts (env_of old) (state_with old ifs) l ls s f mid.frames popped.closes.frames keeps (InThen a) after b (empty_sequence (length b) made.0) g x top h.other_ifs
              (kind_is ∙ is_if) h.opens.kept sealed_at
              ((λ i. existing (sym same_module i).types ((starts ∙ sym takes_is) i) ((ends ∙ sym gives_is) i)) ∙ made.1)
              refl
              (ap (λ (t : OpenTrees). t.builder.sequences) opens.is)
              (λ i. new_frame kind.Else ((takes_is ∙ sym starts) i) ((gives_is ∙ sym ends) i) (opens.is_next i))
              (ap (λ (t : OpenTrees). t.frames) opens.is ∙ ap (λ gs. g ∷ gs) around)
              (ap (with_alternative alternative) h.opens.kept)
              h

-- a picked type that exists isn't missing
pub missing : (old mid end : OpenTrees) (block location : ℕ) (c : ControlFrame) → Pops old mid c block → EndsAt mid end block location → (takes gives : List (ValType ℕ)) (t : InstrSeqType) →
    existing old.module.types takes gives ≡ Some t → existing end.module.types takes gives ≡ None → ⊥
missing old mid end block location c popped ended takes gives t some none =
    let same : end.module ≡ old.module = ap (λ (t : OpenTrees). t.module) ended.is ∙ ap (λ (t : OpenTrees). t.module) popped.closes.is in
    let both : Some t ≡ None = sym some ∙ ap (λ m. existing m.types takes gives) (sym same) ∙ none in
    absurd (cc both)
