-- The end of a construct: the state after the calls of the context.
use Rattle.std.proofs.Common.{arith, Bool, true, ◌≤◌, ◌≡◌, ◌≢◌, ◌⊎◌, inl, inr, ◌<◌, OnOk, IfErr, Result, Ok, Err, ℕ, List, [], ◌∷◌, length, reverse, Option, Some, None, IsSomeAnd, refl, sym, ap, ◌∙◌, subst}
use Rattle.walrus_ir.specs.declared.seq.InstrSeq.{InstrSeq}
use Rattle.walrus_ir.specs.declared.control.BlockKind.{BlockKind}
use Rattle.walrus_ir.specs.declared.control.BlockKind.TheVariants as kind
use Rattle.walrus_ir.specs.declared.val_type.InstrSeqType.{InstrSeqType}
use Rattle.wasm_types.specs.declared.val_type.ValType.{ValType}
use Rattle.walrus_ir.specs.InstructionSequence.{empty_sequence}
use Rattle.walrus_ir.specs.Types.{existing}
use Rattle.walrus_ir.specs.Unfolding.{LocatedInstr}
use Rattle.wasm_body.specs.declared.error.ParseError.{ParseError}
use Rattle.wasm_body.specs.declared.error.ParseError.TheVariants.{Memory, NoFrame}
use Rattle.wasm_body.specs.Control.{end_operation}
use Rattle.wasm_body.specs.SourceTree.{Sequence}
use Rattle.wasm_body.specs.Naming.{Occurrence}
use Rattle.wasm_body.specs.NormalForm.{typing_of, normal_form, named_body}
use Rattle.wasm_body.specs.TreeOfFunction.{HasTree}
use Rattle.wasm_body.specs.Parsing.Progress.{OpenConstruct, InThen, Layer, append, closed, frame_of, frames_of}
use Rattle.walrus_context.specs.declared.frame.ControlFrame.{ControlFrame}
use Rattle.walrus_context.specs.declared.frame.IfElseState.{IfElseState}
use Rattle.walrus_parser.specs.declared.body_parser.BodyParser.{BodyParser}
use Rattle.walrus_parser.specs.Advancing.{ParseState, Keeps, occurrence, Advances, IsStep}
use Rattle.walrus_context.specs.Keeping.{IsWithinFrames, Holds}
use Rattle.walrus_context.specs.OpenConstructs.{kind_in}
use Rattle.walrus_context.specs.OpenFrames.{OpenFrame, changed_at, marked_unreachable, with_instr}
use Rattle.walrus_context.specs.OpenTrees.{OpenTrees, Pops, EndsAt, env_of, AddsEmpty}
use Rattle.walrus_parser.specs.BodyParsers.{AppendsIf, HasNoIf, either, if_else, state_with, with_appended}
use Rattle.walrus_parser.proofs.ConstructKinds.{by_if, by_else}
use Rattle.walrus_parser.proofs.Labels.{holds_length}
use Rattle.walrus_parser.proofs.Openings.{reverse_last}
use Rattle.walrus_parser.proofs.NextSequences.{seals_end, some_around}
use Rattle.walrus_parser.proofs.Rules.{named_end}
use Rattle.walrus_parser.proofs.Steps.{Seals, ended, chosen, chosen_alone, ends_body}

-- ---- the frame of a construct is closed

module _ (old mid end : OpenTrees) (ifs : List IfElseState) (s : Sequence Occurrence) (place location : ℕ) (c : ControlFrame) (block : ℕ) (popped : Pops old mid c block) (ended_at : EndsAt mid end block location)
    (l : Layer Occurrence) (ls : List (Layer Occurrence)) (keeps : Keeps (env_of old) (state_with old ifs) (l ∷ ls) s) where
  abbrev f : OpenFrame
  f = popped.frame

  kind_is : f.kind ≡ c.kind
  kind_is = ap (λ (g : OpenFrame). g.kind) popped.shown.is

  abbrev Within : OpenConstruct Occurrence → Type 0
  Within p = IsWithinFrames (env_of old) old.builder.sequences (length old.builder.sequences) f mid.frames ifs p s (Holds (env_of old) old.builder.sequences ls l.before)

  inside : Within l.construct
  inside = subst (λ gs. Holds (env_of old) old.builder.sequences (l ∷ ls) s (length old.builder.sequences) gs ifs) popped.closes.frames keeps

  abbrev x : Occurrence
  x = occurrence end_operation place location end_operation

  sealed_at : Seals old.builder.sequences end.builder.sequences f (Some location)
  sealed_at = seals_end old mid end f location popped.closes (subst (λ n. EndsAt mid end n location) popped.is_block ended_at)

  frames_end : end.frames ≡ mid.frames
  frames_end = ap (λ (t : OpenTrees). t.frames) ended_at.is

  advances : (new : ParseState) → Keeps (env_of old) new ls (append l.before (closed l.construct s x)) → Advances (env_of old) new (l ∷ ls) s end_operation place location
  advances new h = record { named = end_operation; is_named = named_end (env_of old) (frame_of l.construct) (frames_of ls); keeps = h }

  -- a construct whose instruction is already there
  pub ends_plain : c.kind ≢ kind.If → c.kind ≢ kind.Else → Advances (env_of old) (state_with end ifs) (l ∷ ls) s end_operation place location
  ends_plain not_if not_else = advances (state_with end ifs)
      (ended (env_of old) (state_with old ifs) l ls s f mid.frames popped.closes.frames keeps l.construct (state_with end ifs) x (λ e. not_if (sym kind_is ∙ e)) (λ e. not_else (sym kind_is ∙ e)) sealed_at frames_end refl inside)

  -- an `if` with an alternative
  pub ends_else : c.kind ≡ kind.Else → (top : IfElseState) (others : List IfElseState) (id : ℕ) (new : OpenTrees) → ifs ≡ top ∷ others → top.alternative ≡ Some id →
      new ≡ record end { frames = changed_at 0 (with_instr (if_else top.consequent id top.start)) end.frames } → Advances (env_of old) (state_with new others) (l ∷ ls) s end_operation place location
  ends_else is_else top others id new ifs_are has new_is =
      let at : OpenTrees = record end { frames = changed_at 0 (with_instr (if_else top.consequent id top.start)) end.frames } in
      subst (λ n. Advances (env_of old) (state_with n others) (l ∷ ls) s end_operation place location) (sym new_is) (advances (state_with at others)
      (chosen (env_of old) (state_with old ifs) l ls s f mid.frames popped.closes.frames keeps l.construct (state_with at others) x top others id (kind_is ∙ is_else) ifs_are has sealed_at
      (ap (changed_at 0 (with_instr (if_else top.consequent id top.start))) frames_end) refl inside))

  is_kind : (k : BlockKind) → c.kind ≡ k → kind_in l.construct ≡ k
  is_kind k e = sym inside.encloses.kind ∙ kind_is ∙ e

  -- an `if` without an alternative
  module _ (takes gives : List (ValType ℕ)) (takes_is : takes ≡ c.start_types.items) (gives_is : gives ≡ c.end_types.items) where
    pub ends_if : c.kind ≡ kind.If → (top : IfElseState) (others : List IfElseState) (t : InstrSeqType) (id : ℕ) (m new : OpenTrees) → ifs ≡ top ∷ others → existing end.module.types takes gives ≡ Some t → AddsEmpty end m t id →
        new ≡ record m { frames = changed_at 0 (with_instr (if_else top.consequent id top.start)) m.frames } → Advances (env_of old) (state_with new others) (l ∷ ls) s end_operation place location
    ends_if is_if top others t id m new ifs_are picks adds new_is = advances (state_with new others) (by_if (λ p. Within p → Keeps (env_of old) (state_with new others) ls (append l.before (closed p s x))) of_then l.construct (is_kind kind.If is_if) inside)
      where
        xs : List InstrSeq
        xs = end.builder.sequences

        other : InstrSeq
        other = empty_sequence (length xs) t

        same_module : end.module ≡ old.module
        same_module = ap (λ (z : OpenTrees). z.module) ended_at.is ∙ ap (λ (z : OpenTrees). z.module) popped.closes.is

        of_then : (a : Occurrence) → Within (InThen a) → Keeps (env_of old) (state_with new others) ls (append l.before (closed (InThen a) s x))
        of_then a h =
            let same : top ∷ others ≡ record { start = a.location; consequent = f.sequence; alternative = None } ∷ h.other_ifs = sym ifs_are ∙ h.opens.kept in
            let first : top ≡ record { start = a.location; consequent = f.sequence; alternative = None } = cc same in
            let starts : f.start_types ≡ takes = ap (λ (g : OpenFrame). g.start_types) popped.shown.is ∙ sym takes_is in
            let ends : f.end_types ≡ gives = ap (λ (g : OpenFrame). g.end_types) popped.shown.is ∙ sym gives_is in
            chosen_alone (env_of old) (state_with old ifs) l ls s f mid.frames popped.closes.frames keeps (InThen a) (state_with new others) xs other x top others (kind_is ∙ is_if) ifs_are sealed_at
            ((λ i. existing (sym same_module i).types (starts i) (ends i)) ∙ picks) refl refl
            (ap (λ (z : OpenTrees). z.builder.sequences) new_is ∙ ap (λ (z : OpenTrees). z.builder.sequences) adds.is)
            (ap (λ (z : OpenTrees). z.frames) new_is
            ∙ (λ i. changed_at 0 (with_instr (if_else (first i).consequent (adds.is_next i) top.start)) ((ap (λ (z : OpenTrees). z.frames) adds.is ∙ frames_end) i)))
            refl h

  -- ---- what always exists

  -- the `if` of the frame
  record HasIf : Type 0 where
    pub top : IfElseState
    pub others : List IfElseState
    pub are : ifs ≡ top ∷ others
    pub alternative : c.kind ≡ kind.Else → (n : ℕ) × (top.alternative ≡ Some n)

  has_if : (c.kind ≡ kind.If) ⊎ (c.kind ≡ kind.Else) → HasIf
  has_if (inl is_if) = by_if (λ p. Within p → HasIf) of_then l.construct (is_kind kind.If is_if) inside
    where
      of_then : (a : Occurrence) → Within (InThen a) → HasIf
      of_then a h = record {
        top = record { start = a.location; consequent = f.sequence; alternative = None };
        others = h.other_ifs;
        are = h.opens.kept;
        alternative = λ e. absurd (let q : kind.If ≡ kind.Else = sym is_if ∙ e in cc q);
      }
  has_if (inr is_else) =
      by_else (λ p. Within p → HasIf)
      (λ a b n h. record { top = record { start = a.location; consequent = h.opens.consequent; alternative = Some f.sequence }; others = h.other_ifs; are = h.opens.kept; alternative = λ e. (f.sequence, refl) })
      l.construct (is_kind kind.Else is_else) inside

  -- ---- appending the instruction of the `if`

  -- appending is never refused because there is no `if`
  absurd_if : (k : (c.kind ≡ kind.If) ⊎ (c.kind ≡ kind.Else)) (p : BodyParser) → reverse p.if_else.items ≡ ifs → p.context.frames ≡ mid.frames → (alternative : Option ℕ) → (c.kind ≡ kind.If → (n : ℕ) × (alternative ≡ Some n)) → HasNoIf p alternative → ⊥
  absurd_if k p same frames alternative given (inl none) =
      let h = has_if k in
      let q : [] ≡ h.top ∷ h.others = ap reverse (sym none) ∙ same ∙ h.are in cc q
  absurd_if k p same frames alternative given (inr (inl h)) =
      let own = has_if k in
      let ifs_are : own.top ∷ own.others ≡ h.top ∷ reverse h.front = sym own.are ∙ sym same ∙ ap reverse h.ifs ∙ reverse_last h.front h.top in
      let first : own.top ≡ h.top = cc ifs_are in
      by_kind k first h.none
    where
      by_kind : (c.kind ≡ kind.If) ⊎ (c.kind ≡ kind.Else) → (has_if k).top ≡ h.top → either alternative h.top.alternative ≡ None → ⊥
      by_kind (inl is) e none = let n = given is in let q : Some n.0 ≡ None = ap (λ a. either a h.top.alternative) (sym n.1) ∙ none in cc q
      by_kind (inr is) e none = by_given alternative none
        where
          by_given : (a : Option ℕ) → either a h.top.alternative ≡ None → ⊥
          by_given (Some n) q = cc q
          by_given None q = let n = (has_if k).alternative is in let r : Some n.0 ≡ None = sym n.1 ∙ ap (λ (t : IfElseState). t.alternative) e ∙ q in cc r
  absurd_if k p same frames alternative given (inr (inr none)) = some_around (env_of old) (state_with old ifs) l ls s f mid.frames keeps popped.closes.frames (sym frames ∙ none)

  -- after an alternative
  pub steps_else : c.kind ≡ kind.Else → (p q : BodyParser) → p.context ≡ end → reverse p.if_else.items ≡ ifs → (r : Result (Unit {0}) ParseError) → OnOk r (AppendsIf p q None) → IfErr r (λ e. (e ≡ Memory) ⊎ HasNoIf p None) →
      IsStep (env_of old) (state_with q.context (reverse q.if_else.items)) (l ∷ ls) s end_operation place location r
  steps_else is_else p q at same (Ok u) ok err =
      ends_else is_else ok.top (reverse q.if_else.items) ok.id q.context (sym same ∙ ap reverse ok.popped ∙ reverse_last q.if_else.items ok.top) ok.chosen
      (ok.is ∙ ap (λ (z : OpenTrees). record z { frames = changed_at 0 (with_instr (if_else ok.top.consequent ok.id ok.top.start)) z.frames }) at)
  steps_else is_else p q at same (Err e) ok (inl is) = inl is
  steps_else is_else p q at same (Err e) ok (inr lacks) =
      absurd (absurd_if (inr is_else) p same (ap (λ (z : OpenTrees). z.frames) at ∙ frames_end) None (λ is_if. absurd (let k : kind.If ≡ kind.Else = sym is_if ∙ is_else in cc k)) lacks)

  -- after a consequent
  pub steps_if_alone : c.kind ≡ kind.If → (takes gives : List (ValType ℕ)) → takes ≡ c.start_types.items → gives ≡ c.end_types.items → (id : ℕ) (p q : BodyParser) → IsSomeAnd (existing end.module.types takes gives) (λ t. AddsEmpty end p.context t id) →
      reverse p.if_else.items ≡ ifs → (r : Result (Unit {0}) ParseError) → OnOk r (AppendsIf p q (Some id)) → IfErr r (λ e. (e ≡ Memory) ⊎ HasNoIf p (Some id)) →
      IsStep (env_of old) (state_with q.context (reverse q.if_else.items)) (l ∷ ls) s end_operation place location r
  steps_if_alone is_if takes gives takes_is gives_is id p q added same r ok err = of_pick (existing end.module.types takes gives) refl added r ok err
    where
      of_pick : (o : Option InstrSeqType) → existing end.module.types takes gives ≡ o → IsSomeAnd o (λ t. AddsEmpty end p.context t id) → (r : Result (Unit {0}) ParseError) → OnOk r (AppendsIf p q (Some id)) → IfErr r (λ e. (e ≡ Memory) ⊎ HasNoIf p (Some id)) →
          IsStep (env_of old) (state_with q.context (reverse q.if_else.items)) (l ∷ ls) s end_operation place location r
      of_pick None e a r ok err = absurd a
      of_pick (Some t) e a (Ok u) ok err =
          let same_id : id ≡ ok.id = (let k : Some id ≡ Some ok.id = ok.chosen in cc k) in
          ends_if takes gives takes_is gives_is is_if ok.top (reverse q.if_else.items) t id p.context q.context (sym same ∙ ap reverse ok.popped ∙ reverse_last q.if_else.items ok.top) e a
          (ok.is ∙ ap (λ n. record p.context { frames = changed_at 0 (with_instr (if_else ok.top.consequent n ok.top.start)) p.context.frames }) (sym same_id))
      of_pick (Some t) e a (Err fault) ok (inl is) = inl is
      of_pick (Some t) e a (Err fault) ok (inr lacks) =
          absurd (absurd_if (inl is_if) p same (ap (λ (z : OpenTrees). z.frames) a.is ∙ frames_end) (Some id) (λ k. (id, refl)) lacks)

-- ---- an `end` inside a construct

-- if two frames are open, the innermost is that of a construct
pub of_layers : (old : OpenTrees) (ifs : List IfElseState) (P : List (Layer Occurrence) → Sequence Occurrence → Type 0) → 1 < length old.frames →
    ((l : Layer Occurrence) (ls : List (Layer Occurrence)) (s : Sequence Occurrence) → Keeps (env_of old) (state_with old ifs) (l ∷ ls) s → P (l ∷ ls) s) → (ls : List (Layer Occurrence)) (s : Sequence Occurrence) → Keeps (env_of old) (state_with old ifs) ls s → P ls s
of_layers old ifs P many go [] s keeps =
    let one : length old.frames ≡ 1 = holds_length (env_of old) old.builder.sequences [] s (length old.builder.sequences) old.frames ifs keeps in absurd (omega arith)
of_layers old ifs P many go (l ∷ ls) s keeps = go l ls s keeps

-- ---- the function's own `end`

pub finishes : (old mid end : OpenTrees) (ifs : List IfElseState) (s : Sequence Occurrence) (e : Occurrence) (location : ℕ) (c : ControlFrame) (block : ℕ) → Pops old mid c block → EndsAt mid end block location → e.location ≡ location →
    Keeps (env_of old) (state_with old ifs) [] s → HasTree end.builder.sequences 0 (normal_form (typing_of (env_of old)) (named_body (record { sequence = s; close = e })))
finishes old mid end ifs s e location c block h ended_at here keeps =
    ends_body (env_of old) old.builder.sequences end.builder.sequences h.frame mid.frames ifs s e
    (subst (λ n. Seals old.builder.sequences end.builder.sequences h.frame (Some n)) (sym here) (seals_end old mid end h.frame location h.closes (subst (λ n. EndsAt mid end n location) h.is_block ended_at)))
    (subst (λ gs. Holds (env_of old) old.builder.sequences [] s (length old.builder.sequences) gs ifs) h.closes.frames keeps)

-- ---- an instruction, and what follows it

module _ (a b n : OpenTrees) (x : LocatedInstr) (unreachable_after : Bool) (r : Result (Unit {0}) ParseError) (unreachable_there : unreachable_after ≡ true) (some : 0 < length a.frames) (appended : b ≡ record a { frames = changed_at 0 (with_instr x) a.frames }) where
  both : (fs : List OpenFrame) → changed_at 0 marked_unreachable (changed_at 0 (with_instr x) fs) ≡ changed_at 0 (with_appended x unreachable_after) fs
  both [] = refl
  both (f ∷ fs) = rw unreachable_there refl

  pub appends_ok : OnOk r ((0 < length b.frames) × (n ≡ record b { frames = changed_at 0 marked_unreachable b.frames })) → OnOk r ((0 < length a.frames) × (n ≡ record a { frames = changed_at 0 (with_appended x unreachable_after) a.frames }))
  appends_ok = of_result r
    where
      of_result : (q : Result (Unit {0}) ParseError) → OnOk q ((0 < length b.frames) × (n ≡ record b { frames = changed_at 0 marked_unreachable b.frames })) → OnOk q ((0 < length a.frames) × (n ≡ record a { frames = changed_at 0 (with_appended x unreachable_after) a.frames }))
      of_result (Ok u) h = (some, h.1 ∙ ap (λ (z : OpenTrees). record z { frames = changed_at 0 marked_unreachable z.frames }) appended ∙ ap (λ fs. record a { frames = fs }) (both a.frames))
      of_result (Err e) h = tt

  pub appends_err : IfErr r (λ e. (e ≡ NoFrame) × (b.frames ≡ [])) → IfErr r (λ e. (e ≡ Memory) ⊎ ((e ≡ NoFrame) × (length a.frames ≤ 0)))
  appends_err = of_result r
    where
      none : b.frames ≡ [] → ⊥
      none e = of_frames a.frames some (ap (λ (z : OpenTrees). z.frames) (sym appended) ∙ e)
        where
          of_frames : (fs : List OpenFrame) → 0 < length fs → changed_at 0 (with_instr x) fs ≡ [] → ⊥
          of_frames [] l q = absurd (omega arith)
          of_frames (f ∷ fs) l q = cc q

      of_result : (q : Result (Unit {0}) ParseError) → IfErr q (λ e. (e ≡ NoFrame) × (b.frames ≡ [])) → IfErr q (λ e. (e ≡ Memory) ⊎ ((e ≡ NoFrame) × (length a.frames ≤ 0)))
      of_result (Ok u) h = tt
      of_result (Err e) h = absurd (none h.1)
