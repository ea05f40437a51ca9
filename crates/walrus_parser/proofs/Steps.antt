-- How each kind of operator advances a parse.
use Rattle.std.specs.Prelude.{◌≡◌, ◌≢◌, slice_get, unwrap_or, ℕ, suc, ◌≤◌, List, [], ◌∷◌, ◌++◌, length, Bool, false, Option, Some, None, Ok}
use Rattle.std.proofs.lemmas.List.{append-nil}
use Rattle.std.proofs.Common.{refl, ap, sym, subst, ◌∙◌, arith}
use Rattle.walrus_ir.specs.declared.seq.InstrSeq.{InstrSeq}
use Rattle.walrus_ir.specs.declared.instr.Instr.{Instr}
use Rattle.walrus_ir.specs.declared.control.BlockKind.{BlockKind}
use Rattle.walrus_ir.specs.declared.control.BlockKind.TheVariants as kind
use Rattle.walrus_ir.specs.declared.control.LegacyCatch.{LegacyCatch}
use Rattle.walrus_ir.specs.declared.control.LegacyCatch.TheVariants.{Catch, CatchAll, Delegate}
use Rattle.wasm_types.specs.declared.val_type.ValType.{ValType}
use Rattle.walrus_ir.specs.Tree.{no_items, item, no_sequences, sequence}
use Rattle.walrus_ir.specs.Unfolding.{SequenceAt, LocatedInstr, handler_of, slots_in, AreTreeItems, AreSequences, are_no_items, are_items, are_no_sequences, are_sequences}
use Rattle.wasm_operators.specs.Operations.{RawOperation}
use Rattle.wasm_body.specs.Control.{Action, Construct, Does, Opens, If, control_of}
use Rattle.wasm_body.specs.SourceTree.{Sequence, Empty, Single, TryDelegate, Wrapper, OfBlock, OfLoop, OfTryTable, construct_of, map_sequence}
use Rattle.wasm_body.specs.Naming.{Environment, NamedOperation, Occurrence, block_signature, named_in}
use Rattle.walrus_ir.specs.Types.{signature, pick}
use Rattle.walrus_ir.specs.declared.val_type.InstrSeqType.TheVariants.{Simple}
use Rattle.walrus_ir.specs.Locations.{default_location}
use Rattle.wasm_body.specs.NormalForm.{Fate, Drops, Stays, MakesUnreachable, fate, with_fate, construct_type, handler_type, normal, typing_of, kept_operation, instruction, name_at, normal_form, named_body}
use Rattle.wasm_body.specs.FunctionTree.{Instruction, handles, handles_all, delegates}
use Rattle.wasm_body.specs.Keeping.{unreachable_after}
use Rattle.wasm_body.specs.InstructionTable.{operation_of, legacy_clause, clauses_of_try}
use Rattle.wasm_body.specs.TreeOfFunction.{with_targets, instruction_in, items_in, HasTree}
use Rattle.wasm_body.specs.Intervals.{RiseIn}
use Rattle.wasm_body.specs.Parsing.Progress.{append, closed, closed_clause, with_catch_open, with_catch_all_open, delegated, with_else_open, opened, OpenConstruct, ClosedClause, InWrapper, InThen, InElse, InTry, InCatch, InCatchAll, Layer, layer, frames_of, further_within}
use Rattle.wasm_body.proofs.NormalForm.ArenaLemmas.{all_rise-range, items-same, all_reached-fresh}
use Rattle.walrus_context.specs.declared.frame.IfElseState.{IfElseState}
use Rattle.walrus_context.specs.OpenFrames.{OpenFrame, new_frame, changed_at, with_instr}
use Rattle.walrus_context.specs.Keeping.{slots, TakesParameters, the_if, IsAny, IsTry, Encloses, IsAppended, OpensWith, IsWithinFrames, Holds}
use Rattle.walrus_context.specs.OpenConstructs.{map_closed, kind_in, type_in, sequences_closed, added_in, opener_in, clauses_in, closed_in, map_open_construct}
use Rattle.walrus_parser.specs.Advancing.{IsFate, MakesUnreachableAs, ParseState, Keeps, KeepsProgress, occurrence, Advances}
use Rattle.walrus_parser.proofs.Frames.{holds_same, slots_changed, AreNormal, taken, holds_takes, holds_passes}
use Rattle.walrus_parser.proofs.ConstructKinds.{MayHaveClause, by_if, by_else, by_try, by_clause}
use Rattle.walrus_parser.proofs.Closing.{clauses_more, closed_by_catch}
use Rattle.walrus_parser.proofs.Clauses.{gained_places, gained_instruction, AddsClause, adds_within}
use Rattle.walrus_parser.proofs.Constructs.{closed_range, holds_after, sequence_closed, IsWritten, IsSealed, IsOpened, is_opened, holds_opened, holds_ended, holds_chosen, holds_chosen_alone, holds_next_open, if_else}

module _ (env : Environment) (old : ParseState) (ls : List (Layer Occurrence)) (s : Sequence Occurrence) (o : RawOperation) (place location : ℕ) (keeps : Keeps env old ls s) where
  abbrev at : NamedOperation → Occurrence
  at named = occurrence o place location named

  -- the state after one more operator, from its control
  keeps_as : (new : ParseState) (named : NamedOperation) (c : _) → control_of named ≡ c → KeepsProgress env new (further_within c (at named) ls s) → KeepsProgress env new (further_within (control_of named) (at named) ls s)
  keeps_as new named c e h = subst (λ d. KeepsProgress env new (further_within d (at named) ls s)) (sym e) h

  -- ---- operators by themselves

  -- an operator that is dropped changes nothing
  pub steps_dropped : (f : OpenFrame) (fs : List OpenFrame) (named : NamedOperation) (action : Action) → old.frames ≡ f ∷ fs → named_in env (frames_of ls) o ≡ Ok named → control_of named ≡ Does action → fate action ≡ Drops →
      Advances env old ls s o place location
  steps_dropped f fs named action frames is control drops = record {
    named = named;
    is_named = is;
    keeps = keeps_as old named (Does action) control
        (subst (λ gs. Holds env old.arena ls (append s (Single (at named) action Empty)) (length old.arena) gs old.ifs) (sym frames)
        (holds_passes env old.arena ls s (Single (at named) action Empty) (length old.arena) f fs old.ifs
        (ap (λ t. unreachable_after t false) drops) (ap (λ t. with_fate t (instruction (name_at (at named)) []) no_items) drops)
        (subst (λ gs. Holds env old.arena ls s (length old.arena) gs old.ifs) frames keeps)));
  }

  -- one more instruction
  pub steps_alone : (new : ParseState) (f : OpenFrame) (fs : List OpenFrame) (named : NamedOperation) (action : Action) (i : Instr) (unreachable_there : Bool) → old.frames ≡ f ∷ fs → named_in env (frames_of ls) o ≡ Ok named → control_of named ≡ Does action → MakesUnreachableAs action unreachable_there →
      slots_in i ≡ [] → clauses_of_try i ≡ [] → with_targets (slots old.frames) (operation_of i) ≡ kept_operation named →
      new ≡ record old { frames = taken (i, location) unreachable_there f ∷ fs } → Advances env new ls s o place location
  steps_alone new f fs named action i unreachable_there frames is control is_unreachable alone no_clauses retargeted is_new = record {
    named = named;
    is_named = is;
    keeps = subst (λ q. KeepsProgress env q (further_within (control_of named) (at named) ls s)) (sym is_new)
        (keeps_as (record old { frames = taken (i, location) unreachable_there f ∷ fs }) named (Does action) control
        (holds_takes env old.arena ls s (Single (at named) action Empty) (length old.arena) (length old.arena) f fs old.ifs (i, location) unreachable_there (omega arith) (unreachable_as (fate action) unreachable_there is_unreachable)
        (record {
          items = item (i, location) no_sequences no_items;
          are_items = are_items (subst (λ ps. AreSequences old.arena ps no_sequences) (sym alone) are_no_sequences) are_no_items;
          rise = (length old.arena, (let n : length old.arena ≤ length old.arena = omega arith in n), (let n : length old.arena ≤ length old.arena = omega arith in n));
          is_normal = (λ k. item (record { op = subst (λ gs. with_targets (slots gs) (operation_of i) ≡ kept_operation named) frames retargeted k; clauses = no_clauses k; location = location }) no_sequences no_items)
              ∙ sym (kept_as (fate action) unreachable_there (instruction (name_at (at named)) []) is_unreachable);
        })
        (subst (λ gs. Holds env old.arena ls s (length old.arena) gs old.ifs) frames keeps)));
  }
    where
      unreachable_as : (t : Fate) (c : Bool) → IsFate t c → unreachable_after t false ≡ c
      unreachable_as Drops c h = absurd h
      unreachable_as Stays c h = sym h
      unreachable_as MakesUnreachable c h = sym h

      kept_as : (t : Fate) (c : Bool) (x : Instruction) → IsFate t c → with_fate t x no_items ≡ item x no_sequences no_items
      kept_as Drops c x h = absurd h
      kept_as Stays c x h = refl
      kept_as MakesUnreachable c x h = refl

  -- ---- a construct is opened

  opened_as : (a : Occurrence) (w : Wrapper) → opened a (construct_of w) ≡ InWrapper a w
  opened_as a OfBlock = refl
  opened_as a OfLoop = refl
  opened_as a (OfTryTable cs) = refl

  -- a construct whose instruction is appended to the frame around; this is its only sequence so far
  pub steps_opened : (new : ParseState) (named : NamedOperation) (c : Construct) (IsOpener : Instr → Type 0) (g : OpenFrame) (seq : InstrSeq) (x : LocatedInstr) →
      named_in env (frames_of ls) o ≡ Ok named → control_of named ≡ Opens c → IsOpened env (length old.arena) (opened (at named) c) g seq →
      closed_in (typing_of env) (map_open_construct name_at (opened (at named) c)) ≡ no_sequences →
      ((around : List OpenFrame) → IsAppended (slots around) [] g.sequence (opened (at named) c) IsOpener around old.frames → OpensWith (slots around) [] g.sequence (opened (at named) c) around old.frames old.ifs old.ifs) →
      slots_in x.0 ≡ g.sequence ∷ [] → instruction_in (slots old.frames) x ≡ instruction (name_at (opener_in (opened (at named) c))) (clauses_in (opened (at named) c)) → IsOpener x.0 →
      new ≡ record { arena = old.arena ++ seq ∷ []; frames = g ∷ changed_at 0 (with_instr x) old.frames; ifs = old.ifs } → Advances env new ls s o place location
  steps_opened new named c IsOpener g seq x is control opens none with_opener places instr is_opener is_new =
      let around = changed_at 0 (with_instr x) old.frames in
      record {
        named = named;
        is_named = is;
        keeps = subst (λ q. KeepsProgress env q (further_within (control_of named) (at named) ls s)) (sym is_new)
            (keeps_as _ named (Opens c) control
            (holds_opened env old.arena seq ls s (opened (at named) c) g around old.frames old.ifs old.ifs opens none
            (with_opener around (record {
              opener = x;
              places = places;
              is_instruction = ap (λ ps. instruction_in ps x) (slots_changed x 0 old.frames) ∙ instr;
              is_opener = is_opener;
              frames = refl;
            }))
            keeps));
      }

  pub steps_if : (new : ParseState) (named : NamedOperation) (g : OpenFrame) (seq : InstrSeq) →
      named_in env (frames_of ls) o ≡ Ok named → control_of named ≡ Opens If → IsOpened env (length old.arena) (InThen (at named)) g seq → the_if (at named) →
      new ≡ record { arena = old.arena ++ seq ∷ []; frames = g ∷ old.frames; ifs = record { start = location; consequent = g.sequence; alternative = None } ∷ old.ifs } → Advances env new ls s o place location
  steps_if new named g seq is control opens is_if is_new = record {
    named = named;
    is_named = is;
    keeps = subst (λ q. KeepsProgress env q (further_within (control_of named) (at named) ls s)) (sym is_new)
        (keeps_as _ named (Opens If) control
        (holds_opened env old.arena seq ls s (InThen (at named)) g old.frames old.frames (record { start = location; consequent = g.sequence; alternative = None } ∷ old.ifs) old.ifs opens refl (record { frames = refl; kept = refl; none_before = refl; is_if = is_if }) keeps));
  }

-- ---- the innermost frame is closed

-- The sequence has its instructions and ends at the location, or as before if there is none. The others are as before.
pub record Seals (b c : List InstrSeq) (f : OpenFrame) (closing : Option ℕ) : Type 0 where
  pub was : InstrSeq
  pub seq : InstrSeq
  pub before : slice_get b f.sequence ≡ Some was
  pub written : IsWritten b f.sequence seq c
  pub same_type : seq.ty ≡ was.ty
  pub instrs : seq.instrs ≡ f.instrs
  pub end_is : seq.end ≡ unwrap_or closing was.end

pub sealed : (env : Environment) (b c : List InstrSeq) (low : ℕ) (f : OpenFrame) (around before : List ℕ) (p : OpenConstruct Occurrence) (closing : Option ℕ) → Encloses env b low f around p before → Seals b c f closing → IsSealed env b c f p (unwrap_or closing default_location)
sealed env b c low f around before p closing o h =
    let found : Some o.reserved.seq ≡ Some h.was = sym o.reserved.in_arena ∙ h.before in
    let same : o.reserved.seq ≡ h.was = cc found in
    record {
      seq = h.seq;
      written = h.written;
      instrs = h.instrs;
      end_is = h.end_is ∙ ap (λ e. unwrap_or closing e) (ap (λ (q : InstrSeq). q.end) (sym same) ∙ o.reserved.has_no_end);
      type = h.same_type ∙ ap (λ (q : InstrSeq). q.ty) (sym same) ∙ o.reserved.has_type;
    }

module _ (env : Environment) (old : ParseState) (l : Layer Occurrence) (ls : List (Layer Occurrence)) (s : Sequence Occurrence) (f : OpenFrame) (fs : List OpenFrame) (frames : old.frames ≡ f ∷ fs) (keeps : Keeps env old (l ∷ ls) s) where
  abbrev innermost : IsWithinFrames env old.arena (length old.arena) f fs old.ifs l.construct s (Holds env old.arena ls l.before)
  innermost = subst (λ gs. Holds env old.arena (l ∷ ls) s (length old.arena) gs old.ifs) frames keeps

  abbrev Outside : ℕ → List OpenFrame → List IfElseState → Type 0
  Outside = Holds env old.arena ls l.before

  abbrev Inside : OpenConstruct Occurrence → Type 0
  Inside p = IsWithinFrames env old.arena (length old.arena) f fs old.ifs p s Outside

  -- a construct whose instruction is already there
  ended_as : (p : OpenConstruct Occurrence) (IsOpener : Instr → Type 0) (new : ParseState) (e : Occurrence) (h : Inside p) → added_in (typing_of env) (map_open_construct name_at p) ≡ no_sequences →
      IsAppended (slots fs) h.before f.sequence p IsOpener fs h.outside → old.ifs ≡ h.other_ifs → Seals old.arena new.arena f (Some e.location) → new.frames ≡ fs → new.ifs ≡ old.ifs → Keeps env new ls (append l.before (closed p s e))
  ended_as p IsOpener new e h none a same_outside seals same_frames same_ifs =
      let whole = holds_ended env old.arena new.arena ls l.before s p IsOpener f fs h.outside h.other_ifs h.low h.before e none h.kept h.encloses a
      (sealed env old.arena new.arena h.low f (slots fs) h.before p (Some e.location) h.encloses seals) h.outer in
      subst (λ gs. Holds env new.arena ls (append l.before (closed p s e)) (length new.arena) gs new.ifs) (sym same_frames)
      (subst (λ is. Holds env new.arena ls (append l.before (closed p s e)) (length new.arena) fs is) (sym (same_ifs ∙ same_outside)) whole)

  pub ended : (p : OpenConstruct Occurrence) (new : ParseState) (e : Occurrence) → f.kind ≢ kind.If → f.kind ≢ kind.Else → Seals old.arena new.arena f (Some e.location) → new.frames ≡ fs → new.ifs ≡ old.ifs →
      Inside p → Keeps env new ls (append l.before (closed p s e))
  ended (InWrapper a w) new e not_if not_else seals gs is h = ended_as (InWrapper a w) IsAny new e h refl h.opens.0 h.opens.1 seals gs is
  ended (InThen a) new e not_if not_else seals gs is h = absurd (not_if h.encloses.kind)
  ended (InElse a b m) new e not_if not_else seals gs is h = absurd (not_else h.encloses.kind)
  ended (InTry a) new e not_if not_else seals gs is h = ended_as (InTry a) IsTry new e h refl h.opens.0 h.opens.1 seals gs is
  ended (InCatch a b cs i t) new e not_if not_else seals gs is h = ended_as (InCatch a b cs i t) IsTry new e h refl h.opens.0 h.opens.1 seals gs is
  ended (InCatchAll a b cs i) new e not_if not_else seals gs is h = ended_as (InCatchAll a b cs i) IsTry new e h refl h.opens.0 h.opens.1 seals gs is

  -- `end` after an alternative: the instruction of the `if` is appended
  pub chosen : (p : OpenConstruct Occurrence) (new : ParseState) (e : Occurrence) (top : IfElseState) (others : List IfElseState) (alternative : ℕ) → f.kind ≡ kind.Else → old.ifs ≡ top ∷ others → top.alternative ≡ Some alternative → Seals old.arena new.arena f (Some e.location) →
      new.frames ≡ changed_at 0 (with_instr (if_else top.consequent alternative top.start)) fs → new.ifs ≡ others → Inside p → Keeps env new ls (append l.before (closed p s e))
  chosen p new e top others alternative is_else ifs has seals gs is within =
      by_else (λ q. Inside q → Keeps env new ls (append l.before (closed q s e))) of_else p (sym within.encloses.kind ∙ is_else) within
    where
      of_else : (a : Occurrence) (b : Sequence Occurrence) (m : Occurrence) → Inside (InElse a b m) → Keeps env new ls (append l.before (closed (InElse a b m) s e))
      of_else a b m h =
          let c = h.opens.consequent in
          let made : IfElseState = record { start = a.location; consequent = c; alternative = Some f.sequence } in
          let both : top ∷ others ≡ made ∷ h.other_ifs = sym ifs ∙ h.opens.kept in
          let first : top ≡ made = cc both in
          let rest : others ≡ h.other_ifs = cc both in
          let there : Some alternative ≡ Some f.sequence = sym has ∙ ap (λ (t : IfElseState). t.alternative) first in
          let same : alternative ≡ f.sequence = cc there in
          let outer : Holds env old.arena ls l.before h.low fs h.other_ifs = subst (λ gs. Holds env old.arena ls l.before h.low gs h.other_ifs) (sym h.opens.frames) h.outer in
          let inside = subst (Encloses env old.arena h.low f (slots fs) (InElse a b m)) h.opens.one_before h.encloses in
          let whole = holds_chosen env old.arena new.arena ls l.before b s a m e f fs h.other_ifs h.low c h.opens.is_if h.kept inside
          (sealed env old.arena new.arena h.low f (slots fs) (c ∷ []) (InElse a b m) (Some e.location) inside seals) outer in
          let instr : if_else c f.sequence a.location ≡ if_else top.consequent alternative top.start =
          λ i. if_else ((sym first) i).consequent (sym same i) ((sym first) i).start in
          subst (λ qs. Holds env new.arena ls (append l.before (closed (InElse a b m) s e)) (length new.arena) qs new.ifs) (ap (λ x. changed_at 0 (with_instr x) fs) instr ∙ sym gs)
          (subst (λ qs. Holds env new.arena ls (append l.before (closed (InElse a b m) s e)) (length new.arena) (changed_at 0 (with_instr (if_else c f.sequence a.location)) fs) qs) (sym (is ∙ rest)) whole)

  -- `end` after a consequent: an empty alternative is made, and the instruction of the `if` is appended
  pub chosen_alone : (p : OpenConstruct Occurrence) (new : ParseState) (c : List InstrSeq) (other : InstrSeq) (e : Occurrence) (top : IfElseState) (others : List IfElseState) → f.kind ≡ kind.If → old.ifs ≡ top ∷ others → Seals old.arena c f (Some e.location) →
      pick env.types (signature f.start_types f.end_types) ≡ Some other.ty → other.instrs ≡ [] → other.end ≡ default_location → new.arena ≡ c ++ other ∷ [] →
      new.frames ≡ changed_at 0 (with_instr (if_else f.sequence (length c) top.start)) fs → new.ifs ≡ others → Inside p → Keeps env new ls (append l.before (closed p s e))
  chosen_alone p new c other e top others is_if ifs seals picks empty no_end arena gs is within =
      by_if (λ q. Inside q → Keeps env new ls (append l.before (closed q s e))) of_then p (sym within.encloses.kind ∙ is_if) within
    where
      of_then : (a : Occurrence) → Inside (InThen a) → Keeps env new ls (append l.before (closed (InThen a) s e))
      of_then a h =
          let made : IfElseState = record { start = a.location; consequent = f.sequence; alternative = None } in
          let both : top ∷ others ≡ made ∷ h.other_ifs = sym ifs ∙ h.opens.kept in
          let first : top ≡ made = cc both in
          let rest : others ≡ h.other_ifs = cc both in
          let outer : Holds env old.arena ls l.before h.low fs h.other_ifs = subst (λ gs. Holds env old.arena ls l.before h.low gs h.other_ifs) (sym h.opens.frames) h.outer in
          let inside = subst (Encloses env old.arena h.low f (slots fs) (InThen a)) h.opens.none_before h.encloses in
          let sig : signature f.start_types f.end_types ≡ block_signature a.named = λ i. signature (h.encloses.takes.0 i) (h.encloses.gives i) in
          let typed : other.ty ≡ construct_type (typing_of env) a.named = sym (ap (λ t. unwrap_or t (Simple None)) (sym (ap (pick env.types) sig) ∙ picks)) in
          let whole = holds_chosen_alone env old.arena c other ls l.before s a e f fs h.other_ifs h.low h.opens.is_if h.kept inside
          (sealed env old.arena c h.low f (slots fs) [] (InThen a) (Some e.location) inside seals) typed empty no_end outer in
          let made_of = λ (d : List InstrSeq) (qs : List OpenFrame) (js : List IfElseState). Holds env d ls (append l.before (closed (InThen a) s e)) (length d) qs js in
          let instr : if_else f.sequence (length c) a.location ≡ if_else f.sequence (length c) top.start = λ i. if_else f.sequence (length c) ((sym first) i).start in
          subst (λ d. made_of d new.frames new.ifs) (sym arena)
          (subst (λ qs. made_of (c ++ other ∷ []) qs new.ifs) (ap (λ x. changed_at 0 (with_instr x) fs) instr ∙ sym gs)
          (subst (made_of (c ++ other ∷ []) (changed_at 0 (with_instr (if_else f.sequence (length c) a.location)) fs)) (sym (is ∙ rest)) whole))

  -- ---- the next sequence of a construct

  -- a new sequence in a construct that is already open
  record Parts (c d : List InstrSeq) (p q : OpenConstruct Occurrence) (g : OpenFrame) (location : ℕ) : Type 0 where
    pub seals : Seals old.arena c f (Some location)
    pub seq : InstrSeq
    pub grows : d ≡ c ++ seq ∷ []
    pub opens : IsOpened env (length c) q g seq
    pub same : closed_in (typing_of env) (map_open_construct name_at q) ≡ sequences_closed (typing_of env) (map_open_construct name_at p) (normal (typing_of env) (map_sequence name_at s)) location no_sequences

  next_open : (p q : OpenConstruct Occurrence) (new : ParseState) (c : List InstrSeq) (g : OpenFrame) (gs : List OpenFrame) (location : ℕ) (h : Inside p) → Parts c new.arena p q g location → new.frames ≡ g ∷ gs → slots gs ≡ slots fs →
      OpensWith (slots gs) (h.before ++ f.sequence ∷ []) g.sequence q gs h.outside new.ifs h.other_ifs → Keeps env new (layer l.before q ∷ ls) Empty
  next_open p q new c g gs location h m is same opens =
      let whole = holds_next_open env old.arena c m.seq ls l.before s p q f g fs gs h.outside new.ifs h.other_ifs h.low h.before location h.kept h.encloses
      (sealed env old.arena c h.low f (slots fs) h.before p (Some location) h.encloses m.seals) m.opens same m.same opens h.outer in
      subst (λ d. Holds env d (layer l.before q ∷ ls) Empty (length d) new.frames new.ifs) (sym m.grows)
      (subst (λ ks. Holds env (c ++ m.seq ∷ []) (layer l.before q ∷ ls) Empty (length (c ++ m.seq ∷ [])) ks new.ifs) (sym is) whole)

  -- the construct goes on as this one, with a new empty sequence
  abbrev HasNextOpen : ParseState → Option (OpenConstruct Occurrence) → Type 0
  HasNextOpen new o = (q : OpenConstruct Occurrence) × (o ≡ Some q) × Keeps env new (layer l.before q ∷ ls) Empty

  -- `else` after a consequent
  pub else_parts : (p : OpenConstruct Occurrence) (new : ParseState) (c : List InstrSeq) (seq : InstrSeq) (g : OpenFrame) (x : Occurrence) (top : IfElseState) (others : List IfElseState) → f.kind ≡ kind.If → old.ifs ≡ top ∷ others → Seals old.arena c f (Some x.location) →
      pick env.types (signature f.start_types f.end_types) ≡ Some seq.ty → seq.end ≡ default_location → new.arena ≡ c ++ seq ∷ [] → g ≡ new_frame kind.Else f.start_types f.end_types (length c) →
      new.frames ≡ g ∷ fs → new.ifs ≡ record top { alternative = Some g.sequence } ∷ others → Inside p →
      HasNextOpen new (with_else_open p s x)
  else_parts p new c seq g x top others is_if ifs seals picks no_end arena frame gs is within = by_if (λ q. Inside q → HasNextOpen new (with_else_open q s x)) of_then p (sym within.encloses.kind ∙ is_if) within
    where
      of_then : (a : Occurrence) → Inside (InThen a) → HasNextOpen new (with_else_open (InThen a) s x)
      of_then a h =
          let made : IfElseState = record { start = a.location; consequent = f.sequence; alternative = None } in
          let both : top ∷ others ≡ made ∷ h.other_ifs = sym ifs ∙ h.opens.kept in
          let first : top ≡ made = cc both in
          let rest : others ≡ h.other_ifs = cc both in
          let sig : signature f.start_types f.end_types ≡ block_signature a.named = λ i. signature (h.encloses.takes.0 i) (h.encloses.gives i) in
          let typed : seq.ty ≡ construct_type (typing_of env) a.named = sym (ap (λ t. unwrap_or t (Simple None)) (sym (ap (pick env.types) sig) ∙ picks)) in
          let states : new.ifs ≡ record { start = a.location; consequent = f.sequence; alternative = Some g.sequence } ∷ h.other_ifs =
          is ∙ (λ i. record { start = (first i).start; consequent = (first i).consequent; alternative = Some g.sequence } ∷ rest i) in (
            InElse a s x,
            refl,
            next_open (InThen a) (InElse a s x) new c g fs x.location h
                (record {
                  seals = seals;
                  seq = seq;
                  grows = arena;
                  opens = is_opened env (length c) (InElse a s x) g seq kind.Else f.start_types f.end_types frame refl tt h.encloses.gives typed no_end;
                  same = refl;
                })
                gs refl (record { frames = h.opens.frames; consequent = f.sequence; one_before = ap (λ ps. ps ++ f.sequence ∷ []) h.opens.none_before; kept = states; is_if = h.opens.is_if }),
          )

  -- `catch` and `catch_all` after the body of a legacy `try` or after a handler
  handler_parts : (p q : OpenConstruct Occurrence) (new : ParseState) (c : List InstrSeq) (seq : InstrSeq) (g : OpenFrame) (gs : List OpenFrame) (location : ℕ) (kind : BlockKind) (parameters : List (ValType ℕ)) (clause : LegacyCatch) → Seals old.arena c f (Some location) →
      pick env.types (signature parameters f.end_types) ≡ Some seq.ty → seq.end ≡ default_location → new.arena ≡ c ++ seq ∷ [] → g ≡ new_frame kind parameters f.end_types (length c) →
      new.frames ≡ g ∷ gs → new.ifs ≡ old.ifs → slots gs ≡ slots fs → AddsClause fs gs clause → handler_of clause ≡ length c ∷ [] → (h : Inside p) → IsAppended (slots fs) h.before f.sequence p IsTry fs h.outside → old.ifs ≡ h.other_ifs →
      opener_in q ≡ opener_in p → clauses_in q ≡ clauses_in p ++ legacy_clause clause ∷ [] → kind ≡ kind_in q → ((ts : _) → TakesParameters env q ts) →
      type_in (typing_of env) (map_open_construct name_at q) ≡ handler_type (typing_of env) (name_at (opener_in p)).op parameters →
      closed_in (typing_of env) (map_open_construct name_at q) ≡ sequences_closed (typing_of env) (map_open_construct name_at p) (normal (typing_of env) (map_sequence name_at s)) location no_sequences →
      ((around before : List ℕ) (slot : ℕ) (hs outside : List OpenFrame) (is js : List IfElseState) → IsAppended around before slot q IsTry hs outside × (is ≡ js) → OpensWith around before slot q hs outside is js) →
      Keeps env new (layer l.before q ∷ ls) Empty
  handler_parts p q new c seq g gs location kind parameters clause seals picks no_end arena frame gs_are is same_slots adds handler h appended others same clauses is_kind takes type closed_same opens =
      let here : g.sequence ≡ length c = ap (λ (k : OpenFrame). k.sequence) frame in
      let typed : seq.ty ≡ handler_type (typing_of env) (name_at (opener_in p)).op parameters =
      sym (ap (λ r. unwrap_or (pick env.types (signature parameters r)) (Simple None)) (sym h.encloses.gives) ∙ ap (λ t. unwrap_or t (Simple None)) picks) in
      next_open p q new c g gs location h
      (record {
        seals = seals;
        seq = seq;
        grows = arena;
        opens = is_opened env (length c) q g seq kind parameters f.end_types frame is_kind (takes g.start_types) (h.encloses.gives ∙ ap (λ (a : Occurrence). (block_signature a.named).results) (sym same)) (typed ∙ sym type) no_end;
        same = closed_same;
      })
      gs_are same_slots
      (opens (slots gs) (h.before ++ f.sequence ∷ []) g.sequence gs h.outside new.ifs h.other_ifs (
        subst (λ ps. IsAppended ps (h.before ++ f.sequence ∷ []) g.sequence q IsTry gs h.outside) (sym same_slots)
            (adds_within (slots fs) h.before f.sequence g.sequence p q clause fs gs h.outside appended adds (handler ∙ ap (λ n. n ∷ []) (sym here)) same clauses),
        is ∙ others,
      ))

  pub catch_parts : (p : OpenConstruct Occurrence) (new : ParseState) (c : List InstrSeq) (seq : InstrSeq) (g : OpenFrame) (gs : List OpenFrame) (x : Occurrence) (tag : ℕ) (parameters : List (ValType ℕ)) → MayHaveClause f.kind → Seals old.arena c f (Some x.location) →
      (typing_of env).tag_parameters tag ≡ parameters → pick env.types (signature parameters f.end_types) ≡ Some seq.ty → seq.end ≡ default_location → new.arena ≡ c ++ seq ∷ [] → g ≡ new_frame kind.Catch parameters f.end_types (length c) →
      new.frames ≡ g ∷ gs → new.ifs ≡ old.ifs → slots gs ≡ slots fs → AddsClause fs gs (Catch tag (length c)) → Inside p →
      HasNextOpen new (with_catch_open p s x tag)
  catch_parts p new c seq g gs x tag parameters may seals tagged picks no_end arena frame gs_are is same_slots adds within =
      by_clause (λ q. Inside q → HasNextOpen new (with_catch_open q s x tag)) of_try of_catch p (subst MayHaveClause within.encloses.kind may) within
    where
      of_try : (a : Occurrence) → Inside (InTry a) → HasNextOpen new (with_catch_open (InTry a) s x tag)
      of_try a h =
          let q = InCatch a s [] x tag in (
            q,
            refl,
            handler_parts (InTry a) q new c seq g gs x.location kind.Catch parameters (Catch tag (length c)) seals picks no_end arena frame gs_are is same_slots adds refl h h.opens.0 h.opens.1
                refl refl refl (λ ts. tt) (ap (handler_type (typing_of env) a.named) tagged) refl (λ around before slot hs outside is js o. o),
          )

      of_catch : (a : Occurrence) (b : Sequence Occurrence) (cs : List (ClosedClause Occurrence)) (i : Occurrence) (u : ℕ) → Inside (InCatch a b cs i u) → HasNextOpen new (with_catch_open (InCatch a b cs i u) s x tag)
      of_catch a b cs i u h =
          let q = InCatch a b (closed_clause i u s ∷ cs) x tag in (
            q,
            refl,
            handler_parts (InCatch a b cs i u) q new c seq g gs x.location kind.Catch parameters (Catch tag (length c)) seals picks no_end arena frame gs_are is same_slots adds refl h h.opens.0 h.opens.1
                refl (clauses_more cs (handles u ∷ []) (handles tag ∷ [])) refl (λ ts. tt) (ap (handler_type (typing_of env) a.named) tagged)
                (closed_by_catch (typing_of env) (name_at a) (map_sequence name_at b) (map_sequence name_at s) (map_closed name_at cs) (name_at i) (name_at x) tag u) (λ around before slot hs outside is js o. o),
          )

  pub catch_all_parts : (p : OpenConstruct Occurrence) (new : ParseState) (c : List InstrSeq) (seq : InstrSeq) (g : OpenFrame) (gs : List OpenFrame) (x : Occurrence) → MayHaveClause f.kind → Seals old.arena c f (Some x.location) →
      pick env.types (signature [] f.end_types) ≡ Some seq.ty → seq.end ≡ default_location → new.arena ≡ c ++ seq ∷ [] → g ≡ new_frame kind.CatchAll [] f.end_types (length c) →
      new.frames ≡ g ∷ gs → new.ifs ≡ old.ifs → slots gs ≡ slots fs → AddsClause fs gs (CatchAll (length c)) → Inside p →
      HasNextOpen new (with_catch_all_open p s x)
  catch_all_parts p new c seq g gs x may seals picks no_end arena frame gs_are is same_slots adds within =
      by_clause (λ q. Inside q → HasNextOpen new (with_catch_all_open q s x)) of_try of_catch p (subst MayHaveClause within.encloses.kind may) within
    where
      of_try : (a : Occurrence) → Inside (InTry a) → HasNextOpen new (with_catch_all_open (InTry a) s x)
      of_try a h =
          let q = InCatchAll a s [] x in (
            q,
            refl,
            handler_parts (InTry a) q new c seq g gs x.location kind.CatchAll [] (CatchAll (length c)) seals picks no_end arena frame gs_are is same_slots adds refl h h.opens.0 h.opens.1
                refl refl refl (λ ts. tt) refl refl (λ around before slot hs outside is js o. o),
          )

      of_catch : (a : Occurrence) (b : Sequence Occurrence) (cs : List (ClosedClause Occurrence)) (i : Occurrence) (u : ℕ) → Inside (InCatch a b cs i u) → HasNextOpen new (with_catch_all_open (InCatch a b cs i u) s x)
      of_catch a b cs i u h =
          let q = InCatchAll a b (closed_clause i u s ∷ cs) x in (
            q,
            refl,
            handler_parts (InCatch a b cs i u) q new c seq g gs x.location kind.CatchAll [] (CatchAll (length c)) seals picks no_end arena frame gs_are is same_slots adds refl h h.opens.0 h.opens.1
                refl (clauses_more cs (handles u ∷ []) (handles_all ∷ [])) refl (λ ts. tt) refl
                (closed_by_catch (typing_of env) (name_at a) (map_sequence name_at b) (map_sequence name_at s) (map_closed name_at cs) (name_at i) (name_at x) 0 u) (λ around before slot hs outside is js o. o),
          )

  -- `delegate` after the body of a legacy `try`
  pub delegate_ends : (p : OpenConstruct Occurrence) (new : ParseState) (gs : List OpenFrame) (x : Occurrence) (n : ℕ) → f.kind ≡ kind.Try → Seals old.arena new.arena f None → new.frames ≡ gs → new.ifs ≡ old.ifs → AddsClause fs gs (Delegate n) → Inside p →
      (made : Sequence Occurrence) × (delegated p s x n ≡ Some made) × Keeps env new ls (append l.before made)
  delegate_ends p new gs x n is_try seals gs_are is adds within =
      by_try (λ q. Inside q → (made : Sequence Occurrence) × (delegated q s x n ≡ Some made) × Keeps env new ls (append l.before made)) of_try p (sym within.encloses.kind ∙ is_try) within
    where
      of_try : (a : Occurrence) → Inside (InTry a) → (made : Sequence Occurrence) × (delegated (InTry a) s x n ≡ Some made) × Keeps env new ls (append l.before made)
      of_try a h =
          let appended : IsAppended (slots fs) h.before f.sequence (InTry a) IsTry fs h.outside = h.opens.0 in
          let added = adds appended.opener h.outside appended.frames appended.is_opener in
          let same_slots : slots fs ≡ slots h.outside = ap slots appended.frames ∙ slots_changed appended.opener 0 h.outside in
          let closes = sequence_closed env old.arena new.arena h.low f (slots fs) h.before (InTry a) s default_location h.kept h.encloses
          (sealed env old.arena new.arena h.low f (slots fs) h.before (InTry a) None h.encloses seals) in
          let range = all_rise-range h.low h.encloses.inside f.sequence h.encloses.rise in
          let places : slots_in added.0.0 ≡ h.before ++ f.sequence ∷ [] = gained_places appended.opener added.0 (Delegate n) added.1 ∙ append-nil (slots_in appended.opener.0) ∙ appended.places in
          let made : instruction_in (slots fs) added.0 ≡ instruction (name_at a) (delegates n ∷ []) = gained_instruction (slots fs) appended.opener added.0 (Delegate n) a [] added.1 appended.is_instruction in
          let more : AreNormal env new.arena h.low (length new.arena) (slots fs) (added.0 ∷ []) (TryDelegate a s x n Empty) = record {
            items = item added.0 closes.inside no_items;
            are_items = are_items (subst (λ ps. AreSequences new.arena ps closes.inside) (sym places) closes.are_sequences) are_no_items;
            rise = (length new.arena, closes.rise, (let m : length new.arena ≤ length new.arena = omega arith in m));
            is_normal = λ i. item (made i) (closes.is_normal i) no_items;
          } in
          let whole = holds_after env new.arena ls l.before (TryDelegate a s x n Empty) h.low (length new.arena) h.outside h.other_ifs added.0 (closed_range closes) refl
          (subst (λ ps. AreNormal env new.arena h.low (length new.arena) ps (added.0 ∷ []) (TryDelegate a s x n Empty)) same_slots more)
          (holds_same env old.arena new.arena ls l.before h.low h.outside h.other_ifs (λ q m k. seals.written.elsewhere q (λ d. let at : q ≡ f.sequence = d in omega arith)) h.outer) in (
            TryDelegate a s x n Empty,
            refl,
            subst (λ qs. Holds env new.arena ls (append l.before (TryDelegate a s x n Empty)) (length new.arena) qs new.ifs) (sym (gs_are ∙ added.2))
                (subst (λ js. Holds env new.arena ls (append l.before (TryDelegate a s x n Empty)) (length new.arena) (changed_at 0 (with_instr added.0) h.outside) js) (sym (is ∙ h.opens.1)) whole),
          )

-- ---- the function's own sequence is closed

pub ends_body : (env : Environment) (b c : List InstrSeq) (f : OpenFrame) (fs : List OpenFrame) (ifs : List IfElseState) (s : Sequence Occurrence) (e : Occurrence) → Seals b c f (Some e.location) →
    Holds env b [] s (length b) (f ∷ fs) ifs → HasTree c 0 (normal_form (typing_of env) (named_body (record { sequence = s; close = e })))
ends_body env b c f fs ifs s e w h =
    let k = h.kept in
    let at_first : f.sequence ≡ 0 = h.first in
    let inside : AreTreeItems c w.seq.instrs k.items = subst (λ xs. AreTreeItems c xs k.items) (sym w.instrs)
    (items-same c (suc f.sequence) (length b) (λ q l m. w.written.elsewhere q (λ e. let d : q ≡ f.sequence = e in omega arith)) k.rise k.are_items) in
    let wide : RiseIn (suc f.sequence) k.items (length c) = subst (RiseIn (suc f.sequence) k.items) (sym w.written.as_many) k.rise in
    let in_arena : slice_get c 0 ≡ Some w.seq = subst (λ p. slice_get c p ≡ Some w.seq) at_first w.written.here in
    let rises : RiseIn 1 k.items (length c) = subst (λ p. RiseIn (suc p) k.items (length c)) at_first wide in
    let found : Some h.reserved.seq ≡ Some w.was = sym h.reserved.in_arena ∙ ap (slice_get b) (sym at_first) ∙ w.before in
    let same : h.reserved.seq ≡ w.was = cc found in
    let type : w.seq.ty ≡ (typing_of env).entry = w.same_type ∙ ap (λ (q : InstrSeq). q.ty) (sym same) ∙ h.reserved.has_type in
    let alone : slots fs ≡ [] = ap slots h.alone in
    let normal_is : items_in (0 ∷ []) k.items ≡ normal (typing_of env) (map_sequence name_at s) =
    ap (λ p. items_in (p ∷ []) k.items) (sym at_first) ∙ ap (λ ps. items_in (f.sequence ∷ ps) k.items) (sym alone) ∙ k.is_normal in
    let top : SequenceAt = record { slot = 0; seq = w.seq } in
    record {
      unfolded = record { head = top; items = k.items };
      is_tree = record {
        unfolds = are_sequences in_arena inside are_no_sequences;
        apart = (all_reached-fresh 0 (sequence top k.items no_sequences) (length c) [] (length c, (let n : 0 ≤ 0 = omega arith in n), rises, (let n : length c ≤ length c = omega arith in n)) (record { apart = tt; below = tt })).apart;
      };
      is = λ i. record { head = record { type = type i; end_location = w.end_is i }; items = normal_is i };
    }
