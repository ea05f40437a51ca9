-- How an operator that makes an instruction by itself advances a parse: if its ids and labels are found it has a name, and
-- its instruction is added to the normal form so far.
use Rattle.std.specs.Prelude.{◌≡◌, ◌⊎◌, ◌<◌, ◌≤◌, ℕ, suc, List, [], ◌∷◌, length, Bool, true, false, Some, Result, Ok, Err, OnOk, IfErr}
use Rattle.std.proofs.Common.{refl, inl, inr, ap, sym, subst, ◌∙◌, arith, reverse}
use Rattle.walrus_ir.specs.declared.instr.Instr.{Instr}
use Rattle.walrus_ir.specs.Unfolding.{LocatedInstr, slots_in}
use Rattle.wasm_operators.specs.declared.types.Opcode.TheVariants.{Byte}
use Rattle.wasm_operators.specs.Operations.{operation, Operation, RawOperation}
use Rattle.wasm_body.specs.declared.error.ParseError.{ParseError}
use Rattle.wasm_body.specs.declared.error.ParseError.TheVariants.{Memory, NoFrame}
use Rattle.wasm_body.specs.Control.{Action, Nop, role_of, control_of}
use Rattle.wasm_body.specs.Frames.{SequenceFrame, OfFunction}
use Rattle.wasm_body.specs.SourceTree.{Sequence}
use Rattle.wasm_body.specs.Translation.{translate, translate_immediates}
use Rattle.wasm_body.specs.Naming.{Environment, NamedOperation, Occurrence, naming, named_in}
use Rattle.wasm_body.specs.InstructionTable.{operation_of, clauses_of_try}
use Rattle.wasm_body.specs.Parsing.Progress.{Layer, frame_of, frames_of}
use Rattle.wasm_body.proofs.Translation.Steps.{bound}
use Rattle.walrus_context.specs.declared.frame.IfElseState.{IfElseState}
use Rattle.walrus_parser.specs.declared.body_parser.BodyParser.{BodyParser}
use Rattle.walrus_context.specs.OpenFrames.{OpenFrame, changed_at}
use Rattle.walrus_context.specs.OpenTrees.{OpenTrees, env_of}
use Rattle.walrus_parser.specs.Advancing.{Keeps, Advances, IsFate, IsStep}
use Rattle.walrus_parser.specs.BodyParsers.{state_with, state_of, with_appended, IsSameBody}
use Rattle.walrus_context.specs.Placing.{placing}
use Rattle.walrus_parser.proofs.Frames.{taken, taken_alive, taken_unreachable}
use Rattle.walrus_parser.proofs.Labels.{holds_length, AreSeenAs, holds_seen}
use Rattle.walrus_parser.proofs.NextSequences.{some_open}
use Rattle.walrus_parser.proofs.Placements.{placed_named, placed_refused}
use Rattle.walrus_parser.proofs.Roles.{DoesAs, does_as, fate_by, fate_of_role}
use Rattle.walrus_parser.proofs.Rules.{named_alone}
use Rattle.walrus_parser.proofs.Steps.{steps_alone, steps_dropped}

abbrev nop_operation : {L B : Type 0} → Operation L B
nop_operation = operation (Byte 0x01) []

makes_unreachable : (action : Action) (unreachable_after : Bool) (t : _) → t ≡ fate_by unreachable_after → IsFate t unreachable_after
makes_unreachable action true t e = subst (λ u. IsFate u true) (sym e) refl
makes_unreachable action false t e = subst (λ u. IsFate u false) (sym e) refl

taken_as : (x : _) (unreachable_after : Bool) (f : OpenFrame) → with_appended x unreachable_after f ≡ taken x unreachable_after f
taken_as x true f = sym (taken_unreachable x f)
taken_as x false f = sym (taken_alive x f)

module _ (env : Environment) (o : RawOperation) (unreachable_after : Bool) (role : fate_of_role (role_of o.opcode) ≡ Some (fate_by unreachable_after)) where
  -- the name does the same to the control as the operator
  named_does : (fs : List (SequenceFrame Occurrence)) (named : NamedOperation) → translate (naming env fs) o ≡ Ok named → DoesAs (control_of named) (fate_by unreachable_after)
  named_does fs named e =
      let made = bound (translate_immediates (naming env fs) o.immediates) (λ is. Ok (record { opcode = o.opcode; immediates = is })) named e in
      let is : named ≡ record { opcode = o.opcode; immediates = made.0 } = cc made.2 in
      let does = does_as (role_of o.opcode) (fate_by unreachable_after) made.0 role in
      record { action = does.action; does = ap control_of is ∙ does.does; has_fate = does.has_fate }

  named_as_translated : (ls : List (Layer Occurrence)) → named_in env (frames_of ls) o ≡ translate (naming env (frames_of ls)) o
  named_as_translated ls = by_frames ls
    where
      raw : DoesAs (control_of o) (fate_by unreachable_after)
      raw = does_as (role_of o.opcode) (fate_by unreachable_after) o.immediates role

      by_frames : (ks : List (Layer Occurrence)) → named_in env (frames_of ks) o ≡ translate (naming env (frames_of ks)) o
      by_frames [] = named_alone env OfFunction [] o raw.action raw.does (λ named e. let d = named_does (OfFunction ∷ []) named e in (d.action, d.does))
      by_frames (k ∷ ks) =
          named_alone env (frame_of k.construct) (frames_of ks) o raw.action raw.does (λ named e. let d = named_does (frame_of k.construct ∷ frames_of ks) named e in (d.action, d.does))

module _ (c d : OpenTrees) (ifs : List IfElseState) (ls : List (Layer Occurrence)) (s : Sequence Occurrence) (o : RawOperation) (place location : ℕ) (unreachable_after : Bool)
    (role : fate_of_role (role_of o.opcode) ≡ Some (fate_by unreachable_after)) (keeps : Keeps (env_of c) (state_with c ifs) ls s) where
  seen : AreSeenAs (frames_of ls) c.frames
  seen = holds_seen (env_of c) c.builder.sequences ls s (length c.builder.sequences) c.frames ifs keeps

  -- an id or a label isn't found
  pub refused_alone : (e : ParseError) → translate (placing (env_of c) c.frames) o ≡ Err e → named_in (env_of c) (frames_of ls) o ≡ Err e
  refused_alone e is = named_as_translated (env_of c) o unreachable_after role ls ∙ placed_refused (env_of c) (frames_of ls) c.frames seen o e is

  module _ (i : Instr) (placed : translate (placing (env_of c) c.frames) o ≡ Ok (operation_of i)) (alone : slots_in i ≡ []) (no_clauses : clauses_of_try i ≡ []) where
    kept_alone : (f : OpenFrame) (fs : List OpenFrame) → c.frames ≡ f ∷ fs → d ≡ record c { frames = changed_at 0 (with_appended (i, location) unreachable_after) c.frames } → Advances (env_of c) (state_with d ifs) ls s o place location
    kept_alone f fs frames is =
        let n = placed_named (env_of c) (frames_of ls) c.frames seen o (operation_of i) placed in
        let does = named_does (env_of c) o unreachable_after role (frames_of ls) n.named n.is_named in
        steps_alone (env_of c) (state_with c ifs) ls s o place location keeps (state_with d ifs) f fs n.named does.action i unreachable_after frames
        (named_as_translated (env_of c) o unreachable_after role ls ∙ n.is_named) does.does (makes_unreachable does.action unreachable_after _ does.has_fate) alone no_clauses n.kept
        (ap (λ z. state_with z ifs) is
        ∙ ap (λ gs. state_with (record c { frames = changed_at 0 (with_appended (i, location) unreachable_after) gs }) ifs) frames
        ∙ ap (λ g. state_with (record c { frames = g ∷ fs }) ifs) (taken_as (i, location) unreachable_after f))

    -- the instruction is appended, or memory runs out
    pub appended_alone : (r : Result (Unit {0}) ParseError) → OnOk r ((0 < length c.frames) × (d ≡ record c { frames = changed_at 0 (with_appended (i, location) unreachable_after) c.frames })) →
        IfErr r (λ e. (e ≡ Memory) ⊎ ((e ≡ NoFrame) × (length c.frames ≤ 0))) → IsStep (env_of c) (state_with d ifs) ls s o place location r
    appended_alone (Ok u) ok err = by_frames c.frames refl ok
      where
        by_frames : (fs : List OpenFrame) → c.frames ≡ fs → (0 < length c.frames) × (d ≡ record c { frames = changed_at 0 (with_appended (i, location) unreachable_after) c.frames }) → Advances (env_of c) (state_with d ifs) ls s o place location
        by_frames [] e h = absurd (some_open (env_of c) (state_with c ifs) ls s keeps e)
        by_frames (f ∷ fs) e h = kept_alone f fs e h.1
    appended_alone (Err e) ok (inl is) = inl is
    appended_alone (Err e) ok (inr is) = absurd (by_frames c.frames refl is.1)
      where
        by_frames : (fs : List OpenFrame) → c.frames ≡ fs → length c.frames ≤ 0 → ⊥
        by_frames [] q l = some_open (env_of c) (state_with c ifs) ls s keeps q
        by_frames (f ∷ fs) q l = let n : length c.frames ≡ length (f ∷ fs) = ap length q in (let z : ⊥ = absurd (omega arith) in z)

-- `nop` is dropped
pub passes_nop : (c : OpenTrees) (ifs : List IfElseState) (ls : List (Layer Occurrence)) (s : Sequence Occurrence) (place location : ℕ) → Keeps (env_of c) (state_with c ifs) ls s →
    Advances (env_of c) (state_with c ifs) ls s nop_operation place location
passes_nop c ifs ls s place location keeps = by_frames c.frames refl
  where
    is_named : (ks : List (Layer Occurrence)) → named_in (env_of c) (frames_of ks) nop_operation ≡ Ok nop_operation
    is_named [] = refl
    is_named (k ∷ ks) = refl

    by_frames : (fs : List OpenFrame) → c.frames ≡ fs → Advances (env_of c) (state_with c ifs) ls s nop_operation place location
    by_frames [] e = absurd (some_open (env_of c) (state_with c ifs) ls s keeps e)
    by_frames (f ∷ fs) e = steps_dropped (env_of c) (state_with c ifs) ls s nop_operation place location keeps f fs nop_operation Nop e (is_named ls) refl refl

-- the parse is still that of the same body
pub same_body : (c d : OpenTrees) (x : LocatedInstr) (unreachable_after : Bool) (r : Result (Unit {0}) ParseError) →
    OnOk r ((0 < length c.frames) × (d ≡ record c { frames = changed_at 0 (with_appended x unreachable_after) c.frames })) → OnOk r (IsSameBody c d)
same_body c d x unreachable_after (Ok u) h = record { env = ap env_of h.1; entry = ap (λ (t : OpenTrees). t.builder.entry) h.1 }
same_body c d x unreachable_after (Err e) h = tt

-- ---- how many frames are open

-- if only one frame is open, no construct is
pub no_layers : (p : BodyParser) (ls : List (Layer Occurrence)) (s : Sequence Occurrence) → Keeps (env_of p.context) (state_of p) ls s → length p.context.frames ≤ 1 → ls ≡ []
no_layers p [] s keeps few = refl
no_layers p (l ∷ ls) s keeps few = absurd (some_layer ls (holds_length (env_of p.context) p.context.builder.sequences (l ∷ ls) s (length p.context.builder.sequences) p.context.frames (reverse p.if_else.items) keeps))
  where
    some_layer : (ks : List (Layer Occurrence)) → length p.context.frames ≡ length (frames_of (l ∷ ks)) → ⊥
    some_layer [] e = (let two : length p.context.frames ≡ 2 = e in absurd (omega arith))
    some_layer (k ∷ ks) e = (let more : length p.context.frames ≡ suc (suc (length (frames_of ks))) = e in absurd (omega arith))
