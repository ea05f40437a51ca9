-- One operator that is checked: it has a name, and what is kept is that of the frames after it; or this is the first rule that it
-- breaks.
use Rattle.std.proofs.Common.{◌≡◌, ℕ, List, [], ◌∷◌, map, Bool, true, false, Some, Ok, Err, refl, sym, ap, subst, ◌∙◌}
use Rattle.std.specs.Prelude.{◌||◌, cond}
use Rattle.walrus_ir.specs.declared.control.BlockKind.{BlockKind}
use Rattle.walrus_ir.specs.declared.control.BlockKind.TheVariants as kind
use Rattle.walrus_ir.specs.declared.val_type.InstrSeqType.{InstrSeqType}
use Rattle.walrus_ir.specs.Types.{Signature, signature_of_type}
use Rattle.wasm_numbers.specs.Results.{◌>>=◌, each}
use Rattle.walrus_ir.specs.Unfolding.{among}
use Rattle.wasm_operators.specs.declared.types.BlockType.{BlockType}
use Rattle.wasm_operators.specs.Operations.{Immediate, RawImmediate, local, block, operation, RawOperation}
use Rattle.wasm_body.specs.declared.error.ParseError.{ParseError}
use Rattle.wasm_body.specs.Control.{Construct, Block, Loop, TryTable, If, Try, Control, Does, Opens, role_of, control_of}
use Rattle.wasm_body.specs.Frames.{SequenceFrame, frame_opened, moves}
use Rattle.wasm_body.specs.Translation.{Translation, translate, translate_immediate, translate_immediates, at_location}
use Rattle.wasm_body.specs.Naming.{Environment, NamedOperation, Occurrence, naming, name_block, block_signature, has_pick, named_in}
use Rattle.wasm_body.specs.NormalForm.{Fate, fate}
use Rattle.wasm_body.specs.LocalNumbers.{locals_among}
use Rattle.wasm_body.specs.TextLaws.{mark_named}
use Rattle.wasm_body.proofs.Translation.Steps.{bound}
use Rattle.wasm_body.proofs.Translation.Kinds.{kind_in, kind_kept, through, at_once}
use Rattle.wasm_body.proofs.Translation.LocalsKept.{before, first_local, IsNoLocal, no_local}
use Rattle.walrus_parser.proofs.Roles.{DoesAs, does_as, fate_by, fate_of_role}
use Rattle.walrus_parser.proofs.Rules.{named_alone}
use Rattle.wasm_body.specs.Flat.{unreachability, unreachability_after, plain_unreachability, unless_dropped, own_locals, live_locals}
use Rattle.walrus_flat.specs.declared.open_sequence.OpenSequence.{OpenSequence}
use Rattle.walrus_flat.specs.Checked.{IsWrapper, IsFrame, AreFrames, CheckState, unreachability_of, Passes}

-- ---- locals

none_before : {L B : Type 0} (i : Immediate L B) (ns : List ℕ) → before i ns ≡ [] → IsNoLocal (kind_in i) × (ns ≡ [])
none_before (local n) ns e = absurd cc
none_before _ ns e = (tt, e)

-- an operator that names no local has a name that names none
module _ {L B M C E : Type 0} (t : Translation L B M C E) where
  pub none_kept : (is : List (Immediate L B)) (js : List (Immediate M C)) → translate_immediates t is ≡ Ok js → locals_among is ≡ [] → locals_among js ≡ []
  none_kept [] js e n = at_once [] (λ ks. locals_among ks ≡ []) refl js e
  none_kept (i ∷ is) js e n =
      let none = none_before i (locals_among is) (sym (first_local i is) ∙ n) in
      let first = bound (translate_immediate t i) (λ k. each (translate_immediate t) is >>= λ ks. Ok (k ∷ ks)) js e in
      through (each (translate_immediate t) is) (λ ks. first.0 ∷ ks) (λ ks. locals_among ks ≡ [])
      (λ ks h. first_local first.0 ks ∙ (no_local first.0 (locals_among ks) (subst IsNoLocal (sym (kind_kept t i first.0 first.1)) none.0) ∙ none_kept is ks h none.1)) js first.2

-- ---- what is unreachable

plain_is : (d unreachable_after : Bool) → (unreachable_after || d) ≡ plain_unreachability d (fate_by unreachable_after)
plain_is true true = refl
plain_is true false = refl
plain_is false true = refl
plain_is false false = refl

unless_kept : (unreachable_after : Bool) (f : Fate) (ls : List ℕ) → f ≡ fate_by unreachable_after → unless_dropped f ls ≡ ls
unless_kept true f ls e = ap (λ g. unless_dropped g ls) e
unless_kept false f ls e = ap (λ g. unless_dropped g ls) e

live_is : (d : Bool) (x : ℕ) (named : NamedOperation) (location : ℕ) (ls : List ℕ) → own_locals (control_of named) (at_location named location) ≡ ls →
    cond d false (among x ls) ≡ among x (live_locals d (mark_named (at_location named location)))
live_is true x named location ls e = refl
live_is false x named location ls e = ap (among x) (sym e)

-- an operator that names no local adds none
pub none_live : (d : Bool) (x : ℕ) (b : Bool) (named : NamedOperation) (location : ℕ) → own_locals (control_of named) (at_location named location) ≡ [] →
    b ≡ (among x (live_locals d (mark_named (at_location named location))) || b)
none_live d x b named location e = by_unreachable d
  where
    by_unreachable : (k : Bool) → b ≡ (among x (live_locals k (mark_named (at_location named location))) || b)
    by_unreachable true = refl
    by_unreachable false = ap (λ ls. among x ls || b) (sym e)

-- kinds of the first sequences of constructs
abbrev pub IsOpenedAs : BlockKind → Construct → Type 0
IsOpenedAs k Block = IsWrapper k
IsOpenedAs k Loop = IsWrapper k
IsOpenedAs k (TryTable cs) = IsWrapper k
IsOpenedAs k If = k ≡ kind.If
IsOpenedAs k Try = k ≡ kind.Try

module _ (env : Environment) (g : SequenceFrame Occurrence) (gs : List (SequenceFrame Occurrence)) where
  -- ---- an operator by itself

  -- the immediates of the name
  pub named_immediates : (o : RawOperation) (named : NamedOperation) → translate (naming env (g ∷ gs)) o ≡ Ok named →
      (is : List (Immediate ℕ Signature)) × (translate_immediates (naming env (g ∷ gs)) o.immediates ≡ Ok is) × (named ≡ operation o.opcode is)
  named_immediates o named e =
      let b = bound (translate_immediates (naming env (g ∷ gs)) o.immediates) (λ is. Ok (operation o.opcode is)) named e in
      let made : operation o.opcode b.0 ≡ named = cc b.2 in (b.0, b.1, sym made)

  module _ (o : RawOperation) (unreachable_after : Bool) (role : fate_of_role (role_of o.opcode) ≡ Some (fate_by unreachable_after)) where
    pub does : (named : NamedOperation) → translate (naming env (g ∷ gs)) o ≡ Ok named → DoesAs (control_of named) (fate_by unreachable_after)
    does named e =
        let m = named_immediates o named e in
        let d = does_as (role_of o.opcode) (fate_by unreachable_after) m.0 role in
        record { action = d.action; does = ap control_of m.2 ∙ d.does; has_fate = d.has_fate }

    raw : DoesAs (control_of o) (fate_by unreachable_after)
    raw = does_as (role_of o.opcode) (fate_by unreachable_after) o.immediates role

    pub alone_named : named_in env (g ∷ gs) o ≡ translate (naming env (g ∷ gs)) o
    alone_named = named_alone env g gs o raw.action raw.does (λ named e. let d = does named e in (d.action, d.does))

    pub passes_alone : (old new : CheckState) → AreFrames env.types old.frames (g ∷ gs) → (named : NamedOperation) → translate (naming env (g ∷ gs)) o ≡ Ok named →
        new.frames ≡ old.frames → new.unreachable ≡ (unreachable_after || old.unreachable) → ((x : ℕ) → new.used x ≡ (cond old.unreachable false (among x (locals_among named.immediates)) || old.used x)) →
        Passes env old new (g ∷ gs) o
    passes_alone old new are named e frames unreachable used =
        let d = does named e in
        record {
          named = named;
          is_named = alone_named ∙ e;
          frames = λ x n hs m.
              let stays : moves (Does d.action) x (g ∷ gs) ≡ Some hs = subst (λ c. moves c x (g ∷ gs) ≡ Some hs) d.does m in
              let same : g ∷ gs ≡ hs = cc stays in
              subst (AreFrames env.types new.frames) same (subst (λ fs. AreFrames env.types fs (g ∷ gs)) (sym frames) are);
          unreachable =
              (λ i. unreachability ((unreachable ∙ (plain_is old.unreachable unreachable_after ∙ ap (plain_unreachability old.unreachable) (sym d.has_fate))) i) (map (λ (f : OpenSequence). f.before) (frames i)))
              ∙ ap (unreachability_after (unreachability_of old)) (sym d.does);
          used = λ location x.
              let own : own_locals (control_of named) (at_location named location) ≡ locals_among named.immediates =
              ap (λ c. own_locals c (at_location named location)) d.does ∙ unless_kept unreachable_after (fate d.action) (locals_among named.immediates) d.has_fate in
              used x ∙ ap (λ b. b || old.used x) (live_is old.unreachable x named location (locals_among named.immediates) own);
        }

  -- ---- openers

  opened_frame : (f : OpenSequence) (construct : Construct) (x : Occurrence) → IsOpenedAs f.kind construct → signature_of_type env.types f.ty ≡ Some (block_signature x.named) → IsFrame env.types f (frame_opened x construct)
  opened_frame f Block x h t = (h, t)
  opened_frame f Loop x h t = (h, t)
  opened_frame f (TryTable cs) x h t = (h, t)
  opened_frame f If x h t = (h, t)
  opened_frame f Try x h t = (h, t)

  -- the parameters and results of the block type that an opener begins with
  pub opener_signature : (o : RawOperation) (b : BlockType) (is : List RawImmediate) → o.immediates ≡ block b ∷ is → (named : NamedOperation) → translate (naming env (g ∷ gs)) o ≡ Ok named →
      name_block env b ≡ Ok (block_signature named)
  opener_signature o b is shape named e =
      let m = named_immediates o named e in
      let begun : translate_immediates (naming env (g ∷ gs)) (block b ∷ is) ≡ Ok m.0 = ap (translate_immediates (naming env (g ∷ gs))) (sym shape) ∙ m.1 in
      let first = bound (translate_immediate (naming env (g ∷ gs)) (block b)) (λ k. each (translate_immediate (naming env (g ∷ gs))) is >>= λ ks. Ok (k ∷ ks)) m.0 begun in
      let made = bound (name_block env b) (λ s. Ok (block s)) first.0 first.1 in
      let block_is : block made.0 ≡ first.0 = cc made.2 in
      let others = bound (each (translate_immediate (naming env (g ∷ gs))) is) (λ ks. Ok (first.0 ∷ ks)) m.0 first.2 in
      let all_are : first.0 ∷ others.0 ≡ m.0 = cc others.2 in
      let whole : operation o.opcode (block made.0 ∷ others.0) ≡ named = (λ i. operation o.opcode (block_is i ∷ others.0)) ∙ (ap (operation o.opcode) all_are ∙ sym m.2) in
      made.1 ∙ ap (λ (n : NamedOperation). Ok (block_signature n)) whole

  opener_named : (o : RawOperation) (c d : Construct) (named : NamedOperation) → control_of o ≡ Opens c → translate (naming env (g ∷ gs)) o ≡ Ok named → control_of named ≡ Opens d →
      named_in env (g ∷ gs) o ≡ (has_pick env (block_signature named) >>= λ _. Ok named)
  opener_named o c d named raw e is = rw (raw, e, is) refl

  pub opener_refused : (o : RawOperation) (c : Construct) (f : ParseError) → control_of o ≡ Opens c → translate (naming env (g ∷ gs)) o ≡ Err f → named_in env (g ∷ gs) o ≡ Err f
  opener_refused o c f raw e = rw (raw, e) refl

  pub pick_refused : (o : RawOperation) (c d : Construct) (named : NamedOperation) (f : ParseError) → control_of o ≡ Opens c → translate (naming env (g ∷ gs)) o ≡ Ok named → control_of named ≡ Opens d →
      has_pick env (block_signature named) ≡ Err f → named_in env (g ∷ gs) o ≡ Err f
  pick_refused o c d named f raw e is none = opener_named o c d named raw e is ∙ ap (λ r. r >>= λ _. Ok named) none

  pub passes_opener : (old new : CheckState) (o : RawOperation) (c d : Construct) (k : BlockKind) (t : InstrSeqType) (named : NamedOperation) → AreFrames env.types old.frames (g ∷ gs) →
      control_of o ≡ Opens c → translate (naming env (g ∷ gs)) o ≡ Ok named → control_of named ≡ Opens d → has_pick env (block_signature named) ≡ Ok tt →
      signature_of_type env.types t ≡ Some (block_signature named) → IsOpenedAs k d → locals_among named.immediates ≡ [] →
      new.frames ≡ record { kind = k; ty = t; before = old.unreachable } ∷ old.frames → new.unreachable ≡ old.unreachable → ((x : ℕ) → new.used x ≡ old.used x) → Passes env old new (g ∷ gs) o
  passes_opener old new o c d k t named are raw e is picks typed opened none frames unreachable used =
      record {
        named = named;
        is_named = opener_named o c d named raw e is ∙ ap (λ r. r >>= λ _. Ok named) picks;
        frames = λ x n hs m.
            let goes : moves (Opens d) x (g ∷ gs) ≡ Some hs = subst (λ q. moves q x (g ∷ gs) ≡ Some hs) is m in
            let same : frame_opened x d ∷ g ∷ gs ≡ hs = cc goes in
            let whole : AreFrames env.types (record { kind = k; ty = t; before = old.unreachable } ∷ old.frames) (frame_opened x d ∷ g ∷ gs) =
            (opened_frame (record { kind = k; ty = t; before = old.unreachable }) d x opened (typed ∙ ap (λ (q : NamedOperation). Some (block_signature q)) (sym n)), are) in
            subst (AreFrames env.types new.frames) same (subst (λ fs. AreFrames env.types fs (frame_opened x d ∷ g ∷ gs)) (sym frames) whole);
        unreachable = (λ i. unreachability (unreachable i) (map (λ (f : OpenSequence). f.before) (frames i))) ∙ ap (unreachability_after (unreachability_of old)) (sym is);
        used = λ location x. used x ∙ none_live old.unreachable x (old.used x) named location (ap (λ q. own_locals q (at_location named location)) is ∙ none);
      }

  -- ---- operators that part or close a construct

  pub passes_other : (old new : CheckState) (o : RawOperation) (named : NamedOperation) (c : Control) → named_in env (g ∷ gs) o ≡ Ok named → control_of named ≡ c →
      ((x : Occurrence) (hs : List (SequenceFrame Occurrence)) → moves c x (g ∷ gs) ≡ Some hs → AreFrames env.types new.frames hs) → unreachability_of new ≡ unreachability_after (unreachability_of old) c →
      ((location : ℕ) → own_locals c (at_location named location) ≡ []) → ((x : ℕ) → new.used x ≡ old.used x) → Passes env old new (g ∷ gs) o
  passes_other old new o named c is_named control frames unreachable none used =
      record {
        named = named;
        is_named = is_named;
        frames = λ x n hs m. frames x hs (subst (λ q. moves q x (g ∷ gs) ≡ Some hs) control m);
        unreachable = unreachable ∙ ap (unreachability_after (unreachability_of old)) (sym control);
        used = λ location x. used x ∙ none_live old.unreachable x (old.used x) named location (ap (λ q. own_locals q (at_location named location)) control ∙ none location);
      }
