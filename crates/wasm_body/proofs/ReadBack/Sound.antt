-- Operators that keep the rules in their places, by their names, and that have encodings: those of a lawful body that was
-- encoded, and those of the rewritten body.
use Rattle.std.proofs.Common.{◌≡◌, ℕ, List, [], ◌∷◌, map, Bool, true, false, Some, Ok, refl, sym, ap, ◌∙◌, subst, arith}
use Rattle.std.specs.Prelude.{◌&&◌}
use Rattle.std.specs.List.{AllByRecursion}
use Rattle.walrus_ir.specs.Types.{Signature}
use Rattle.walrus_ir.specs.Locations.{default_location}
use Rattle.wasm_operators.specs.declared.types.Opcode.TheVariants.{Byte}
use Rattle.wasm_operators.specs.Operations.{Immediate, outer, RawOperation}
use Rattle.wasm_operators.specs.Opcodes.{IsOpcode, kinds_of, kinds_of_byte}
use Rattle.wasm_operators.specs.Spelling.{Spells}
use Rattle.wasm_body.specs.Control.{Role, a_delegate, role_of, Control, Does, Opens, If, Else, Catch, CatchAll, End, Delegate, control_of, control_by, Action, Marked, with_control}
use Rattle.wasm_body.specs.SourceTree.{Sequence, Empty, Single, Wrapped, IfThen, IfElse, TryCatch, TryDelegate, Clauses, Ended, Catches, CatchesAll}
use Rattle.wasm_body.specs.Frames.{SequenceFrame, OfWrapper, Consequent, Alternative, TryBody, Handler, HandlerOfAll, Follows, FollowsIn, is_allowed}
use Rattle.wasm_body.specs.Translation.{translate, translate_immediates}
use Rattle.wasm_body.specs.Naming.{Environment, NamedOperation, Occurrence, naming, block_types}
use Rattle.wasm_body.specs.Parsing.Accepted.{IsNamed}
use Rattle.wasm_body.specs.NormalForm.{typing_of, name_at, Fate, Drops, Stays, MakesUnreachable, fate}
use Rattle.wasm_body.specs.FunctionTree.{last_location}
use Rattle.wasm_body.specs.Typed.{HasSignatures}
use Rattle.wasm_body.proofs.Structure.Along.{HasControl}
use Rattle.wasm_body.proofs.Parsing.NamingLemmas.{same_opcode, named_parts}
use Rattle.wasm_body.proofs.Bytes.NumberedBodies.{HasText, named_kinds}
use Rattle.wasm_body.proofs.Bytes.LawfulTyped.{named_typed}
use Rattle.wasm_body.specs.RewrittenTree.{end_at, else_at, catch_at, catch_all_at, delegate_at, single_with_fate, is_empty_sequence, written_if, rewritten, rewritten_clauses}
use Rattle.wasm_body.proofs.NormalForm.Rewritten.{Named, typed_control}
use Rattle.wasm_body.proofs.NormalForm.WrittenTexts.{type_at}
use Rattle.wasm_body.proofs.NormalForm.ByNames.{op_of}
use Rattle.wasm_body.proofs.NormalForm.NamedTexts.{signatures_at}
use Rattle.wasm_body.proofs.ReadBack.FrameNames.{map_frames, named_of, results_at, types_in, ruling, KeepsRules, is_ruled, named_immediates}
use Rattle.wasm_body.proofs.Bytes.ClauseKinds.{delegate_needs}
use Rattle.wasm_body.proofs.Translation.Kinds.{kind_in, only_outer}
use Rattle.wasm_body.proofs.ReadBack.Spellings.{IsSpellable}
use Rattle.wasm_body.proofs.ReadBack.Ranged.{IsRanged, all_ranged}

-- The conditions under which a named operator has an encoding, its ids and labels aside.
pub record CanSpell (o : NamedOperation) : Type 0 where
  pub opcode : IsSpellable IsOpcode o.opcode
  pub kinds : kinds_of o.opcode ≡ Some (map kind_in o.immediates)
  pub ranged : AllByRecursion (λ (i : Immediate ℕ Signature). IsRanged i) o.immediates

-- The conditions on each operator in its place.
pub record IsSound (env : Environment) (fs : List (SequenceFrame Named)) (x : Marked Named) : Type 0 where
  pub ruled : KeepsRules env (map_frames op_of fs) x.shown.op
  pub has_control : HasControl x.shown x.control
  pub has_signatures : HasSignatures (typing_of env) (type_at (typing_of env) x.control x.shown.op) (block_types x.shown.op.immediates)
  pub spellable : CanSpell x.shown.op

-- ---- an operator of a lawful body

can_spell : (env : Environment) (fs : List (SequenceFrame Occurrence)) (o : RawOperation) (named : NamedOperation) (text : List ℕ) → Spells o text → translate (naming env fs) o ≡ Ok named → CanSpell named
can_spell env fs o named text s e =
    let opcode : named.opcode ≡ o.opcode = same_opcode (naming env fs) o named e in
    let immediates = named_immediates env fs o named e in
    record {
      opcode = subst (IsSpellable IsOpcode) (sym opcode) (s.first, s.opcode);
      kinds = named_kinds env fs o named e s.kinds;
      ranged = all_ranged env fs o.immediates s.others s.immediates named.immediates immediates;
    }

-- the conditions on it besides its name
abbrev pub IsSpeltThere : Occurrence → Control → Type 0
IsSpeltThere x c = (control_of x.named ≡ c) × HasText x

pub occurrence_sound : (env : Environment) (fs : List (SequenceFrame Occurrence)) (gs : List (SequenceFrame Named)) (x : Occurrence) (c : Control)
    → map_frames named_of fs ≡ map_frames op_of gs → IsNamed env fs (with_control x c) → IsSpeltThere x c → IsSound env gs (with_control (name_at x) c)
occurrence_sound env fs gs x c same e p =
    let m = typing_of env in
    let translated = (named_parts env fs x.spelt x.named e).translated in
    record {
      ruled = subst (λ l. KeepsRules env l x.named) same (is_ruled env fs x.spelt x.named e);
      has_control = p.0;
      has_signatures = signatures_at m c x.named (typed_control m (name_at x) c (p.0, named_typed env fs x.spelt x.named p.1.1.kinds e));
      spellable = can_spell env fs x.spelt x.named p.1.0 p.1.1 translated;
    }

-- ---- the operators that part and close constructs

delegate_role : (r : Role) (is : List (Immediate ℕ Signature)) (n : ℕ) → control_by r is ≡ Delegate n → r ≡ a_delegate
delegate_role a_delegate is n e = refl
delegate_role _ is n e = absurd cc

one_byte : (b : ℕ) → IsOpcode (Byte b) (b ∷ []) → IsSpellable IsOpcode (Byte b)
one_byte b h = (b ∷ [], h)

module _ (env : Environment) where
  end_sound : (f : SequenceFrame Named) (fs : List (SequenceFrame Named)) (l : ℕ) → IsSound env (f ∷ fs) (with_control (end_at l) End)
  unfolding kinds_of_byte
  end_sound f fs l = record {
    ruled = record { allowed = refl; keeps = refl; typed = refl };
    has_control = refl;
    has_signatures = tt;
    spellable = record { opcode = one_byte 0x0b (refl, omega arith, refl); kinds = refl; ranged = tt };
  }

  else_sound : (a : Named) (fs : List (SequenceFrame Named)) (l : ℕ) → IsSound env (Consequent a ∷ fs) (with_control (else_at l) Else)
  unfolding kinds_of_byte
  else_sound a fs l = record {
    ruled = record { allowed = refl; keeps = refl; typed = refl };
    has_control = refl;
    has_signatures = tt;
    spellable = record { opcode = one_byte 0x05 (refl, omega arith, refl); kinds = refl; ranged = tt };
  }

  catch_sound : (fs : List (SequenceFrame Named)) (h : Named) (t l : ℕ) → IsSound env fs (with_control h (Catch t)) → IsSound env fs (with_control (catch_at t l) (Catch t))
  unfolding kinds_of_byte
  catch_sound fs h t l s = record {
    ruled = record {
      allowed = subst (λ c. is_allowed (map_frames op_of fs) c ≡ true) s.has_control s.ruled.allowed;
      keeps = refl;
      typed = subst (λ c. types_in env (results_at (map_frames op_of fs)) c h.op ≡ Ok tt) s.has_control s.ruled.typed;
    };
    has_control = refl;
    has_signatures = tt;
    spellable = record { opcode = one_byte 0x07 (refl, omega arith, refl); kinds = refl; ranged = (tt, tt) };
  }

  catch_all_sound : (fs : List (SequenceFrame Named)) (h : Named) (l : ℕ) → IsSound env fs (with_control h CatchAll) → IsSound env fs (with_control (catch_all_at l) CatchAll)
  unfolding kinds_of_byte
  catch_all_sound fs h l s = record {
    ruled = record {
      allowed = subst (λ c. is_allowed (map_frames op_of fs) c ≡ true) s.has_control s.ruled.allowed;
      keeps = refl;
      typed = subst (λ c. types_in env (results_at (map_frames op_of fs)) c h.op ≡ Ok tt) s.has_control s.ruled.typed;
    };
    has_control = refl;
    has_signatures = tt;
    spellable = record { opcode = one_byte 0x19 (refl, omega arith, refl); kinds = refl; ranged = tt };
  }

  -- the depth of a `delegate` is its only immediate
  delegate_depth : (fs : List (SequenceFrame Named)) (e : Named) (n : ℕ) → IsSound env fs (with_control e (Delegate n)) → e.op.immediates ≡ outer n ∷ []
  delegate_depth fs e n s =
      let role = delegate_role (role_of e.op.opcode) e.op.immediates n s.has_control in
      let kinds = delegate_needs e.op.opcode (map kind_in e.op.immediates) s.spellable.kinds role in
      let depth = only_outer e.op.immediates kinds in
      let alone : List (Immediate ℕ Signature) = outer depth.0 ∷ [] in
      let control : control_by a_delegate alone ≡ Delegate n =
      ap (control_by a_delegate) (sym depth.1) ∙ (ap (λ r. control_by r e.op.immediates) (sym role) ∙ s.has_control) in
      let same : depth.0 ≡ n = cc control in
      depth.1 ∙ ap (λ k. outer k ∷ []) same

  delegate_sound : (fs : List (SequenceFrame Named)) (e : Named) (n l : ℕ) → IsSound env fs (with_control e (Delegate n)) → IsSound env fs (with_control (delegate_at n l) (Delegate n))
  unfolding kinds_of_byte
  delegate_sound fs e n l s =
      let depth = delegate_depth fs e n s in
      record {
        ruled = record {
          allowed = subst (λ c. is_allowed (map_frames op_of fs) c ≡ true) s.has_control s.ruled.allowed;
          keeps = subst (λ is. translate_immediates (ruling (map_frames op_of fs)) is ≡ Ok is) depth s.ruled.keeps;
          typed = refl;
        };
        has_control = refl;
        has_signatures = tt;
        spellable = record {
          opcode = one_byte 0x18 (refl, omega arith, refl);
          kinds = refl;
          ranged = subst (λ is. AllByRecursion (λ (i : Immediate ℕ Signature). IsRanged i) is) depth s.spellable.ranged;
        };
      }

  -- ---- the rewritten body

  fate_sound : (f : Fate) (fs : List (SequenceFrame Named)) (a : Named) (action : Action) (r : Sequence Named) → IsSound env fs (with_control a (Does action)) → Follows (IsSound env) fs r → Follows (IsSound env) fs (single_with_fate f a action r)
  fate_sound Drops fs a action r h g = g
  fate_sound Stays fs a action r h g = (h, g)
  fate_sound MakesUnreachable fs a action r h g = (h, tt)

  if_sound : (t : Bool) (fs : List (SequenceFrame Named)) (a : Named) (b : Sequence Named) (l : ℕ) (c : Sequence Named) (n : ℕ) (r : Sequence Named)
      → IsSound env fs (with_control a (Opens If)) → Follows (IsSound env) (Consequent a ∷ fs) b → Follows (IsSound env) (Alternative a ∷ fs) c
      → Follows (IsSound env) fs r → Follows (IsSound env) fs (written_if t a b l c n r)
  if_sound true fs a b l c n r h f g k = (h, f, end_sound (Consequent a) fs (last_location l n), k)
  if_sound false fs a b l c n r h f g k = (h, f, else_sound a fs l, g, end_sound (Alternative a) fs n, k)

  module _ (balanced : NamedOperation → Bool) where
    mutual
      pub rewritten_sound : (fs : List (SequenceFrame Named)) (s : Sequence Named) → Follows (IsSound env) fs s → Follows (IsSound env) fs (rewritten balanced s)
      rewritten_sound fs Empty h = tt
      rewritten_sound fs (Single a action r) h = fate_sound (fate action) fs a action (rewritten balanced r) h.0 (rewritten_sound fs r h.1)
      rewritten_sound fs (Wrapped a w b e r) h = (h.0, rewritten_sound (OfWrapper a ∷ fs) b h.1, end_sound (OfWrapper a) fs e.location, rewritten_sound fs r h.3)
      rewritten_sound fs (IfThen a b e r) h =
          if_sound (balanced a.op) fs a (rewritten balanced b) e.location Empty default_location (rewritten balanced r)
          h.0 (rewritten_sound (Consequent a ∷ fs) b h.1) tt (rewritten_sound fs r h.3)
      rewritten_sound fs (IfElse a b l c e r) h =
          if_sound (balanced a.op && is_empty_sequence (rewritten balanced c)) fs a (rewritten balanced b) l.location (rewritten balanced c) e.location (rewritten balanced r)
          h.0 (rewritten_sound (Consequent a ∷ fs) b h.1) (rewritten_sound (Alternative a ∷ fs) c h.3) (rewritten_sound fs r h.5)
      rewritten_sound fs (TryCatch a b cs r) h = (h.0, rewritten_sound (TryBody a ∷ fs) b h.1, clauses_sound fs a (TryBody a) cs h.2, rewritten_sound fs r h.3)
      rewritten_sound fs (TryDelegate a b e n r) h = (h.0, rewritten_sound (TryBody a ∷ fs) b h.1, delegate_sound (TryBody a ∷ fs) e n default_location h.2, rewritten_sound fs r h.3)

      clauses_sound : (fs : List (SequenceFrame Named)) (a : Named) (f : SequenceFrame Named) (cs : Clauses Named) → FollowsIn (IsSound env) fs a f cs → FollowsIn (IsSound env) fs a f (rewritten_clauses balanced cs)
      clauses_sound fs a f (Ended e) h = end_sound f fs e.location
      clauses_sound fs a f (Catches i t b cs) h = (catch_sound (f ∷ fs) i t i.location h.0, rewritten_sound (Handler a ∷ fs) b h.1, clauses_sound fs a (Handler a) cs h.2)
      clauses_sound fs a f (CatchesAll i b e) h = (catch_all_sound (f ∷ fs) i i.location h.0, rewritten_sound (HandlerOfAll a ∷ fs) b h.1, end_sound (HandlerOfAll a) fs e.location)

  pub close_sound : (fs : List (SequenceFrame Named)) (f : SequenceFrame Named) (l : ℕ) → IsSound env (f ∷ fs) (with_control (end_at l) End)
  close_sound fs f l = end_sound f fs l
