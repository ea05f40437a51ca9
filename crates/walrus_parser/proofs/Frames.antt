-- The open sequences in another arena, with more room, and with more in the innermost one.
use Rattle.std.specs.Prelude.{◌≡◌, ℕ, zero, suc, ◌<◌, ◌≤◌, List, [], ◌∷◌, ◌++◌, Bool, true, false, ◌||◌, cond, slice_get}
use Rattle.std.proofs.lemmas.List.{append-nil}
use Rattle.std.proofs.Common.{refl, ap, sym, subst, ◌∙◌, arith}
use Rattle.walrus_ir.specs.declared.seq.InstrSeq.{InstrSeq}
use Rattle.walrus_ir.specs.declared.val_type.InstrSeqType.{InstrSeqType}
use Rattle.walrus_ir.specs.Tree.{Items, no_items}
use Rattle.walrus_ir.specs.Unfolding.{SequenceAt, LocatedInstr, AreTreeItems, are_no_items}
use Rattle.wasm_body.specs.SourceTree.{Sequence, map_sequence}
use Rattle.wasm_body.specs.Naming.{Occurrence, Environment}
use Rattle.wasm_body.specs.NormalForm.{typing_of, normal, name_at}
use Rattle.wasm_body.specs.FunctionTree.{Head, Instruction}
use Rattle.wasm_body.specs.Keeping.{is_unreachable_after, joined_items, joined_alive}
use Rattle.wasm_body.specs.TreeOfFunction.{items_in}
use Rattle.wasm_body.specs.Intervals.{RiseIn}
use Rattle.wasm_body.specs.Parsing.Progress.{append, OpenConstruct, InWrapper, InThen, InElse, InTry, InCatch, InCatchAll, Layer}
use Rattle.wasm_body.proofs.NormalForm.KeepingLemmas.{unreachable_append, unreachable_mapped, mapped_append, normal_append}
use Rattle.wasm_body.proofs.NormalForm.ArenaLemmas.{rise-range, all_rise-range, rise-wider, rise-joined, items-joined, in-joined, SameIn, items-same, sequences-same}
use Rattle.walrus_context.specs.declared.frame.IfElseState.{IfElseState}
use Rattle.walrus_context.specs.OpenFrames.{OpenFrame, changed_at, marked_unreachable, with_instr}
use Rattle.walrus_context.specs.Keeping.{slots, IsKeptFrame, IsReserved, Encloses, OpensWith, Holds}

-- ---- the slots of frames

pub slots_changed : (x : LocatedInstr) (n : ℕ) (fs : List OpenFrame) → slots (changed_at n (with_instr x) fs) ≡ slots fs
slots_changed x n [] = refl
slots_changed x zero (f ∷ fs) = refl
slots_changed x (suc n) (f ∷ fs) = ap (λ ps. f.sequence ∷ ps) (slots_changed x n fs)

-- what instructions don't change in frames is the same inside a construct and outside it
pub same_outside : {B : Type 0} → (view : List OpenFrame → B) → ((x : LocatedInstr) (gs : List OpenFrame) → view (changed_at 0 (with_instr x) gs) ≡ view gs) →
    (around before : List ℕ) (slot : ℕ) (p : OpenConstruct Occurrence) (fs outside : List OpenFrame) (ifs other_ifs : List IfElseState) → OpensWith around before slot p fs outside ifs other_ifs → view fs ≡ view outside
same_outside view same around before slot (InWrapper a w) fs outside ifs other_ifs o = ap view o.0.frames ∙ same o.0.opener outside
same_outside view same around before slot (InThen a) fs outside ifs other_ifs o = ap view o.frames
same_outside view same around before slot (InElse a b l) fs outside ifs other_ifs o = ap view o.frames
same_outside view same around before slot (InTry a) fs outside ifs other_ifs o = ap view o.0.frames ∙ same o.0.opener outside
same_outside view same around before slot (InCatch a b gs h t) fs outside ifs other_ifs o = ap view o.0.frames ∙ same o.0.opener outside
same_outside view same around before slot (InCatchAll a b gs h) fs outside ifs other_ifs o = ap view o.0.frames ∙ same o.0.opener outside

-- the frames around a construct have the same slots as without it
pub slots_outside : (around before : List ℕ) (slot : ℕ) (p : OpenConstruct Occurrence) (fs outside : List OpenFrame) (ifs other_ifs : List IfElseState) → OpensWith around before slot p fs outside ifs other_ifs → slots fs ≡ slots outside
slots_outside = same_outside slots (λ x gs. slots_changed x 0 gs)

-- ---- the same in another arena, or with more room

kept_same : (env : Environment) (b c : List InstrSeq) (high : ℕ) (f : OpenFrame) (around : List ℕ) (s : Sequence Occurrence) → SameIn b c 0 high → IsKeptFrame env b high f around s → IsKeptFrame env c high f around s
kept_same env b c high f around s same k = record {
  items = k.items;
  are_items = items-same c (suc f.sequence) high (λ p l h. same p (omega arith) h) k.rise k.are_items;
  rise = k.rise;
  is_normal = k.is_normal;
  is_unreachable = k.is_unreachable;
}

pub kept_wider : (env : Environment) (b : List InstrSeq) (high higher : ℕ) (f : OpenFrame) (around : List ℕ) (s : Sequence Occurrence) → high ≤ higher → IsKeptFrame env b high f around s → IsKeptFrame env b higher f around s
kept_wider env b high higher f around s l k = record {
  items = k.items;
  are_items = k.are_items;
  rise = rise-wider (suc f.sequence) (suc f.sequence) k.items high higher (omega arith) l k.rise;
  is_normal = k.is_normal;
  is_unreachable = k.is_unreachable;
}

pub kept_below : (env : Environment) (b : List InstrSeq) (high : ℕ) (f : OpenFrame) (around : List ℕ) (s : Sequence Occurrence) → IsKeptFrame env b high f around s → f.sequence < high
kept_below env b high f around s k = let r = rise-range (suc f.sequence) k.items high k.rise in omega arith

reserved_same : (b c : List InstrSeq) (slot : ℕ) (t : InstrSeqType) → slice_get c slot ≡ slice_get b slot → IsReserved b slot t → IsReserved c slot t
reserved_same b c slot t e r = record { seq = r.seq; in_arena = e ∙ r.in_arena; has_type = r.has_type; has_no_end = r.has_no_end }

encloses_same : (env : Environment) (b c : List InstrSeq) (low : ℕ) (f : OpenFrame) (around : List ℕ) (p : OpenConstruct Occurrence) (before : List ℕ) → SameIn b c 0 (suc f.sequence) → Encloses env b low f around p before → Encloses env c low f around p before
encloses_same env b c low f around p before same o = record {
  inside = o.inside;
  are_sequences = sequences-same c low f.sequence (λ q l h. same q (omega arith) (omega arith)) o.rise o.are_sequences;
  rise = o.rise;
  is_normal = o.is_normal;
  reserved = reserved_same b c f.sequence _ (same f.sequence (omega arith) (omega arith)) o.reserved;
  kind = o.kind;
  takes = o.takes;
  gives = o.gives;
}

pub holds_same : (env : Environment) (b c : List InstrSeq) (ls : List (Layer Occurrence)) (s : Sequence Occurrence) (high : ℕ) (fs : List OpenFrame) (ifs : List IfElseState) → SameIn b c 0 high → Holds env b ls s high fs ifs → Holds env c ls s high fs ifs
holds_same env b c [] s high [] ifs same h = absurd h
holds_same env b c [] s high (f ∷ fs) ifs same h =
    let below = kept_below env b high f (slots fs) s h.kept in
    let first = h.first in
    record {
      kept = kept_same env b c high f (slots fs) s same h.kept;
      alone = h.alone;
      reserved = reserved_same b c 0 _ (same 0 (omega arith) (omega arith)) h.reserved;
      first = h.first;
      kind = h.kind;
      no_if = h.no_if;
    }
holds_same env b c (l ∷ ls) s high [] ifs same h = absurd h
holds_same env b c (l ∷ ls) s high (f ∷ fs) ifs same h =
    let below = kept_below env b high f (slots fs) s h.kept in
    let range = all_rise-range h.low h.encloses.inside f.sequence h.encloses.rise in
    record {
      kept = kept_same env b c high f (slots fs) s same h.kept;
      low = h.low;
      before = h.before;
      encloses = encloses_same env b c h.low f (slots fs) l.construct h.before (λ q m n. same q m (omega arith)) h.encloses;
      outside = h.outside;
      other_ifs = h.other_ifs;
      opens = h.opens;
      outer = holds_same env b c ls l.before h.low h.outside h.other_ifs (λ q m n. same q m (omega arith)) h.outer;
    }

-- ---- the innermost frame with other instructions

abbrev pub with_body : OpenFrame → List LocatedInstr → Bool → OpenFrame
with_body f instrs unreachable = record f { instrs = instrs; unreachable = unreachable }

abbrev Kept : Environment → Sequence Occurrence → Items Head Instruction
Kept env s = normal (typing_of env) (map_sequence name_at s)

pub holds_changed : (env : Environment) (b : List InstrSeq) (ls : List (Layer Occurrence)) (s t : Sequence Occurrence) (middle high : ℕ) (f : OpenFrame) (fs : List OpenFrame) (ifs : List IfElseState) (instrs : List LocatedInstr) (unreachable : Bool) →
    (IsKeptFrame env b middle f (slots fs) s → IsKeptFrame env b high (with_body f instrs unreachable) (slots fs) t) →
    Holds env b ls s middle (f ∷ fs) ifs → Holds env b ls t high (with_body f instrs unreachable ∷ fs) ifs
holds_changed env b [] s t middle high f fs ifs instrs unreachable change h =
    record { kept = change h.kept; alone = h.alone; reserved = h.reserved; first = h.first; kind = h.kind; no_if = h.no_if }
holds_changed env b (l ∷ ls) s t middle high f fs ifs instrs unreachable change h = record {
  kept = change h.kept;
  low = h.low;
  before = h.before;
  encloses = record {
    inside = h.encloses.inside;
    are_sequences = h.encloses.are_sequences;
    rise = h.encloses.rise;
    is_normal = h.encloses.is_normal;
    reserved = h.encloses.reserved;
    kind = h.encloses.kind;
    takes = h.encloses.takes;
    gives = h.encloses.gives;
  };
  outside = h.outside;
  other_ifs = h.other_ifs;
  opens = h.opens;
  outer = h.outer;
}

-- ---- a sequence with more after it

kept_append : (env : Environment) (s t : Sequence Occurrence) → Kept env (append s t) ≡ joined_alive (is_unreachable_after s) (Kept env s) (Kept env t)
kept_append env s t =
    ap (normal (typing_of env)) (mapped_append name_at s t)
    ∙ normal_append (typing_of env) (map_sequence name_at s) (map_sequence name_at t)
    ∙ ap (λ d. joined_alive d (Kept env s) (Kept env t)) (unreachable_mapped name_at s)

-- instructions that are the normal form of an added sequence, with their own sequences in slots from `low` on
pub record AreNormal (env : Environment) (b : List InstrSeq) (low high : ℕ) (around : List ℕ) (more : List LocatedInstr) (t : Sequence Occurrence) : Type 0 where
  pub items : Items SequenceAt LocatedInstr
  pub are_items : AreTreeItems b more items
  pub rise : RiseIn low items high
  pub is_normal : items_in around items ≡ Kept env t

pub kept_add : (env : Environment) (b : List InstrSeq) (middle high : ℕ) (f : OpenFrame) (around : List ℕ) (s t : Sequence Occurrence) (more : List LocatedInstr) →
    IsKeptFrame env b middle f around s → f.unreachable ≡ false → AreNormal env b middle high (f.sequence ∷ around) more t → IsKeptFrame env b high (with_body f (f.instrs ++ more) (is_unreachable_after t)) around (append s t)
kept_add env b middle high f around s t more k alive a =
    let continues : is_unreachable_after s ≡ false = sym k.is_unreachable ∙ alive in
    record {
      items = joined_items k.items a.items;
      are_items = items-joined k.are_items a.are_items;
      rise = rise-joined (suc f.sequence) k.items a.items middle high k.rise a.rise;
      is_normal =
          in-joined (f.sequence ∷ around) k.items a.items
          ∙ ap (λ is. joined_items is (items_in (f.sequence ∷ around) a.items)) k.is_normal
          ∙ ap (joined_items (Kept env s)) a.is_normal
          ∙ ap (λ d. joined_alive d (Kept env s) (Kept env t)) (sym continues)
          ∙ sym (kept_append env s t);
      is_unreachable = ap (λ d. d || is_unreachable_after t) (sym continues) ∙ sym (unreachable_append s t);
    }

pub kept_drop : (env : Environment) (b : List InstrSeq) (middle high : ℕ) (f : OpenFrame) (around : List ℕ) (s t : Sequence Occurrence) →
    IsKeptFrame env b middle f around s → f.unreachable ≡ true → middle ≤ high → IsKeptFrame env b high f around (append s t)
kept_drop env b middle high f around s t k unreachable wider =
    let makes_unreachable : is_unreachable_after s ≡ true = sym k.is_unreachable ∙ unreachable in
    record {
      items = k.items;
      are_items = k.are_items;
      rise = rise-wider (suc f.sequence) (suc f.sequence) k.items middle high (omega arith) wider k.rise;
      is_normal = k.is_normal ∙ ap (λ d. joined_alive d (Kept env s) (Kept env t)) (sym makes_unreachable) ∙ sym (kept_append env s t);
      is_unreachable = unreachable ∙ ap (λ d. d || is_unreachable_after t) (sym makes_unreachable) ∙ sym (unreachable_append s t);
    }

-- ---- the innermost frame with one more instruction

-- one more instruction, after which the frame may be unreachable; a frame that was unreachable is unchanged
abbrev pub taken : LocatedInstr → Bool → OpenFrame → OpenFrame
taken x unreachable_after f = with_body f (cond f.unreachable f.instrs (f.instrs ++ x ∷ [])) (f.unreachable || unreachable_after)

pub taken_alive : (x : LocatedInstr) (f : OpenFrame) → taken x false f ≡ with_instr x f
taken_alive x f = ap (with_body f (cond f.unreachable f.instrs (f.instrs ++ x ∷ []))) (or_false f.unreachable)
  where
    or_false : (d : Bool) → d || false ≡ d
    or_false true = refl
    or_false false = refl

pub taken_unreachable : (x : LocatedInstr) (f : OpenFrame) → taken x true f ≡ marked_unreachable (with_instr x f)
taken_unreachable x f = ap (with_body f (cond f.unreachable f.instrs (f.instrs ++ x ∷ []))) (or_true f.unreachable)
  where
    or_true : (d : Bool) → d || true ≡ true
    or_true true = refl
    or_true false = refl

kept_takes : (env : Environment) (b : List InstrSeq) (middle high : ℕ) (f : OpenFrame) (around : List ℕ) (s t : Sequence Occurrence) (x : LocatedInstr) (unreachable_after d : Bool) → f.unreachable ≡ d → middle ≤ high → is_unreachable_after t ≡ unreachable_after →
    AreNormal env b middle high (f.sequence ∷ around) (x ∷ []) t → IsKeptFrame env b middle f around s →
    IsKeptFrame env b high (with_body f (cond d f.instrs (f.instrs ++ x ∷ [])) (d || unreachable_after)) around (append s t)
kept_takes env b middle high f around s t x unreachable_after true unreachable wider is a k =
    let dropped = kept_drop env b middle high f around s t k unreachable wider in
    record { items = dropped.items; are_items = dropped.are_items; rise = dropped.rise; is_normal = dropped.is_normal; is_unreachable = sym unreachable ∙ dropped.is_unreachable }
kept_takes env b middle high f around s t x unreachable_after false alive wider is a k =
    let added = kept_add env b middle high f around s t (x ∷ []) k alive a in
    record { items = added.items; are_items = added.are_items; rise = added.rise; is_normal = added.is_normal; is_unreachable = sym is ∙ added.is_unreachable }

pub holds_takes : (env : Environment) (b : List InstrSeq) (ls : List (Layer Occurrence)) (s t : Sequence Occurrence) (middle high : ℕ) (f : OpenFrame) (fs : List OpenFrame) (ifs : List IfElseState) (x : LocatedInstr) (unreachable_after : Bool) → middle ≤ high → is_unreachable_after t ≡ unreachable_after →
    AreNormal env b middle high (f.sequence ∷ slots fs) (x ∷ []) t → Holds env b ls s middle (f ∷ fs) ifs → Holds env b ls (append s t) high (taken x unreachable_after f ∷ fs) ifs
holds_takes env b ls s t middle high f fs ifs x unreachable_after wider is a =
    holds_changed env b ls s (append s t) middle high f fs ifs (cond f.unreachable f.instrs (f.instrs ++ x ∷ [])) (f.unreachable || unreachable_after)
    (kept_takes env b middle high f (slots fs) s t x unreachable_after f.unreachable refl wider is a)

-- an operator that is dropped leaves the frame unchanged
kept_passes : (env : Environment) (b : List InstrSeq) (high : ℕ) (f : OpenFrame) (around : List ℕ) (s t : Sequence Occurrence) (d : Bool) → f.unreachable ≡ d → is_unreachable_after t ≡ false → Kept env t ≡ no_items →
    IsKeptFrame env b high f around s → IsKeptFrame env b high f around (append s t)
kept_passes env b high f around s t true unreachable is none k = kept_drop env b high high f around s t k unreachable (omega arith)
kept_passes env b high f around s t false alive is none k =
    let added = kept_add env b high high f around s t [] k alive (record { items = no_items; are_items = are_no_items; rise = omega arith; is_normal = sym none }) in
    record {
      items = added.items;
      are_items = subst (λ xs. AreTreeItems b xs added.items) (append-nil f.instrs) added.are_items;
      rise = added.rise;
      is_normal = added.is_normal;
      is_unreachable = alive ∙ sym is ∙ added.is_unreachable;
    }

pub holds_passes : (env : Environment) (b : List InstrSeq) (ls : List (Layer Occurrence)) (s t : Sequence Occurrence) (high : ℕ) (f : OpenFrame) (fs : List OpenFrame) (ifs : List IfElseState) → is_unreachable_after t ≡ false → Kept env t ≡ no_items →
    Holds env b ls s high (f ∷ fs) ifs → Holds env b ls (append s t) high (f ∷ fs) ifs
holds_passes env b ls s t high f fs ifs is none =
    holds_changed env b ls s (append s t) high high f fs ifs f.instrs f.unreachable (kept_passes env b high f (slots fs) s t f.unreachable refl is none)
