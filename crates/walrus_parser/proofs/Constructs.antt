-- The open sequences after a construct is opened, goes on to its next sequence, or is closed.
use Rattle.std.specs.Prelude.{◌≡◌, ◌≢◌, ℕ, zero, suc, ◌+◌, ◌<◌, ◌≤◌, List, [], ◌∷◌, ◌++◌, length, false, Some, slice_get}
use Rattle.std.proofs.lemmas.List.{length_push}
use Rattle.std.proofs.Common.{refl, ap, sym, subst, ◌∙◌, arith}
use Rattle.walrus_ir.specs.declared.control.BlockKind.{BlockKind}
use Rattle.wasm_types.specs.declared.val_type.ValType.{ValType}
use Rattle.walrus_ir.specs.declared.seq.InstrSeq.{InstrSeq}
use Rattle.walrus_ir.specs.declared.instr.Instr.{Instr}
use Rattle.walrus_ir.specs.declared.instr.Instr.TheVariants as instr
use Rattle.walrus_ir.specs.Tree.{no_items, item, Sequences, no_sequences, sequence}
use Rattle.walrus_ir.specs.Unfolding.{SequenceAt, LocatedInstr, slots_in, AreTreeItems, AreSequences, are_no_items, are_items, are_no_sequences, are_sequences}
use Rattle.walrus_ir.specs.Locations.{default_location}
use Rattle.wasm_body.specs.SourceTree.{Sequence, Empty, map_sequence}
use Rattle.wasm_body.specs.Naming.{Occurrence, Environment, block_signature}
use Rattle.wasm_body.specs.NormalForm.{typing_of, instruction, head, normal, name_at}
use Rattle.wasm_body.specs.FunctionTree.{Head, Instruction}
use Rattle.wasm_body.specs.Keeping.{is_unreachable_after}
use Rattle.wasm_body.specs.TreeOfFunction.{instruction_in, items_in, sequences_in, head_of}
use Rattle.wasm_body.specs.Intervals.{RiseIn, AllRiseIn}
use Rattle.wasm_body.specs.Parsing.Progress.{append, closed, OpenConstruct, InWrapper, InThen, InElse, InTry, InCatch, InCatchAll, Layer, layer}
use Rattle.wasm_body.proofs.NormalForm.ArenaLemmas.{all_rise-range, all_rise-wider, SameIn, items-same, sequences-same}
use Rattle.walrus_context.specs.declared.frame.IfElseState.{IfElseState}
use Rattle.walrus_context.specs.OpenConstructs.{opener_in, kind_in, clauses_in, closed_in, type_in, added_in, sequences_joined, sequences_closed, map_open_construct}
use Rattle.walrus_context.specs.OpenFrames.{OpenFrame, new_frame, changed_at, with_instr}
use Rattle.walrus_context.specs.Keeping.{slots, the_if, IsKeptFrame, TakesParameters, Encloses, IsAppended, OpensWith, Holds}
use Rattle.walrus_parser.proofs.Closing.{normal_closed, mapped_in, same_opener}
use Rattle.walrus_parser.proofs.Frames.{slots_changed, kept_below, holds_same, AreNormal, taken_alive, holds_takes}

-- ---- an arena with one more sequence

pub grown_at : (b : List InstrSeq) (seq : InstrSeq) → slice_get (b ++ seq ∷ []) (length b) ≡ Some seq
grown_at [] seq = refl
grown_at (x ∷ b) seq = grown_at b seq

grown_before : (b : List InstrSeq) (seq : InstrSeq) (p : ℕ) → p < length b → slice_get (b ++ seq ∷ []) p ≡ slice_get b p
grown_before [] seq p l = absurd (omega arith)
grown_before (x ∷ b) seq zero l = refl
grown_before (x ∷ b) seq (suc p) l = grown_before b seq p (omega arith)

pub same_grown : (b : List InstrSeq) (seq : InstrSeq) → SameIn b (b ++ seq ∷ []) 0 (length b)
same_grown b seq p l h = grown_before b seq p h

-- ---- a construct is opened

-- a new frame: it is empty, alive, and the frame of the construct
pub record IsOpened (env : Environment) (slot : ℕ) (p : OpenConstruct Occurrence) (f : OpenFrame) (seq : InstrSeq) : Type 0 where
  pub here : f.sequence ≡ slot
  pub is_empty : f.instrs ≡ []
  pub is_alive : f.unreachable ≡ false
  pub kind : f.kind ≡ kind_in p
  pub takes : TakesParameters env p f.start_types
  pub gives : f.end_types ≡ (block_signature (opener_in p).named).results
  pub has_type : seq.ty ≡ type_in (typing_of env) (map_open_construct name_at p)
  pub has_no_end : seq.end ≡ default_location

-- a new frame is that of a construct with these parameters and results
pub is_opened : (env : Environment) (slot : ℕ) (p : OpenConstruct Occurrence) (f : OpenFrame) (seq : InstrSeq) (k : BlockKind) (takes gives : List (ValType ℕ)) → f ≡ new_frame k takes gives slot → k ≡ kind_in p → TakesParameters env p f.start_types →
    gives ≡ (block_signature (opener_in p).named).results → seq.ty ≡ type_in (typing_of env) (map_open_construct name_at p) → seq.end ≡ default_location → IsOpened env slot p f seq
is_opened env slot p f seq k takes gives frame kind has gives_so type no_end = record {
  here = ap (λ (g : OpenFrame). g.sequence) frame;
  is_empty = ap (λ (g : OpenFrame). g.instrs) frame;
  is_alive = ap (λ (g : OpenFrame). g.unreachable) frame;
  kind = ap (λ (g : OpenFrame). g.kind) frame ∙ kind;
  takes = has;
  gives = ap (λ (g : OpenFrame). g.end_types) frame ∙ gives_so;
  has_type = type;
  has_no_end = no_end;
}

-- its sequence is empty, with no sequences inside
kept_empty : (env : Environment) (b : List InstrSeq) (high : ℕ) (f : OpenFrame) (around : List ℕ) → f.instrs ≡ [] → f.unreachable ≡ false → f.sequence < high → IsKeptFrame env b high f around Empty
kept_empty env b high f around empty alive below =
    record { items = no_items; are_items = subst (λ xs. AreTreeItems b xs no_items) (sym empty) are_no_items; rise = omega arith; is_normal = refl; is_unreachable = alive }

pub holds_opened : (env : Environment) (b : List InstrSeq) (seq : InstrSeq) (ls : List (Layer Occurrence)) (s : Sequence Occurrence) (p : OpenConstruct Occurrence) (f : OpenFrame) (around outside : List OpenFrame) (ifs other_ifs : List IfElseState) →
    IsOpened env (length b) p f seq → closed_in (typing_of env) (map_open_construct name_at p) ≡ no_sequences → OpensWith (slots around) [] f.sequence p around outside ifs other_ifs →
    Holds env b ls s (length b) outside other_ifs → Holds env (b ++ seq ∷ []) (layer s p ∷ ls) Empty (length (b ++ seq ∷ [])) (f ∷ around) ifs
holds_opened env b seq ls s p f around outside ifs other_ifs o none opens h =
    let more : length (b ++ seq ∷ []) ≡ length b + 1 = length_push b seq in
    let here = o.here in
    record {
      kept = kept_empty env (b ++ seq ∷ []) (length (b ++ seq ∷ [])) f (slots around) o.is_empty o.is_alive (omega arith);
      low = length b;
      before = [];
      encloses = record {
        inside = no_sequences;
        are_sequences = are_no_sequences;
        rise = omega arith;
        is_normal = sym none;
        reserved = record { seq = seq; in_arena = ap (slice_get (b ++ seq ∷ [])) o.here ∙ grown_at b seq; has_type = o.has_type; has_no_end = o.has_no_end };
        kind = o.kind;
        takes = o.takes;
        gives = o.gives;
      };
      outside = outside;
      other_ifs = other_ifs;
      opens = opens;
      outer = holds_same env b (b ++ seq ∷ []) ls s (length b) outside other_ifs (same_grown b seq) h;
    }

-- ---- sequences of one construct, one list after another

are_joined : {b : List InstrSeq} {ps qs : List ℕ} {ss ts : Sequences SequenceAt LocatedInstr} → AreSequences b ps ss → AreSequences b qs ts → AreSequences b (ps ++ qs) (sequences_joined ss ts)
are_joined are_no_sequences t = t
are_joined (are_sequences e i s) t = are_sequences e i (are_joined s t)

in_joined : (around : List ℕ) (ss ts : Sequences SequenceAt LocatedInstr) → sequences_in around (sequences_joined ss ts) ≡ sequences_joined (sequences_in around ss) (sequences_in around ts)
in_joined around no_sequences ts = refl
in_joined around (sequence h is r) ts = ap (sequence (head_of h.seq) (items_in (h.slot ∷ around) is)) (in_joined around r ts)

all_rise_joined : (low middle high : ℕ) (ss ts : Sequences SequenceAt LocatedInstr) → AllRiseIn low ss middle → AllRiseIn middle ts high → AllRiseIn low (sequences_joined ss ts) high
all_rise_joined low middle high no_sequences ts r t = all_rise-wider middle low ts high high r (omega arith) t
all_rise_joined low middle high (sequence h is rest) ts r t = (r.0, r.1, r.2, all_rise_joined r.0 middle high rest ts r.3 t)

-- ---- the open sequence is closed

-- one slot has this sequence, all others are as before
pub record IsWritten (b : List InstrSeq) (slot : ℕ) (seq : InstrSeq) (c : List InstrSeq) : Type 0 where
  pub here : slice_get c slot ≡ Some seq
  pub elsewhere : (p : ℕ) → p ≢ slot → slice_get c p ≡ slice_get b p
  pub as_many : length c ≡ length b

-- The construct's sequences are closed, the last at this location; the rest follow.
pub record AreClosed (env : Environment) (c : List InstrSeq) (low high : ℕ) (around places : List ℕ) (p : OpenConstruct Occurrence) (s : Sequence Occurrence) (location : ℕ) (rest : Sequences Head Instruction) : Type 0 where
  pub inside : Sequences SequenceAt LocatedInstr
  pub are_sequences : AreSequences c places inside
  pub rise : AllRiseIn low inside high
  pub is_normal : sequences_in around inside ≡ sequences_closed (typing_of env) (map_open_construct name_at p) (normal (typing_of env) (map_sequence name_at s)) location rest

-- The frame's sequence is in its slot, closed at this location; the others are as before.
pub record IsSealed (env : Environment) (b c : List InstrSeq) (f : OpenFrame) (p : OpenConstruct Occurrence) (location : ℕ) : Type 0 where
  pub seq : InstrSeq
  pub written : IsWritten b f.sequence seq c
  pub instrs : seq.instrs ≡ f.instrs
  pub end_is : seq.end ≡ location
  pub type : seq.ty ≡ type_in (typing_of env) (map_open_construct name_at p)

pub sequence_closed : (env : Environment) (b c : List InstrSeq) (low : ℕ) (f : OpenFrame) (around before : List ℕ) (p : OpenConstruct Occurrence) (s : Sequence Occurrence) (location : ℕ) →
    IsKeptFrame env b (length b) f around s → Encloses env b low f around p before → IsSealed env b c f p location →
    AreClosed env c low (length c) around (before ++ f.sequence ∷ []) p s location no_sequences
sequence_closed env b c low f around before p s location k o w =
    let inside : AreTreeItems c w.seq.instrs k.items =
    subst (λ xs. AreTreeItems c xs k.items) (sym w.instrs)
    (items-same c (suc f.sequence) (length b) (λ q l h. w.written.elsewhere q (λ e. let d : q ≡ f.sequence = e in omega arith)) k.rise k.are_items) in
    let others : AreSequences c before o.inside = sequences-same c low f.sequence (λ q l h. w.written.elsewhere q (λ e. let d : q ≡ f.sequence = e in omega arith)) o.rise o.are_sequences in
    let wide : RiseIn (suc f.sequence) k.items (length c) = subst (RiseIn (suc f.sequence) k.items) (sym w.written.as_many) k.rise in
    let last : Sequences SequenceAt LocatedInstr = sequence (record { slot = f.sequence; seq = w.seq }) k.items no_sequences in
    let top : head_of w.seq ≡ head (type_in (typing_of env) (map_open_construct name_at p)) location = λ i. record { type = w.type i; end_location = w.end_is i } in
    record {
      inside = sequences_joined o.inside last;
      are_sequences = are_joined others (are_sequences w.written.here inside are_no_sequences);
      rise = all_rise_joined low f.sequence (length c) o.inside last o.rise (length c, (let n : f.sequence ≤ f.sequence = omega arith in n), wide, (let n : length c ≤ length c = omega arith in n));
      is_normal =
          in_joined around o.inside last
          ∙ (λ i. sequences_joined (o.is_normal i) (sequence (top i) (k.is_normal i) no_sequences));
    }

-- ---- the construct becomes an item of the sequence around it

-- the instruction with these sequences is the normal form of the closed construct
pub closed_item : (env : Environment) (c : List InstrSeq) (low high : ℕ) (around places : List ℕ) (p : OpenConstruct Occurrence) (s : Sequence Occurrence) (e : Occurrence) (x : LocatedInstr) →
    slots_in x.0 ≡ places → instruction_in around x ≡ instruction (name_at (opener_in p)) (clauses_in p) →
    AreClosed env c low high around places p s e.location (added_in (typing_of env) (map_open_construct name_at p)) →
    AreNormal env c low high around (x ∷ []) (closed p s e)
closed_item env c low high around places p s e x at is a =
    let m = typing_of env in
    let q = map_open_construct name_at p in
    let inside : AreSequences c (slots_in x.0) a.inside = subst (λ ps. AreSequences c ps a.inside) (sym at) a.are_sequences in
    let named : instruction (name_at (opener_in p)) (clauses_in p) ≡ instruction (opener_in q) (clauses_in q) = same_opener p in
    record {
      items = item x a.inside no_items;
      are_items = are_items inside are_no_items;
      rise = (high, a.rise, (let n : high ≤ high = omega arith in n));
      is_normal =
          (λ i. item ((is ∙ named) i) (a.is_normal i) no_items)
          ∙ sym (normal_closed m q (map_sequence name_at s) (name_at e))
          ∙ ap (normal m) (sym (mapped_in name_at p s e));
    }

-- changing a sequence leaves those before it unchanged
pub same_written : (b c : List InstrSeq) (slot : ℕ) (seq : InstrSeq) → IsWritten b slot seq c → SameIn b c 0 slot
same_written b c slot seq w q l h = w.elsewhere q (λ e. let d : q ≡ slot = e in omega arith)

none_holds : (env : Environment) (b : List InstrSeq) (ls : List (Layer Occurrence)) (s : Sequence Occurrence) (high : ℕ) (ifs : List IfElseState) → Holds env b ls s high [] ifs → ⊥
none_holds env b [] s high ifs h = h
none_holds env b (l ∷ ls) s high ifs h = h

-- the construct is added to the frame around
pub holds_after : (env : Environment) (c : List InstrSeq) (ls : List (Layer Occurrence)) (s t : Sequence Occurrence) (low high : ℕ) (fs : List OpenFrame) (ifs : List IfElseState) (x : LocatedInstr) → low ≤ high → is_unreachable_after t ≡ false →
    AreNormal env c low high (slots fs) (x ∷ []) t → Holds env c ls s low fs ifs → Holds env c ls (append s t) high (changed_at 0 (with_instr x) fs) ifs
holds_after env c ls s t low high [] ifs x wider alive a h = absurd (none_holds env c ls s low ifs h)
holds_after env c ls s t low high (f ∷ fs) ifs x wider alive a h =
    subst (λ g. Holds env c ls (append s t) high (g ∷ fs) ifs) (taken_alive x f) (holds_takes env c ls s t low high f fs ifs x false wider alive a h)

closed_alive : (p : OpenConstruct Occurrence) (s : Sequence Occurrence) (e : Occurrence) → is_unreachable_after (closed p s e) ≡ false
closed_alive (InWrapper a w) s e = refl
closed_alive (InThen a) s e = refl
closed_alive (InElse a b l) s e = refl
closed_alive (InTry a) s e = refl
closed_alive (InCatch a b gs h t) s e = refl
closed_alive (InCatchAll a b gs h) s e = refl

pub closed_range : {env : Environment} {c : List InstrSeq} {low high : ℕ} {around places : List ℕ} {p : OpenConstruct Occurrence} {s : Sequence Occurrence} {location : ℕ} {rest : Sequences Head Instruction} → AreClosed env c low high around places p s location rest → low ≤ high
closed_range {low = low} {high = high} a = all_rise-range low a.inside high a.rise

-- ---- closers

-- `end` closes a construct whose instruction is already there
pub holds_ended : (env : Environment) (b c : List InstrSeq) (ls : List (Layer Occurrence)) (before s : Sequence Occurrence) (p : OpenConstruct Occurrence) (IsOpener : Instr → Type 0) (f : OpenFrame) (fs outside : List OpenFrame) (ifs : List IfElseState)
    (low : ℕ) (places : List ℕ) (e : Occurrence) → added_in (typing_of env) (map_open_construct name_at p) ≡ no_sequences →
    IsKeptFrame env b (length b) f (slots fs) s → Encloses env b low f (slots fs) p places → IsAppended (slots fs) places f.sequence p IsOpener fs outside → IsSealed env b c f p e.location →
    Holds env b ls before low outside ifs → Holds env c ls (append before (closed p s e)) (length c) fs ifs
holds_ended env b c ls before s p IsOpener f fs outside ifs low places e none k o a w h =
    let same_slots : slots fs ≡ slots outside = ap slots a.frames ∙ slots_changed a.opener 0 outside in
    let closes = sequence_closed env b c low f (slots fs) places p s e.location k o w in
    let whole = subst (AreClosed env c low (length c) (slots fs) (places ++ f.sequence ∷ []) p s e.location) (sym none) closes in
    let more = closed_item env c low (length c) (slots fs) (places ++ f.sequence ∷ []) p s e a.opener a.places a.is_instruction whole in
    let range = all_rise-range low o.inside f.sequence o.rise in
    subst (λ gs. Holds env c ls (append before (closed p s e)) (length c) gs ifs) (sym a.frames)
    (holds_after env c ls before (closed p s e) low (length c) outside ifs a.opener (closed_range closes) (closed_alive p s e)
    (subst (λ ps. AreNormal env c low (length c) ps (a.opener ∷ []) (closed p s e)) same_slots more)
    (holds_same env b c ls before low outside ifs (λ q m n. w.written.elsewhere q (λ d. let at : q ≡ f.sequence = d in omega arith)) h))

-- the instruction of an `if`, which is appended at its `end`
abbrev pub if_else : (consequent alternative location : ℕ) → LocatedInstr
if_else consequent alternative location = (instr.IfElse (record { consequent = consequent; alternative = alternative }), location)

is_if : (around : List ℕ) (consequent alternative : ℕ) (a : Occurrence) → the_if a → instruction_in around (if_else consequent alternative a.location) ≡ instruction (name_at a) []
is_if around consequent alternative a e = λ i. record { op = sym e i; clauses = []; location = a.location }

-- `end` closes an alternative
pub holds_chosen : (env : Environment) (b c : List InstrSeq) (ls : List (Layer Occurrence)) (before s t : Sequence Occurrence) (a l e : Occurrence) (f : OpenFrame) (fs : List OpenFrame) (ifs : List IfElseState) (low consequent : ℕ) → the_if a →
    IsKeptFrame env b (length b) f (slots fs) t → Encloses env b low f (slots fs) (InElse a s l) (consequent ∷ []) → IsSealed env b c f (InElse a s l) e.location →
    Holds env b ls before low fs ifs → Holds env c ls (append before (closed (InElse a s l) t e)) (length c) (changed_at 0 (with_instr (if_else consequent f.sequence a.location)) fs) ifs
holds_chosen env b c ls before s t a l e f fs ifs low consequent is k o w h =
    let p = InElse a s l in
    let closes = sequence_closed env b c low f (slots fs) (consequent ∷ []) p t e.location k o w in
    let range = all_rise-range low o.inside f.sequence o.rise in
    holds_after env c ls before (closed p t e) low (length c) fs ifs (if_else consequent f.sequence a.location) (closed_range closes) refl
    (closed_item env c low (length c) (slots fs) (consequent ∷ f.sequence ∷ []) p t e (if_else consequent f.sequence a.location) refl (is_if (slots fs) consequent f.sequence a is) closes)
    (holds_same env b c ls before low fs ifs (λ q m n. w.written.elsewhere q (λ d. let at : q ≡ f.sequence = d in omega arith)) h)

-- `end` closes a consequent: an empty alternative is made
with_alternative : (env : Environment) (c : List InstrSeq) (other : InstrSeq) (low : ℕ) (around places : List ℕ) (a : Occurrence) (s : Sequence Occurrence) (location : ℕ) →
    other.ty ≡ type_in (typing_of env) (InThen (name_at a)) → other.instrs ≡ [] → other.end ≡ default_location →
    AreClosed env c low (length c) around places (InThen a) s location no_sequences →
    AreClosed env (c ++ other ∷ []) low (length (c ++ other ∷ [])) around (places ++ length c ∷ []) (InThen a) s location (added_in (typing_of env) (InThen (name_at a)))
with_alternative env c other low around places a s location type empty no_end k =
    let d = c ++ other ∷ [] in
    let more : length d ≡ length c + 1 = length_push c other in
    let last : Sequences SequenceAt LocatedInstr = sequence (record { slot = length c; seq = other }) no_items no_sequences in
    let top : head_of other ≡ head (type_in (typing_of env) (InThen (name_at a))) default_location = λ i. record { type = type i; end_location = no_end i } in
    record {
      inside = sequences_joined k.inside last;
      are_sequences = are_joined (sequences-same d low (length c) (λ q m n. same_grown c other q (omega arith) n) k.rise k.are_sequences)
          (are_sequences (grown_at c other) (subst (λ xs. AreTreeItems d xs no_items) (sym empty) are_no_items) are_no_sequences);
      rise = all_rise_joined low (length c) (length d) k.inside last k.rise (length d, (let n : length c ≤ length c = omega arith in n), (let n : suc (length c) ≤ length d = omega arith in n), (let n : length d ≤ length d = omega arith in n));
      is_normal =
          in_joined around k.inside last
          ∙ (λ i. sequences_joined (k.is_normal i) (sequence (top i) no_items no_sequences));
    }

pub holds_chosen_alone : (env : Environment) (b c : List InstrSeq) (other : InstrSeq) (ls : List (Layer Occurrence)) (before s : Sequence Occurrence) (a e : Occurrence) (f : OpenFrame) (fs : List OpenFrame) (ifs : List IfElseState) (low : ℕ) → the_if a →
    IsKeptFrame env b (length b) f (slots fs) s → Encloses env b low f (slots fs) (InThen a) [] → IsSealed env b c f (InThen a) e.location →
    other.ty ≡ type_in (typing_of env) (InThen (name_at a)) → other.instrs ≡ [] → other.end ≡ default_location →
    Holds env b ls before low fs ifs →
    Holds env (c ++ other ∷ []) ls (append before (closed (InThen a) s e)) (length (c ++ other ∷ [])) (changed_at 0 (with_instr (if_else f.sequence (length c) a.location)) fs) ifs
holds_chosen_alone env b c other ls before s a e f fs ifs low is k o w type empty no_end h =
    let p = InThen a in
    let d = c ++ other ∷ [] in
    let more : length d ≡ length c + 1 = length_push c other in
    let closes = with_alternative env c other low (slots fs) (f.sequence ∷ []) a s e.location type empty no_end (sequence_closed env b c low f (slots fs) [] p s e.location k o w) in
    let range = all_rise-range low o.inside f.sequence o.rise in
    let below = kept_below env b (length b) f (slots fs) s k in
    let as_many = w.written.as_many in
    holds_after env d ls before (closed p s e) low (length d) fs ifs (if_else f.sequence (length c) a.location) (closed_range closes) refl
    (closed_item env d low (length d) (slots fs) (f.sequence ∷ length c ∷ []) p s e (if_else f.sequence (length c) a.location) refl (is_if (slots fs) f.sequence (length c) a is) closes)
    (holds_same env c d ls before low fs ifs (λ q m n. same_grown c other q m (omega arith))
    (holds_same env b c ls before low fs ifs (λ q m n. w.written.elsewhere q (λ d. let at : q ≡ f.sequence = d in omega arith)) h))

-- ---- the next sequence of a construct is opened

pub holds_next_open : (env : Environment) (b c : List InstrSeq) (seq : InstrSeq) (ls : List (Layer Occurrence)) (before s : Sequence Occurrence) (p q : OpenConstruct Occurrence) (f g : OpenFrame) (fs gs outside : List OpenFrame) (ifs other_ifs : List IfElseState)
    (low : ℕ) (places : List ℕ) (location : ℕ) →
    IsKeptFrame env b (length b) f (slots fs) s → Encloses env b low f (slots fs) p places → IsSealed env b c f p location → IsOpened env (length c) q g seq → slots gs ≡ slots fs →
    closed_in (typing_of env) (map_open_construct name_at q) ≡ sequences_closed (typing_of env) (map_open_construct name_at p) (normal (typing_of env) (map_sequence name_at s)) location no_sequences →
    OpensWith (slots gs) (places ++ f.sequence ∷ []) g.sequence q gs outside ifs other_ifs →
    Holds env b ls before low outside other_ifs → Holds env (c ++ seq ∷ []) (layer before q ∷ ls) Empty (length (c ++ seq ∷ [])) (g ∷ gs) ifs
holds_next_open env b c seq ls before s p q f g fs gs outside ifs other_ifs low places location k o w n same are opens h =
    let d = c ++ seq ∷ [] in
    let more : length d ≡ length c + 1 = length_push c seq in
    let here = n.here in
    let closes = sequence_closed env b c low f (slots fs) places p s location k o w in
    let range = all_rise-range low o.inside f.sequence o.rise in
    let below = kept_below env b (length b) f (slots fs) s k in
    let as_many = w.written.as_many in
    record {
      kept = kept_empty env d (length d) g (slots gs) n.is_empty n.is_alive (omega arith);
      low = low;
      before = places ++ f.sequence ∷ [];
      encloses = record {
        inside = closes.inside;
        are_sequences = sequences-same d low (length c) (λ q m n. same_grown c seq q (omega arith) n) closes.rise closes.are_sequences;
        rise = subst (AllRiseIn low closes.inside) (sym n.here) closes.rise;
        is_normal = ap (λ ps. sequences_in ps closes.inside) same ∙ closes.is_normal ∙ sym are;
        reserved = record { seq = seq; in_arena = ap (slice_get d) n.here ∙ grown_at c seq; has_type = n.has_type; has_no_end = n.has_no_end };
        kind = n.kind;
        takes = n.takes;
        gives = n.gives;
      };
      outside = outside;
      other_ifs = other_ifs;
      opens = opens;
      outer = holds_same env c d ls before low outside other_ifs (λ q m n. same_grown c seq q m (omega arith))
          (holds_same env b c ls before low outside other_ifs (λ q m n. w.written.elsewhere q (λ d. let at : q ≡ f.sequence = d in omega arith)) h);
    }
