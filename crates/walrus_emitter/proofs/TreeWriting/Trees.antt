-- The visitor after a walk, and what it has written.
use Rattle.std.specs.Prelude.{◌≡◌, ◌≤◌, ◌<◌, ◌⊎◌, ◌↔◌, ◌++◌, ℕ, zero, suc, List, [], ◌∷◌, length, Bool, true, false, IsTrue, Option, Some, None, slice_get, Result, Ok, Err}
use Rattle.std.proofs.Common.{refl, sym, ap, subst, ◌∙◌, inl, inr, arith}
use Rattle.walrus_ir.specs.declared.seq.InstrSeq.{InstrSeq}
use Rattle.walrus_ir.specs.declared.error.WalkError.{WalkError}
use Rattle.walrus_ir.specs.declared.error.WalkError.TheVariants as walk
use Rattle.walrus_ir.specs.Tree.{Tree}
use Rattle.walrus_ir.specs.Unfolding.{SequenceAt, LocatedInstr, IsTree}
use Rattle.walrus_ir.specs.Faults.{begun, unknown}
use Rattle.walrus_ir.specs.Events.{WalkEvent, events, Folds, through, after, Stops, refused, later}
use Rattle.walrus_ir.specs.Walk.{HasNoWalk, Finishes, IsRefused, IsNotWalked}
use Rattle.wasm_operators.specs.Operations.{RawOperation}
use Rattle.wasm_body.specs.declared.error.EmitError.{EmitError}
use Rattle.wasm_body.specs.declared.error.EmitError.TheVariants.{Memory, UnknownSequence}
use Rattle.wasm_numbers.specs.Results.{◌>>=◌}
use Rattle.wasm_body.specs.Control.{end_operation}
use Rattle.wasm_body.specs.Translation.{Located, at_location}
use Rattle.wasm_body.specs.TreeOfFunction.{tree_of, fault_of_walk}
use Rattle.wasm_body.specs.Bytes.{Numbers, numbered_text, bytes_of}
use Rattle.wasm_body.specs.Pairs.{Pair, pairs_from, AddsPairs}
use Rattle.walrus_emit_state.specs.declared.closing.Closer.TheVariants.{End}
use Rattle.walrus_emitter.specs.declared.emit.EmitVisitor.{EmitVisitor}
use Rattle.walrus_emit_state.specs.Emission.{Emitter, emitter_after, emitter_after_all, first_emitter, output_of}
use Rattle.walrus_emit_state.specs.TreeWriting.Drafts.{Drafted}
use Rattle.walrus_emitter.specs.TreeWriting.Emitters.{emitter_at, IsFaultAt}
use Rattle.walrus_emit_state.specs.TreeWriting.ScopeLists.{ScopeLists, ending, with_more}
use Rattle.walrus_emitter.specs.TreeWriting.Trees.{IsDraftOf, IsFirstScope, Appends, IsNotWritten}
use Rattle.walrus_emitter.specs.TreeWriting.Visiting.{emitter_of, Steps, Refuses, Same}
use Rattle.walrus_emitter.proofs.Emission.Texts.{last_emitter, tree_written_out}

-- ---- the visitor after some events is the emitter after them

folded : {v w : EmitVisitor} {es : List WalkEvent} → Folds Steps v es w → emitter_after_all (emitter_of v) es ≡ Ok (emitter_of w)
folded through = refl
folded (after {es = es} step rest) = ap (λ r. r >>= λ t. emitter_after_all t es) step ∙ folded rest

-- why it stops at one of the events
abbrev IsStopped : Emitter → List WalkEvent → EmitError → Type 0
IsStopped s es f = (f ≡ Memory) ⊎ (emitter_after_all s es ≡ Err f)

stops_here : (s : Emitter) (e : WalkEvent) (es : List WalkEvent) (f : EmitError) → IsFaultAt s e f → IsStopped s (e ∷ es) f
stops_here s e es f (inl h) = inl h
stops_here s e es f (inr h) = inr (ap (λ r. r >>= λ t. emitter_after_all t es) h)

stops_later : (s t : Emitter) (e : WalkEvent) (es : List WalkEvent) (f : EmitError) → emitter_after s e ≡ Ok t → IsStopped t es f
    → IsStopped s (e ∷ es) f
stops_later s t e es f step (inl h) = inl h
stops_later s t e es f step (inr h) = inr (ap (λ r. r >>= λ u. emitter_after_all u es) step ∙ h)

stopped : {v w : EmitVisitor} {es : List WalkEvent} {f : EmitError} → Stops Steps Refuses Same v es w f → IsStopped (emitter_of v) es f
stopped (refused {v = v} {e = e} {es = es} {f = f} why same) = stops_here (emitter_of v) e es f why
stopped (later {v = v} {w = w} {e = e} {es = es} {f = f} step rest) =
    stops_later (emitter_of v) (emitter_of w) e es f step (stopped rest)

-- ---- the visitor at first

-- nothing is written yet under these numbers, and only the sequence at the entry is to come
pub record IsFirst (b : List InstrSeq) (entry : ℕ) (to : Numbers) (base : ℕ) (m : Bool) (v : EmitVisitor) : Type 0 where
  pub seq : InstrSeq
  pub in_arena : slice_get b entry ≡ Some seq
  pub is : emitter_of v ≡ first_emitter b to base m (record { slot = entry; closer = Some (at_location end_operation seq.end) })

pub is_first : (b : List InstrSeq) (to : Numbers) (entry : ℕ) (scopes : ScopeLists) (draft : Drafted) (base : ℕ) (m : Bool) (v : EmitVisitor)
    → (first : IsFirstScope b entry scopes) → draft ≡ record { base = base; has_map = m; output = record { bytes = []; pairs = [] } }
    → emitter_of v ≡ emitter_at b to scopes draft → IsFirst b entry to base m v
is_first b to entry scopes draft base m v first d is = record {
  seq = first.seq;
  in_arena = first.in_arena;
  is = is ∙ λ i. emitter_at b to (first.is i) (d i);
}

pub first_scope : (b : List InstrSeq) (entry count : ℕ) (seq : InstrSeq) (scopes first : ScopeLists) → slice_get b entry ≡ Some seq
    → count ≡ length b → scopes ≡ record { count = count; coming = []; open_scopes = [] }
    → first ≡ with_more scopes (ending entry End seq.end ∷ []) → IsFirstScope b entry first
first_scope b entry count seq scopes first in_arena many none h = record {
  seq = seq;
  in_arena = in_arena;
  is = h ∙ ap (λ s. with_more s (ending entry End seq.end ∷ [])) none
      ∙ (λ i. record { count = many i; coming = ending entry End seq.end ∷ []; open_scopes = [] });
}

-- ---- a whole tree

text_is : (b : List InstrSeq) (to : Numbers) (base : ℕ) (m : Bool) (r : Result (List (Located RawOperation)) EmitError) (s : Emitter)
    → (r >>= λ xs. Ok (last_emitter b to base m (output_of m base xs))) ≡ Ok s
    → (xs : List (Located RawOperation)) × (r ≡ Ok xs) × (last_emitter b to base m (output_of m base xs) ≡ s)
text_is b to base m (Ok xs) s h = (xs, refl, cc)
text_is b to base m (Err e) s h = absurd (cc)

text_fails : (b : List InstrSeq) (to : Numbers) (base : ℕ) (m : Bool) (r : Result (List (Located RawOperation)) EmitError) (e : EmitError)
    → (r >>= λ xs. Ok (last_emitter b to base m (output_of m base xs))) ≡ Err e → r ≡ Err e
text_fails b to base m (Ok xs) e h = absurd (cc)
text_fails b to base m (Err f) e h = let is : f ≡ e = cc in ap Err is

pub draft_is : (b : List InstrSeq) (entry : ℕ) (to : Numbers) (base : ℕ) (m : Bool) (v w : EmitVisitor)
    → IsFirst b entry to base m v → Finishes b entry Steps v w → IsDraftOf b entry to base m w.draft
draft_is b entry to base m v w first h =
    let t = h.tree in
    let event_written = tree_written_out to base m first.seq t first.in_arena h.is_tree.unfolds in
    let following = ap (λ s. emitter_after_all s (events t)) (sym first.is) ∙ folded h.folds in
    let text = text_is b to base m (numbered_text to (tree_of t)) (emitter_of w) (sym event_written ∙ following) in record {
      tree = tree_of t;
      has_tree = record { unfolded = t; is_tree = h.is_tree; is = refl };
      operators = text.0;
      text = text.1;
      is = λ i. record {
        base = sym (ap (λ (s : Emitter). s.base) text.2) i;
        has_map = sym (ap (λ (s : Emitter). s.has_map) text.2) i;
        output = sym (ap (λ (s : Emitter). s.output) text.2) i;
      };
    }

refusal_is : (b : List InstrSeq) (entry : ℕ) (to : Numbers) (base : ℕ) (m : Bool) (t : Tree SequenceAt LocatedInstr) (v : EmitVisitor)
    (f : EmitError) → IsFirst b entry to base m v → IsTree b entry t → IsStopped (emitter_of v) (events t) f → IsNotWritten b entry to f
refusal_is b entry to base m t v f first is_tree (inl h) = inl h
refusal_is b entry to base m t v f first is_tree (inr h) =
    let event_written = tree_written_out to base m first.seq t first.in_arena is_tree.unfolds in
    let following = ap (λ s. emitter_after_all s (events t)) (sym first.is) ∙ h in
    let fails = text_fails b to base m (numbered_text to (tree_of t)) f (sym event_written ∙ following) in
    inr (inr (
      tree_of t,
      record { unfolded = t; is_tree = is_tree; is = refl },
      ap (λ r. r >>= λ xs. Ok (bytes_of xs)) fails,
    ))

no_walk : (b : List InstrSeq) (entry : ℕ) (to : Numbers) (error : WalkError) → HasNoWalk b entry error → IsNotWritten b entry to (fault_of_walk error)
no_walk b entry to error (inl h) = inl (ap fault_of_walk h)
no_walk b entry to error (inr h) = inr (inl (error, h, refl))

pub unwritten_is : (b : List InstrSeq) (entry : ℕ) (to : Numbers) (base : ℕ) (m : Bool) (v w : EmitVisitor) (f : EmitError)
    → IsFirst b entry to base m v
    → IsRefused b entry Steps Refuses Same v w f ⊎ IsNotWalked b entry (λ error g. g ≡ fault_of_walk error) v w f
    → IsNotWritten b entry to f
unwritten_is b entry to base m v w f first (inl h) = refusal_is b entry to base m h.tree v f first h.is_tree (stopped h.stops)
unwritten_is b entry to base m v w f first (inr h) =
    subst (λ g. IsNotWritten b entry to g) (sym h.is_fault) (no_walk b entry to h.error h.why)

none_past : (b : List InstrSeq) (n : ℕ) → length b ≤ n → slice_get b n ≡ None
none_past [] n h = refl
none_past (x ∷ xs) zero h = absurd (omega arith)
none_past (x ∷ xs) (suc n) h = none_past xs n (omega arith)

pub none_there : (b : List InstrSeq) (n : ℕ) (has : Bool) → (IsTrue has ↔ (n < length b)) → has ≡ false → slice_get b n ≡ None
none_there b n has known lacks =
    let past : n < length b → ⊥ = λ h. let does : has ≡ true = known.1 h in absurd (cc (does, lacks)) in
    none_past b n (omega (arith, past))

-- the sequence at the entry doesn't exist
pub entry_missing : (b : List InstrSeq) (entry : ℕ) (to : Numbers) → slice_get b entry ≡ None → IsNotWritten b entry to UnknownSequence
entry_missing b entry to h = inr (inl (walk.UnknownSequence, unknown begun h, refl))

-- ---- what is passed on

module _ (b : List InstrSeq) (entry : ℕ) (to : Numbers) (base : ℕ) where
  abbrev appends_tree : (m : Bool) (draft : Drafted) (old new : List ℕ) (lists : Option (List Pair × List Pair))
      → base ≡ length old → (h : IsDraftOf b entry to base m draft) → new ≡ old ++ draft.output.bytes
      → AddsPairs (pairs_from base h.operators) lists → Appends b entry to old new lists
  appends_tree m draft old new lists len h bytes adds = record {
    tree = h.tree;
    has_tree = h.has_tree;
    bytes = bytes_of h.operators;
    bytes_are = ap (λ r. r >>= λ xs. Ok (bytes_of xs)) h.text;
    appends = bytes ∙ ap (λ (d : Drafted). old ++ d.output.bytes) h.is;
    pairs = pairs_from base h.operators;
    pairs_are = ap (λ r. r >>= λ xs. Ok (pairs_from (length old) xs)) h.text ∙ ap (λ n. Ok (pairs_from n h.operators)) (sym len);
    appends_pairs = adds;
  }

  pub appends : (draft : Drafted) (old_bytes new_bytes : List ℕ) (old_pairs new_pairs : List Pair)
      → base ≡ length old_bytes → IsDraftOf b entry to base true draft → new_bytes ≡ old_bytes ++ draft.output.bytes
      → new_pairs ≡ old_pairs ++ draft.output.pairs → Appends b entry to old_bytes new_bytes (Some (old_pairs, new_pairs))
  appends draft old_bytes new_bytes old_pairs new_pairs len h bytes pairs =
      appends_tree true draft old_bytes new_bytes (Some (old_pairs, new_pairs)) len h bytes
      (pairs ∙ ap (λ (d : Drafted). old_pairs ++ d.output.pairs) h.is)

  pub appends_bytes : (m : Bool) (draft : Drafted) (old new : List ℕ)
      → base ≡ length old → IsDraftOf b entry to base m draft → new ≡ old ++ draft.output.bytes → Appends b entry to old new None
  appends_bytes m draft old new len h bytes = appends_tree m draft old new None len h bytes tt
