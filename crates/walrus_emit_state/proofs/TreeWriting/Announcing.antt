-- The sequences in an instruction are announced from the last to the first.
use Rattle.std.specs.Prelude.{◌≡◌, ◌++◌, ℕ, List, [], ◌∷◌, map, slice_get, length, true, Option, None, Some, Result, Ok, Err, OnOk}
use Rattle.std.proofs.Common.{refl, sym, ap, subst, ◌∙◌, inl, inr, append_assoc, arith}
use Rattle.std.proofs.lemmas.List.{map-append}
use Rattle.walrus_ir.specs.declared.seq.InstrSeq.{InstrSeq}
use Rattle.walrus_ir.specs.declared.control.LegacyCatch.{LegacyCatch}
use Rattle.walrus_ir.specs.declared.control.LegacyCatch.TheVariants.{Catch, CatchAll, Delegate}
use Rattle.walrus_ir.specs.Unfolding.{handler_of, handlers}
use Rattle.wasm_body.specs.declared.error.EmitError.{EmitError}
use Rattle.wasm_body.specs.declared.error.EmitError.TheVariants.{UnknownSequence}
use Rattle.wasm_numbers.specs.Results.{◌>>=◌, some_or}
use Rattle.wasm_body.specs.Control.{end_operation}
use Rattle.wasm_body.specs.Translation.{at_location}
use Rattle.wasm_body.specs.InstructionTable.{legacy_clause}
use Rattle.wasm_body.specs.FunctionTree.{LegacyClause, handles, handles_all, delegates}
use Rattle.wasm_body.specs.FlatText.{TextOperation, has_no_clauses, are_handlers, are_lawful, try_closers}
use Rattle.walrus_emit_state.specs.declared.closing.Closer.{Closer}
use Rattle.walrus_emit_state.specs.declared.closing.SequenceScope.{SequenceScope}
use Rattle.walrus_emit_state.specs.Emission.{Scope, scope_at, scopes_at}
use Rattle.walrus_emit_state.specs.TreeWriting.Closers.{closing, opening_clause, scope_of, scopes_of}
use Rattle.walrus_emit_state.specs.TreeWriting.ScopeLists.{ScopeLists, ending, with_more}
use Rattle.walrus_emit_state.specs.TreeWriting.Announcing.{Announces, IsNotAnnounced}

-- ---- one sequence before others

-- what follows a lookup
abbrev looked_up : ℕ → TextOperation → Option InstrSeq → Result (List Scope) EmitError → Result (List Scope) EmitError
looked_up p c o t =
    (some_or o UnknownSequence >>= λ seq. Ok (record { slot = p; closer = Some (at_location c seq.end) })) >>= λ s. t >>= λ ss. Ok (s ∷ ss)

with_twice : (s t u : ScopeLists) (first second : List SequenceScope) → t ≡ with_more s second → u ≡ with_more t first
    → u ≡ with_more s (first ++ second)
with_twice s t u first second h k =
    k ∙ ap (λ v. with_more v first) h
    ∙ ap (λ (coming : List SequenceScope). record s { coming = coming }) (sym (append_assoc first second s.coming))

joined : (r : Result Scope EmitError) (t : Result (List Scope) EmitError) (one others : List Scope)
    → (r >>= λ s. Ok (s ∷ [])) ≡ Ok one → t ≡ Ok others → (r >>= λ s. t >>= λ ss. Ok (s ∷ ss)) ≡ Ok (one ++ others)
joined (Ok s) t one others h k =
    let is : s ∷ [] ≡ one = cc in
    ap (λ r. r >>= λ ss. Ok (s ∷ ss)) k ∙ ap (λ (xs : List Scope). Ok (xs ++ others)) is
joined (Err e) t one others h k = absurd (cc)

pub announces_before : (b : List InstrSeq) (p : ℕ) (c : TextOperation) (ps : List ℕ) (cs : List TextOperation) (s t u : ScopeLists)
    → Announces b ps cs s t → Announces b (p ∷ []) (c ∷ []) t u → Announces b (p ∷ ps) (c ∷ cs) s u
announces_before b p c ps cs s t u later first = record {
  more = first.more ++ later.more;
  are_these =
      joined (scope_at b p c) (scopes_at b ps cs) (scopes_of first.more) (scopes_of later.more) first.are_these later.are_these
      ∙ ap (λ (ss : List Scope). Ok ss) (sym (map-append scope_of first.more later.more));
  are_first = with_twice s t u first.more later.more later.are_first first.are_first;
}

pub one_announced : (b : List InstrSeq) (p : ℕ) (c : Closer) (seq : InstrSeq) (s t : ScopeLists) → slice_get b p ≡ Some seq
    → t ≡ with_more s (ending p c seq.end ∷ []) → Announces b (p ∷ []) (closing c ∷ []) s t
one_announced b p c seq s t in_arena h = record {
  more = ending p c seq.end ∷ [];
  are_these = ap (λ o. looked_up p (closing c) o (Ok [])) in_arena;
  are_first = h;
}

-- ---- a sequence that doesn't exist

one_missing : (r : Result Scope EmitError) (t : Result (List Scope) EmitError) (e : EmitError)
    → (r >>= λ s. Ok (s ∷ [])) ≡ Err e → (r >>= λ s. t >>= λ ss. Ok (s ∷ ss)) ≡ Err e
one_missing (Ok s) t e h = absurd (cc)
one_missing (Err f) t e h = let is : f ≡ e = cc in ap Err is

only_unknown : (b : List InstrSeq) (ps : List ℕ) (cs : List TextOperation) (e : EmitError) → scopes_at b ps cs ≡ Err e → e ≡ UnknownSequence
only_unknown b [] cs e h = absurd (cc)
only_unknown b (p ∷ ps) [] e h = absurd (cc)
only_unknown b (p ∷ ps) (c ∷ cs) e h = by_lookup (slice_get b p) (scopes_at b ps cs) (only_unknown b ps cs) h
  where
    by_rest : (s : Scope) (t : Result (List Scope) EmitError) → ((e : EmitError) → t ≡ Err e → e ≡ UnknownSequence)
        → (t >>= λ ss. Ok (s ∷ ss)) ≡ Err e → e ≡ UnknownSequence
    by_rest s (Ok ss) g k = absurd (cc)
    by_rest s (Err f) g k = let is : f ≡ e = cc in sym is ∙ g f refl

    by_lookup : (o : Option InstrSeq) (t : Result (List Scope) EmitError) → ((e : EmitError) → t ≡ Err e → e ≡ UnknownSequence)
        → looked_up p c o t ≡ Err e → e ≡ UnknownSequence
    by_lookup None t g k = cc
    by_lookup (Some seq) t g k = by_rest (record { slot = p; closer = Some (at_location c seq.end) }) t g k

rest_unknown : (p : ℕ) (c : TextOperation) (o : Option InstrSeq) (t : Result (List Scope) EmitError) → t ≡ Err UnknownSequence
    → looked_up p c o t ≡ Err UnknownSequence
rest_unknown p c None t h = refl
rest_unknown p c (Some seq) t h = ap (λ r. r >>= λ ss. Ok (record { slot = p; closer = Some (at_location c seq.end) } ∷ ss)) h

later_missing : (b : List InstrSeq) (p : ℕ) (c : TextOperation) (ps : List ℕ) (cs : List TextOperation) (e : EmitError)
    → scopes_at b ps cs ≡ Err e → scopes_at b (p ∷ ps) (c ∷ cs) ≡ Err e
later_missing b p c ps cs e h =
    let is = only_unknown b ps cs e h in
    subst (λ f. scopes_at b (p ∷ ps) (c ∷ cs) ≡ Err f) (sym is)
    (rest_unknown p c (slice_get b p) (scopes_at b ps cs) (h ∙ ap Err is))

-- ---- the clauses of a legacy `try`

-- the operator that closes the sequence before these clauses, and those that close their handlers
abbrev first_closer : List LegacyClause → TextOperation
first_closer [] = end_operation
first_closer (c ∷ cs) = opening_clause c

abbrev later_closers : List LegacyClause → List TextOperation
later_closers [] = []
later_closers (handles t ∷ cs) = try_closers cs
later_closers (handles_all ∷ cs) = try_closers cs
later_closers (delegates n ∷ cs) = []

closers_split : (cs : List LegacyClause) → try_closers cs ≡ first_closer cs ∷ later_closers cs
closers_split [] = refl
closers_split (handles t ∷ cs) = refl
closers_split (handles_all ∷ cs) = refl
closers_split (delegates n ∷ cs) = refl

-- the handlers after the remaining clauses are announced, and this closes the sequence before them
pub record Remaining (b : List InstrSeq) (all left : List LegacyCatch) (old new : ScopeLists) (closer : Closer) : Type 0 where
  pub done : List LegacyCatch
  pub splits : all ≡ left ++ done
  pub announced : Announces b (handlers done) (later_closers (map legacy_clause done)) old new
  pub next : closing closer ≡ first_closer (map legacy_clause done)

none_after : (before after : List LegacyCatch) (n : ℕ) → are_handlers (map legacy_clause (before ++ Delegate n ∷ after)) ≡ true → ⊥
none_after [] after n h = absurd (cc)
none_after (Catch t p ∷ before) after n h = none_after before after n h
none_after (CatchAll p ∷ []) after n h = absurd (cc)
none_after (CatchAll p ∷ x ∷ before) after n h = absurd (cc)
none_after (Delegate m ∷ before) after n h = absurd (cc)

delegate_alone : (before after : List LegacyCatch) (n : ℕ) → are_lawful (map legacy_clause (before ++ Delegate n ∷ after)) ≡ true → after ≡ []
delegate_alone [] [] n h = refl
delegate_alone [] (x ∷ after) n h = absurd (cc)
delegate_alone (Catch t p ∷ before) after n h = absurd (none_after before after n h)
delegate_alone (CatchAll p ∷ []) after n h = absurd (cc)
delegate_alone (CatchAll p ∷ x ∷ before) after n h = absurd (cc)
delegate_alone (Delegate m ∷ []) after n h = absurd (cc)
delegate_alone (Delegate m ∷ x ∷ before) after n h = absurd (cc)

-- the closers of the handlers, starting at a clause with a handler
closers_from : (c : TextOperation) (done : List LegacyCatch) → c ≡ first_closer (map legacy_clause done)
    → c ∷ later_closers (map legacy_clause done) ≡ try_closers (map legacy_clause done)
closers_from c done h =
    ap (λ d. d ∷ later_closers (map legacy_clause done)) h ∙ sym (closers_split (map legacy_clause done))

one_more : (b : List InstrSeq) (all before : List LegacyCatch) (x : LegacyCatch) (s t u : ScopeLists) (closer : Closer)
    → are_lawful (map legacy_clause all) ≡ true → (r : Remaining b all (before ++ x ∷ []) s t closer)
    → all ≡ before ++ x ∷ r.done → Announces b (handler_of x) (closing closer ∷ []) t u
    → Announces b (handlers (x ∷ r.done)) (later_closers (map legacy_clause (x ∷ r.done))) s u
one_more b all before (Catch tag p) s t u closer lawful r is a =
    subst (λ cs. Announces b (p ∷ handlers r.done) cs s u) (closers_from (closing closer) r.done r.next)
    (announces_before b p (closing closer) (handlers r.done) (later_closers (map legacy_clause r.done)) s t u r.announced a)
one_more b all before (CatchAll p) s t u closer lawful r is a =
    subst (λ cs. Announces b (p ∷ handlers r.done) cs s u) (closers_from (closing closer) r.done r.next)
    (announces_before b p (closing closer) (handlers r.done) (later_closers (map legacy_clause r.done)) s t u r.announced a)
one_more b all before (Delegate n) s t u closer lawful r is a =
    let last = delegate_alone before r.done n (subst (λ (xs : List LegacyCatch). are_lawful (map legacy_clause xs) ≡ true) is lawful) in
    let none : handlers r.done ≡ [] = ap handlers last in
    let nothing : Ok [] ≡ Ok (scopes_of a.more) = a.are_these in
    let before_is : scopes_at b [] (later_closers (map legacy_clause r.done)) ≡ Ok (scopes_of r.announced.more) =
    sym (ap (λ (ps : List ℕ). scopes_at b ps (later_closers (map legacy_clause r.done))) none) ∙ r.announced.are_these in
    let first_none : scopes_of a.more ≡ [] = cc in
    let later_none : scopes_of r.announced.more ≡ [] = cc in record {
      more = a.more ++ r.announced.more;
      are_these =
          ap (λ (ps : List ℕ). scopes_at b ps []) none
          ∙ ap (λ (ss : List Scope). Ok ss) (both_none (scopes_of a.more) (scopes_of r.announced.more) first_none later_none)
          ∙ ap (λ (ss : List Scope). Ok ss) (sym (map-append scope_of a.more r.announced.more));
      are_first = with_twice s t u a.more r.announced.more r.announced.are_first a.are_first;
    }
  where
    both_none : (xs ys : List Scope) → xs ≡ [] → ys ≡ [] → [] ≡ xs ++ ys
    both_none xs ys e f = sym (ap (λ (zs : List Scope). zs ++ ys) e ∙ f)

pub remains : (b : List InstrSeq) (all left before : List LegacyCatch) (x : LegacyCatch) (s t u : ScopeLists) (closer next : Closer)
    → are_lawful (map legacy_clause all) ≡ true → left ≡ before ++ x ∷ [] → Remaining b all left s t closer
    → Announces b (handler_of x) (closing closer ∷ []) t u → closing next ≡ opening_clause (legacy_clause x)
    → Remaining b all before s u next
remains b all left before x s t u closer next lawful split r a opens =
    let q = subst (λ (xs : List LegacyCatch). Remaining b all xs s t closer) split r in
    let is = q.splits ∙ append_assoc before (x ∷ []) q.done in record {
      done = x ∷ q.done;
      splits = is;
      announced = one_more b all before x s t u closer lawful q is a;
      next = opens;
    }

-- ---- a handler that doesn't exist

none_empty : (b : List InstrSeq) (before done : List LegacyCatch) (cs : List TextOperation) (e : EmitError)
    → has_no_clauses (map legacy_clause (before ++ done)) ≡ true → scopes_at b (handlers done) cs ≡ Err e → ⊥
none_empty b [] [] cs e h k = absurd (cc)
none_empty b [] (x ∷ done) cs e h k = absurd (cc)
none_empty b (y ∷ before) done cs e h k = absurd (cc)

handlers_missing : (b : List InstrSeq) (before done : List LegacyCatch) (e : EmitError)
    → are_handlers (map legacy_clause (before ++ done)) ≡ true
    → scopes_at b (handlers done) (later_closers (map legacy_clause done)) ≡ Err e
    → scopes_at b (handlers (before ++ done)) (later_closers (map legacy_clause (before ++ done))) ≡ Err e
handlers_missing b [] done e h k = k
handlers_missing b (Catch t p ∷ before) done e h k =
    let all = before ++ done in
    ap (scopes_at b (p ∷ handlers all)) (closers_split (map legacy_clause all))
    ∙ later_missing b p (first_closer (map legacy_clause all)) (handlers all) (later_closers (map legacy_clause all)) e
    (handlers_missing b before done e h k)
handlers_missing b (CatchAll p ∷ before) done e h k = absurd (none_empty b before done (later_closers (map legacy_clause done)) e h k)
handlers_missing b (Delegate n ∷ before) done e h k = absurd (cc)

clauses_missing : (b : List InstrSeq) (before done : List LegacyCatch) (e : EmitError)
    → are_lawful (map legacy_clause (before ++ done)) ≡ true
    → scopes_at b (handlers done) (later_closers (map legacy_clause done)) ≡ Err e
    → scopes_at b (handlers (before ++ done)) (later_closers (map legacy_clause (before ++ done))) ≡ Err e
clauses_missing b [] done e h k = k
clauses_missing b (Catch t p ∷ before) done e h k = handlers_missing b (Catch t p ∷ before) done e h k
clauses_missing b (CatchAll p ∷ before) done e h k = absurd (none_empty b before done (later_closers (map legacy_clause done)) e h k)
clauses_missing b (Delegate n ∷ before) done e h k = absurd (none_empty b before done (later_closers (map legacy_clause done)) e h k)

handler_missing : (b : List InstrSeq) (x : LegacyCatch) (done : List LegacyCatch) (c : TextOperation) (e : EmitError)
    → c ≡ first_closer (map legacy_clause done) → scopes_at b (handler_of x) (c ∷ []) ≡ Err e
    → scopes_at b (handlers (x ∷ done)) (later_closers (map legacy_clause (x ∷ done))) ≡ Err e
handler_missing b (Catch t p) done c e h k =
    sym (ap (scopes_at b (p ∷ handlers done)) (closers_from c done h)) ∙ one_missing (scope_at b p c) _ e k
handler_missing b (CatchAll p) done c e h k =
    sym (ap (scopes_at b (p ∷ handlers done)) (closers_from c done h)) ∙ one_missing (scope_at b p c) _ e k
handler_missing b (Delegate n) done c e h k = absurd (cc)

-- why the sequences of the `try` aren't announced, if one of its handlers isn't
pub try_missing : (b : List InstrSeq) (seq : ℕ) (all left before : List LegacyCatch) (x : LegacyCatch) (s t : ScopeLists) (closer : Closer)
    (e : EmitError) → are_lawful (map legacy_clause all) ≡ true → left ≡ before ++ x ∷ [] → Remaining b all left s t closer
    → IsNotAnnounced b (handler_of x) (closing closer ∷ []) e → IsNotAnnounced b (seq ∷ handlers all) (try_closers (map legacy_clause all)) e
try_missing b seq all left before x s t closer e lawful split r (inl h) = inl h
try_missing b seq all left before x s t closer e lawful split r (inr h) =
    let q = subst (λ (xs : List LegacyCatch). Remaining b all xs s t closer) split r in
    let is = q.splits ∙ append_assoc before (x ∷ []) q.done in
    let from = handler_missing b x q.done (closing closer) e q.next h in
    let within : (xs : List LegacyCatch) × (xs ≡ all) × (scopes_at b (handlers xs) (later_closers (map legacy_clause xs)) ≡ Err e) = (
      before ++ x ∷ q.done,
      sym is,
      clauses_missing b before (x ∷ q.done) e (subst (λ (xs : List LegacyCatch). are_lawful (map legacy_clause xs) ≡ true) is lawful) from,
    ) in
    let whole = subst (λ (xs : List LegacyCatch). scopes_at b (handlers xs) (later_closers (map legacy_clause xs)) ≡ Err e) within.1 within.2 in
    inr (ap (scopes_at b (seq ∷ handlers all)) (closers_split (map legacy_clause all))
    ∙ later_missing b seq (first_closer (map legacy_clause all)) (handlers all) (later_closers (map legacy_clause all)) e whole)

-- no clause remains
pub try_announced : (b : List InstrSeq) (seq : ℕ) (all left : List LegacyCatch) (s t u : ScopeLists) (closer : Closer)
    → left ≡ [] → Remaining b all left s t closer → Announces b (seq ∷ []) (closing closer ∷ []) t u
    → Announces b (seq ∷ handlers all) (try_closers (map legacy_clause all)) s u
try_announced b seq all left s t u closer none r a =
    let q = subst (λ (xs : List LegacyCatch). Remaining b all xs s t closer) none r in
    subst (λ (xs : List LegacyCatch). Announces b (seq ∷ handlers xs) (try_closers (map legacy_clause xs)) s u) (sym q.splits)
    (subst (λ cs. Announces b (seq ∷ handlers q.done) cs s u) (closers_from (closing closer) q.done q.next)
    (announces_before b seq (closing closer) (handlers q.done) (later_closers (map legacy_clause q.done)) s t u q.announced a))

-- ---- the result of a call

pub nothing_left : (xs : List LegacyCatch) → length xs ≡ 0 → xs ≡ []
nothing_left [] h = refl
nothing_left (x ∷ xs) h = absurd (omega arith)

pub try_announced_so : (b : List InstrSeq) (seq : ℕ) (all left : List LegacyCatch) (s t u : ScopeLists) (closer : Closer)
    (r : Result (Unit {0}) EmitError) → left ≡ [] → Remaining b all left s t closer
    → OnOk r (Announces b (seq ∷ []) (closing closer ∷ []) t u)
    → OnOk r (Announces b (seq ∷ handlers all) (try_closers (map legacy_clause all)) s u)
try_announced_so b seq all left s t u closer (Ok _) none q a = try_announced b seq all left s t u closer none q a
try_announced_so b seq all left s t u closer (Err e) none q a = tt
