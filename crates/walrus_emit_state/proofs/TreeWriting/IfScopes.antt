-- The sequences of an `if`, announced.
use Rattle.std.specs.Prelude.{◌≡◌, ℕ, List, [], ◌∷◌, Bool, Some, slice_get, Result, Ok, Err, OnErr}
use Rattle.std.proofs.Common.{sym, ap, ◌∙◌}
use Rattle.walrus_ir.specs.declared.seq.InstrSeq.{InstrSeq}
use Rattle.walrus_ir.specs.declared.val_type.InstrSeqType.{InstrSeqType}
use Rattle.wasm_numbers.specs.Results.{◌>>=◌, some_or}
use Rattle.wasm_body.specs.declared.error.EmitError.TheVariants.{UnknownSequence}
use Rattle.walrus_emit_state.specs.declared.closing.SequenceScope.{SequenceScope}
use Rattle.walrus_emit_state.specs.Emission.{Scope, is_short, if_scopes, scopes_of_if}
use Rattle.walrus_emit_state.specs.TreeWriting.Closers.{scopes_of}
use Rattle.walrus_emit_state.specs.TreeWriting.ScopeLists.{ScopeLists, with_more}
use Rattle.walrus_emit_state.specs.TreeWriting.Announcing.{AreAnnounced, HasMore}

module _ (balanced : InstrSeqType → Bool) (b : List InstrSeq) (p q : ℕ) where
  pub if_found : (c a : InstrSeq) → slice_get b p ≡ Some c → slice_get b q ≡ Some a
      → scopes_of_if balanced b p q ≡ Ok (if_scopes (is_short balanced c a) p c q a)
  if_found c a e d =
      ap (λ o. some_or o UnknownSequence >>= λ c. some_or (slice_get b q) UnknownSequence >>= λ a. Ok (if_scopes (is_short balanced c a) p c q a)) e
      ∙ ap (λ o. some_or o UnknownSequence >>= λ a. Ok (if_scopes (is_short balanced c a) p c q a)) d

  pub if_announced : (c a : InstrSeq) (first second : SequenceScope) (s t u : ScopeLists) → slice_get b p ≡ Some c → slice_get b q ≡ Some a
      → scopes_of (first ∷ second ∷ []) ≡ if_scopes (is_short balanced c a) p c q a
      → t ≡ with_more s (second ∷ []) → u ≡ with_more t (first ∷ []) → AreAnnounced (scopes_of_if balanced b p q) s u
  if_announced c a first second s t u e d are later before = record {
    more = first ∷ second ∷ [];
    are_these = if_found c a e d ∙ ap (λ (ss : List Scope). Ok ss) (sym are);
    are_first = before ∙ ap (λ v. with_more v (first ∷ [])) later;
  }

-- if the second of two scopes isn't announced, the first still is
pub first_kept : {A E : Type 0} (r : Result A E) (s t u : ScopeLists) (scope : SequenceScope) → t ≡ with_more s (scope ∷ []) → u ≡ t → OnErr r (HasMore s u)
first_kept (Ok x) s t u scope h k = tt
first_kept (Err e) s t u scope h k = record { more = scope ∷ []; are_first = k ∙ h }
