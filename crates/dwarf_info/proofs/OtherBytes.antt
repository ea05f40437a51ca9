-- Bytes that are in no value that a step may replace.
use Rattle.std.proofs.Common.{◌≡◌, ℕ, ◌+◌, ◌<◌, ◌≤◌, ◌⊎◌, inl, inr, true, false, eqb, List, [], ◌∷◌, Ok, Err, refl, sym, subst}
use Rattle.std.specs.Prelude.{MatchBool, MatchResult}
use Rattle.std.specs.List.{AllByRecursion}
use Rattle.dwarf_bytes.specs.Changes.{AreChangesInOrder}
use Rattle.dwarf_bytes.specs.Uses.{none_added}
use Rattle.dwarf_bytes.proofs.ChangeLaws.{kept, order_more}
use Rattle.dwarf_expressions.specs.declared.encoding.Encoding.{Encoding}
use Rattle.dwarf_info.specs.declared.effect.Effect.{Effect}
use Rattle.dwarf_info.specs.declared.effect.Effect.TheVariants as effects
use Rattle.dwarf_info.specs.declared.form.Layout.{Layout}
use Rattle.dwarf_info.specs.Effects.{EntryContext}
use Rattle.dwarf_info.specs.Forms.{SpelledValue, FitsForm, number_size, number_written}
use Rattle.dwarf_info.specs.OtherBytes.{replaces_value, IsOutsideOfValue, IsOutsideOfSteps, OtherBytesStay}
use Rattle.dwarf_info.specs.Steps.{EntrySteps, notes, changes}
use Rattle.dwarf_info.specs.Taken.{EntriesMoved, change_of_value, IsReplaced, IsNumberSet, IsEffectTaken, AreStepsTaken}
use Rattle.dwarf_info.proofs.Search.{all_append}

-- the changes are in order, and the byte is in none of them
abbrev Keeps : (o : ℕ) → EntriesMoved → Type 0
Keeps o m = AreChangesInOrder 0 m.changes × AllByRecursion (λ c. (c.at + c.old ≤ o) ⊎ (o < c.at)) m.changes

module _ (o : ℕ) (v : SpelledValue) where
  replaced_keeps : (bytes : List ℕ) (old new : EntriesMoved) → IsOutsideOfValue o v → IsReplaced v bytes old new → Keeps o old → Keeps o new
  replaced_keeps bytes old new out h k =
      subst (Keeps o) (sym h.0) (
        order_more 0 old.changes (change_of_value v bytes) k.0 h.1,
        all_append (λ c. (c.at + c.old ≤ o) ⊎ (o < c.at)) old.changes (change_of_value v bytes ∷ []) k.1 (out, tt),
      )

  number_keeps : (e : Encoding) (layout : Layout) (n : ℕ) (old new : EntriesMoved) → IsOutsideOfValue o v → IsNumberSet e layout v n old new → Keeps o old → Keeps o new
  number_keeps e layout n old new out h k =
      elim (eqb n v.number) as (λ b. MatchBool b (new ≡ old) (FitsForm (number_size e layout) n × IsReplaced v (number_written (number_size e layout) v.size n) old new) → Keeps o new) [
        | true ↦ λ same. subst (Keeps o) (sym same) k
        | false ↦ λ x. replaced_keeps (number_written (number_size e layout) v.size n) old new out x.1 k
      ] h

  effect_keeps : (c : EntryContext) (layout : Layout) (effect : Effect) (old new : EntriesMoved) → (replaces_value effect ≡ true → IsOutsideOfValue o v) → IsEffectTaken c layout v effect old new
      → Keeps o old → Keeps o new
  effect_keeps c layout effects.Stays old new out h k = subst (Keeps o) (sym h) k
  effect_keeps c layout (effects.Number n) old new out h k = number_keeps c.encoding layout n old new (out refl) h k
  effect_keeps c layout (effects.Address address n) old new out h k = subst (Keeps o) (sym h) k
  effect_keeps c layout effects.NoAddress old new out h k =
      elim (none_added c.bases.addresses c.encoding.format old.longer)
      as (λ r. MatchResult r (λ (index, longer). IsNumberSet c.encoding layout v index (record old { longer = longer }) new) (λ fault. ⊥) → Keeps o new) [
        | Ok x ↦ λ g. number_keeps c.encoding layout x.0 (record old { longer = x.1 }) new (out refl) g k
        | Err fault ↦ λ g. absurd g
      ] h
  effect_keeps c layout (effects.Ranges l) old new out h k = subst (Keeps o) (sym h) k
  effect_keeps c layout (effects.Locations l) old new out h k = subst (Keeps o) (sym h) k
  effect_keeps c layout effects.LineTable old new out h k = number_keeps c.encoding layout h.0.new old new (out refl) h.2 k
  effect_keeps c layout effects.Expression old new out h k =
      elim h.3 [
        | inl same ↦ subst (Keeps o) (sym same.1) k
        | inr written ↦ replaced_keeps _ _ new (out refl) written.2 k
      ]

steps_keep : (o : ℕ) (steps : EntrySteps) (old new : EntriesMoved) → AreStepsTaken steps old new → IsOutsideOfSteps o steps → Keeps o old → Keeps o new
steps_keep o [] old new h out k = subst (Keeps o) (sym h) k
steps_keep o (Err fault ∷ steps) old new h out k = absurd h
steps_keep o (Ok (notes range) ∷ steps) old new h out k = steps_keep o steps h.0 new h.2 out (subst (Keeps o) (sym h.1) k)
steps_keep o (Ok (changes c layout v effect) ∷ steps) old new h out k =
    steps_keep o steps h.0 new h.2 out.1 (effect_keeps o v c layout effect old h.0 out.0 h.1 k)

pub other_bytes_stay : OtherBytesStay
other_bytes_stay steps old new section o none h within out =
    let start : Keeps o old = subst (λ cs. AreChangesInOrder 0 cs × AllByRecursion (λ c. (c.at + c.old ≤ o) ⊎ (o < c.at)) cs) (sym none) (tt, tt) in
    let end = steps_keep o steps old new h out start in
    kept new.changes section o end.0 within end.1
