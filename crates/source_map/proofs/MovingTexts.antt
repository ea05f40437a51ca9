-- The text of a source map, as far as operators were named.
use Rattle.std.proofs.Common.{◌≡◌, ℕ, ◌≤◌, ◌<◌, List, [], ◌∷◌, ◌++◌, Option, Some, None, Ok, Err, refl, sym, ap, subst, ◌∙◌, append_assoc, arith}
use Rattle.std.proofs.lemmas.List.{append-nil}
use Rattle.std.proofs.lemmas.Bool.{lt-ltb, le-ltb}
use Rattle.source_map.specs.declared.fault.MappingsFault.{MappingsFault}
use Rattle.source_map.specs.declared.fields.Fields.{Fields}
use Rattle.source_map.specs.declared.mapping.Mapping.{Mapping}
use Rattle.source_map.specs.declared.moving.Move.{Move}
use Rattle.source_map.specs.declared.moving_text.MovingSourceMap.{MovingSourceMap}
use Rattle.source_map.specs.Moving.{in_body, with_place, moved_all}
use Rattle.source_map.specs.MovingText.{fields_written, written_after, all_written_after, MovedSoFar, HasMoved}
use Rattle.source_map.specs.Reading.{mappings_at, mappings_left, before_others}
use Rattle.source_map.specs.Shortest.{spelling}
use Rattle.source_map.specs.Spelling.{no_fields, fields_after, AreSegments, SpellsMappings, AscendFrom}
use Rattle.source_map.proofs.Loops.{first_written}
use Rattle.source_map.proofs.Short.{after_generated}
use Rattle.source_map.proofs.Steps.{bind_ok, ok_is}
use Rattle.source_map.proofs.Wholes.{whole_again}

-- ---- the text

one_more : (last : Option Fields) (m : Mapping) (ms : List Mapping) → written_after last m ++ all_written_after (Some (fields_written last m)) ms ≡ all_written_after last (m ∷ ms)
one_more None m ms = first_written no_fields m ms
one_more (Some s) m ms = refl

pub is_written : (text : List ℕ) (last : Option Fields) (m : Mapping) (ms : List Mapping) → (text ++ written_after last m) ++ all_written_after (Some (fields_written last m)) ms ≡ text ++ all_written_after last (m ∷ ms)
is_written text last m ms = append_assoc text (written_after last m) _ ∙ ap (λ (x : List ℕ). text ++ x) (one_more last m ms)

none_written : (last : Option Fields) → all_written_after last [] ≡ []
none_written None = refl
none_written (Some s) = refl

-- ---- the order of mappings

below : (low high : ℕ) (ms : List Mapping) → low ≤ high → AscendFrom high ms → AscendFrom low ms
below low high [] le up = tt
below low high (m ∷ ms) le up = (omega (arith, le, up.0), up.1)

ascends : (s : Fields) (ms : List Mapping) (ts : List (List ℕ)) → AreSegments s ms ts → AscendFrom s.generated ms
ascends s [] ts h = tt
ascends s (m ∷ ms) [] h = absurd h
ascends s (m ∷ ms) (t ∷ ts) h = (h.0.ascends, subst (λ (x : ℕ). AscendFrom x ms) (sym (after_generated s m.generated m.original)) (ascends (fields_after s m) ms ts h.1))

-- ---- operators

-- mappings after an operator aren't moved by it
passed_over : (step : Move) (more : List Move) (least : ℕ) (ms : List Mapping) → step.old < least → AscendFrom least ms → moved_all (step ∷ more) ms ≡ moved_all more ms
passed_over step more least [] lt up = refl
passed_over step more least (m ∷ ms) lt up =
    rw (lt-ltb step.old m.generated (omega (arith, lt, up.0))) (ap (with_place m _) (passed_over step more m.generated ms (omega (arith, lt, up.0)) up.1))

none_moved : (ms : List Mapping) → moved_all [] ms ≡ []
none_moved [] = refl
none_moved (m ∷ ms) = none_moved ms

-- ---- steps

first_left : (m : Mapping) (next : Option Mapping) (s : MovingSourceMap) (left : List Mapping) → next ≡ Some m → before_others next (mappings_left s.segments) ≡ Ok left
    → (rest : List Mapping) × (mappings_left s.segments ≡ Ok rest) × (m ∷ rest ≡ left)
first_left m next s left is are =
    let found = bind_ok (mappings_left s.segments) (λ ms. Ok (m ∷ ms)) left (subst (λ (x : Option Mapping). before_others x (mappings_left s.segments) ≡ Ok left) is are) in
    (found.0, found.1, ok_is (m ∷ found.0) left found.2)

module _ (all : List Mapping) (moves : List Move) (step : Move) where
  pub named_next : (s : MovingSourceMap) → HasMoved all moves s → MovedSoFar (step ∷ []) all moves s
  named_next s h = record { left = h.left; are_left = h.are_left; ascend = h.ascend; text = λ more. h.text (step ∷ more) }

  pub passes : (s t : MovingSourceMap) (m : Mapping) → s.next ≡ Some m → m.generated ≤ step.old → t.map ≡ s.map
      → mappings_left s.segments ≡ before_others t.next (mappings_left t.segments)
      → ((more : List Mapping) → t.text.items ++ all_written_after t.last more ≡ s.text.items ++ all_written_after s.last (with_place m (in_body m.generated (Some step)) more))
      → MovedSoFar (step ∷ []) all moves s → MovedSoFar (step ∷ []) all moves t
  passes s t m is reached same read written h =
      let found = first_left m s.next s h.left is h.are_left in
      let up : AscendFrom 0 (m ∷ found.0) = subst (AscendFrom 0) (sym found.2) h.ascend in
      record {
        left = found.0;
        are_left = sym read ∙ found.1;
        ascend = below 0 m.generated found.0 (omega arith) up.1;
        text = λ more.
            let moved : with_place m (in_body m.generated (Some step)) (moved_all (step ∷ more) found.0) ≡ moved_all (step ∷ more) (m ∷ found.0) = rw (le-ltb step.old m.generated reached) refl in
            written (moved_all (step ∷ more) found.0)
            ∙ ap (λ (x : List Mapping). s.text.items ++ all_written_after s.last x) (moved ∙ ap (moved_all (step ∷ more)) found.2)
            ∙ (h.text more ∙ ap (λ k. k.now.front.items ++ spelling (moved_all (moves ++ (step ∷ more)) all)) (sym same));
      }

  pub never_refuses : (s : MovingSourceMap) (m : Mapping) (f : MappingsFault) → s.next ≡ Some m → mappings_left s.segments ≡ Err f → MovedSoFar (step ∷ []) all moves s → ⊥
  never_refuses s m f is fault h = let found = first_left m s.next s h.left is h.are_left in let wrong : Err f ≡ Ok found.0 = sym fault ∙ found.1 in absurd (cc wrong)

  -- all that the operator moves was passed
  is_named : (s : MovingSourceMap) (h : MovedSoFar (step ∷ []) all moves s) → ((more : List Move) → moved_all (step ∷ more) h.left ≡ moved_all more h.left) → HasMoved all (moves ++ step ∷ []) s
  is_named s h over = record {
    left = h.left;
    are_left = h.are_left;
    ascend = h.ascend;
    text = λ more.
        ap (λ (x : List Mapping). s.text.items ++ all_written_after s.last x) (sym (over more))
        ∙ (h.text more ∙ ap (λ (x : List Move). s.map.now.front.items ++ spelling (moved_all x all)) (sym (append_assoc moves (step ∷ []) more)));
  }

  pub stops : (s : MovingSourceMap) (m : Mapping) → s.next ≡ Some m → step.old < m.generated → MovedSoFar (step ∷ []) all moves s → HasMoved all (moves ++ step ∷ []) s
  stops s m is lt h =
      let found = first_left m s.next s h.left is h.are_left in
      let up : AscendFrom 0 (m ∷ found.0) = subst (AscendFrom 0) (sym found.2) h.ascend in
      let from : AscendFrom m.generated (m ∷ found.0) = (omega arith, up.1) in
      is_named s h (λ more. passed_over step more m.generated h.left lt (subst (AscendFrom m.generated) found.2 from))

  pub ends : (s : MovingSourceMap) → s.next ≡ None → MovedSoFar (step ∷ []) all moves s → HasMoved all (moves ++ step ∷ []) s
  ends s is h =
      let none : [] ≡ h.left = ok_is [] h.left (subst (λ (x : Option Mapping). before_others x (mappings_left s.segments) ≡ Ok h.left) is h.are_left) in
      is_named s h (λ more. subst (λ (x : List Mapping). moved_all (step ∷ more) x ≡ moved_all more x) none refl)

-- ---- the beginning and the end

pub begins_moving : (all : List Mapping) (s : MovingSourceMap) (text : List ℕ) → SpellsMappings all text → mappings_at text ≡ before_others s.next (mappings_left s.segments) → s.last ≡ None → s.text.items ≡ s.map.now.front.items → HasMoved all [] s
begins_moving all s text spells read last front = record {
  left = all;
  are_left = sym read ∙ whole_again all text spells;
  ascend = ascends no_fields all spells.0 spells.2;
  text = λ more. rw (last, front) refl;
}

pub never_refused : (all : List Mapping) (text : List ℕ) (f : MappingsFault) → SpellsMappings all text → mappings_at text ≡ Err f → ⊥
never_refused all text f spells fault = let wrong : Err f ≡ Ok all = sym fault ∙ whole_again all text spells in absurd (cc wrong)

pub whole_text : (all : List Mapping) (moves : List Move) (s : MovingSourceMap) → HasMoved all moves s → s.text.items ≡ s.map.now.front.items ++ spelling (moved_all moves all)
whole_text all moves s h =
    let nothing : all_written_after s.last (moved_all [] h.left) ≡ [] = ap (all_written_after s.last) (none_moved h.left) ∙ none_written s.last in
    sym (append-nil s.text.items) ∙ (ap (λ (x : List ℕ). s.text.items ++ x) (sym nothing) ∙ (h.text [] ∙ ap (λ (x : List Move). s.map.now.front.items ++ spelling (moved_all x all)) (append-nil moves)))
