-- Whole texts: segments between commas.
use Rattle.std.proofs.Common.{◌≡◌, ℕ, Bool, false, eqb, List, [], ◌∷◌, Some, Result, Ok, Err, refl, sym, ap, subst, ◌∙◌}
use Rattle.std.specs.List.{AllByRecursion, join_with_byte, slice_split}
use Rattle.std.proofs.lemmas.List.Elements.{All-from_recursion}
use Rattle.std.proofs.lemmas.List.Splits.{slice_split_none, slice_split_at, join_with_byte-slice_split}
use Rattle.source_map.specs.declared.mapping.Mapping.{Mapping}
use Rattle.source_map.specs.declared.fields.Fields.{Fields}
use Rattle.source_map.specs.Spelling.{no_fields, fields_after, IsSegment, AreSegments, SpellsMappings}
use Rattle.std.specs.Prelude.{IfOk}
use Rattle.source_map.specs.declared.fault.MappingsError.{MappingsError}
use Rattle.source_map.specs.Reading.{segments_at, comma_parts, some_text, mappings_at, ReadsOrMemory}
use Rattle.source_map.proofs.Steps.{ok_is}
use Rattle.source_map.proofs.Segments.{segment_lacks, segment_some, segments_taken, segments_again}

abbrev comma : ℕ → Bool
comma c = eqb c 44

abbrev Lacks : List ℕ → Type 0
Lacks text = AllByRecursion (λ x. comma x ≡ false) text

rejoined : (text : List ℕ) → text ≡ join_with_byte 44 (comma_parts (some_text text))
rejoined [] = refl
rejoined (c ∷ cs) = sym (join_with_byte-slice_split 44 (c ∷ cs))

pub whole_taken : (text : List ℕ) (ms : List Mapping) → mappings_at text ≡ Ok ms → SpellsMappings ms text
unfolding mappings_at
whole_taken text ms e = (comma_parts (some_text text), rejoined text, segments_taken no_fields (comma_parts (some_text text)) ms e)

split_joined : (t : List ℕ) (ts : List (List ℕ)) → Lacks t → AllByRecursion Lacks ts → slice_split comma (join_with_byte 44 (t ∷ ts)) ≡ t ∷ ts
split_joined t [] p q = slice_split_none comma t (All-from_recursion (λ x. comma x ≡ false) t p)
split_joined t (u ∷ us) p q =
    slice_split_at comma t 44 (join_with_byte 44 (u ∷ us)) (All-from_recursion (λ x. comma x ≡ false) t p) refl
    ∙ ap (λ (x : List (List ℕ)). t ∷ x) (split_joined u us q.0 q.1)

some_text_of : (text : List ℕ) → (text ≡ [] → ⊥) → some_text text ≡ Some text
some_text_of [] some = absurd (some refl)
some_text_of (c ∷ cs) some = refl

joined_some : (c : ℕ) (cs : List ℕ) (ts : List (List ℕ)) → join_with_byte 44 ((c ∷ cs) ∷ ts) ≡ [] → ⊥
joined_some c cs [] e = absurd cc
joined_some c cs (u ∷ us) e = absurd cc

front_some : (t : List ℕ) (ts : List (List ℕ)) → (t ≡ [] → ⊥) → join_with_byte 44 (t ∷ ts) ≡ [] → ⊥
front_some [] ts some e = some refl
front_some (c ∷ cs) ts some e = joined_some c cs ts e

all_lack : (s : Fields) (ms : List Mapping) (ts : List (List ℕ)) → AreSegments s ms ts → AllByRecursion Lacks ts
all_lack s [] [] h = tt
all_lack s [] (t ∷ ts) h = absurd h
all_lack s (m ∷ ms) [] h = absurd h
all_lack s (m ∷ ms) (t ∷ ts) h = (segment_lacks s m t h.0, all_lack (fields_after s m) ms ts h.1)

parts_are : (s : Fields) (ms : List Mapping) (ts : List (List ℕ)) → AreSegments s ms ts → comma_parts (some_text (join_with_byte 44 ts)) ≡ ts
parts_are s [] [] h = refl
parts_are s [] (t ∷ ts) h = absurd h
parts_are s (m ∷ ms) [] h = absurd h
parts_are s (m ∷ ms) (t ∷ ts) h =
    let some = some_text_of (join_with_byte 44 (t ∷ ts)) (front_some t ts (λ e. segment_some s m (subst (λ (x : List ℕ). IsSegment s m x) e h.0))) in
    ap comma_parts some ∙ split_joined t ts (segment_lacks s m t h.0) (all_lack (fields_after s m) ms ts h.1)

pub whole_again : (ms : List Mapping) (text : List ℕ) → SpellsMappings ms text → mappings_at text ≡ Ok ms
unfolding mappings_at
whole_again ms text h =
    ap (λ (x : List ℕ). segments_at no_fields (comma_parts (some_text x))) h.1
    ∙ ap (segments_at no_fields) (parts_are no_fields ms h.0 h.2)
    ∙ segments_again no_fields ms h.0 h.2

pub one_reading : (text : List ℕ) (ms others : List Mapping) → SpellsMappings ms text → SpellsMappings others text → ms ≡ others
one_reading text ms others p q = ok_is ms others (sym (whole_again ms text p) ∙ whole_again others text q)

pub is_read : {X : Type 0} (view : X → List Mapping) (r : Result X MappingsError) (text : List ℕ) → ReadsOrMemory view r (mappings_at text) → IfOk r (λ x. SpellsMappings (view x) text)
is_read view (Ok x) text h = whole_taken text (view x) h
is_read view (Err e) text h = tt
