-- Loops over segments and over mappings.
use Rattle.std.proofs.Common.{◌≡◌, ℕ, suc, ◌+◌, ◌<◌, ◌≤◌, false, eqb, List, [], ◌∷◌, ◌++◌, length, get_or, take, drop, Result, Ok, Err, refl, sym, ap, ◌∙◌, append_assoc, add-one, drop-cons, arith}
use Rattle.std.specs.List.{AllByRecursion, join_with_byte, slice_split}
use Rattle.std.proofs.lemmas.List.{append-nil, take-append-drop, get_or-take, length-take}
use Rattle.std.proofs.lemmas.List.Elements.{All-from_recursion}
use Rattle.std.proofs.lemmas.Bool.{eqb-true}
use Rattle.std.proofs.lemmas.List.Splits.{slice_split_none, slice_split_at}
use Rattle.source_map.specs.declared.mapping.Mapping.{Mapping}
use Rattle.source_map.specs.declared.fields.Fields.{Fields}
use Rattle.source_map.specs.declared.fault.MappingsFault.{MappingsFault}
use Rattle.source_map.specs.Spelling.{fields_after}
use Rattle.wasm_numbers.specs.Results.{◌>>=◌}
use Rattle.source_map.specs.Reading.{segment_at, segments_at}
use Rattle.source_map.specs.Shortest.{short_segment, short_segments}
use Rattle.source_map.specs.MovingText.{after_commas}
use Rattle.source_map.proofs.Steps.{test_false}

-- ---- the first comma

abbrev NoComma : (text : List ℕ) → (below : ℕ) → Type 0
NoComma text below = (k : ℕ) → k < below → get_or text k 0 ≡ 44 → ⊥

lacks : (text : List ℕ) → NoComma text (length text) → AllByRecursion (λ x. eqb x 44 ≡ false) text
lacks [] h = tt
lacks (c ∷ cs) h = (test_false (eqb c 44) (λ e. h 0 (omega arith) (eqb-true c 44 e)), lacks cs (λ k lt. h (suc k) (omega arith)))

pub no_comma : (text : List ℕ) (n : ℕ) → length text ≤ n → NoComma text n → slice_split (λ b. eqb b 44) text ≡ text ∷ []
no_comma text n le h = slice_split_none (λ b. eqb b 44) text (All-from_recursion (λ x. eqb x 44 ≡ false) text (lacks text (λ k lt. h k (omega arith))))

pub first_comma : (text : List ℕ) (at : ℕ) → at < length text → get_or text at 0 ≡ 44 → NoComma text at → slice_split (λ b. eqb b 44) text ≡ take at text ∷ slice_split (λ b. eqb b 44) (drop (at + 1) text)
first_comma text at lt is h =
    let len : length (take at text) ≤ at = omega (arith, length-take at text) in
    let none = lacks (take at text) (λ k below e. h k (omega arith) (sym (get_or-take at text k 0 (omega arith)) ∙ e)) in
    let parts : text ≡ take at text ++ 44 ∷ drop (at + 1) text = sym (take-append-drop at text) ∙ ap (λ (x : List ℕ). take at text ++ x) (drop-cons text at 0 lt ∙ rw (is, add-one) refl) in
    ap (slice_split (λ b. eqb b 44)) parts ∙ slice_split_at (λ b. eqb b 44) (take at text) 44 (drop (at + 1) text) (All-from_recursion (λ x. eqb x 44 ≡ false) (take at text) none) refl

-- ---- segments that are read

-- the mappings that were read before, and those that are still read
abbrev pub with_front : List Mapping → Result (List Mapping) MappingsFault → Result (List Mapping) MappingsFault
with_front front read = read >>= λ ms. Ok (front ++ ms)

pub begins : (read : Result (List Mapping) MappingsFault) → with_front [] read ≡ read
begins (Ok ms) = refl
begins (Err f) = refl

regroup : (front : List Mapping) (m : Mapping) (read : Result (List Mapping) MappingsFault) → with_front front (read >>= λ ms. Ok (m ∷ ms)) ≡ with_front (front ++ m ∷ []) read
regroup front m (Ok ms) = ap (λ (x : List Mapping). Ok x) (simp append_assoc)
regroup front m (Err f) = refl

-- no segment is left, or the first one is read
pub none_read : (s : Fields) → segments_at s [] ≡ Ok []
unfolding segments_at
none_read s = refl

pub one_read : (s : Fields) (t : List ℕ) (ts : List (List ℕ)) (m : Mapping) → segment_at s t ≡ Ok m → segments_at s (t ∷ ts) ≡ (segments_at (fields_after s m) ts >>= λ ms. Ok (m ∷ ms))
unfolding segments_at
one_read s t ts m h = rw h refl

pub one_refused : (s : Fields) (t : List ℕ) (ts : List (List ℕ)) (f : MappingsFault) → segment_at s t ≡ Err f → segments_at s (t ∷ ts) ≡ Err f
unfolding segments_at
one_refused s t ts f h = rw h refl

-- the next mapping is read; or none is left; or it can't be read
pub goes_on : (front : List Mapping) (m : Mapping) (old new total : Result (List Mapping) MappingsFault) → old ≡ (new >>= λ ms. Ok (m ∷ ms)) → with_front front old ≡ total → with_front (front ++ m ∷ []) new ≡ total
goes_on front m old new total e so_far = sym (regroup front m new) ∙ (ap (with_front front) (sym e) ∙ so_far)

pub are_all : (front : List Mapping) (old total : Result (List Mapping) MappingsFault) → old ≡ Ok [] → with_front front old ≡ total → total ≡ Ok front
are_all front old total e so_far = sym so_far ∙ (ap (with_front front) e ∙ ap (λ (x : List Mapping). Ok x) (append-nil front))

pub is_fault : (front : List Mapping) (old total : Result (List Mapping) MappingsFault) (f : MappingsFault) → old ≡ Err f → with_front front old ≡ total → total ≡ Err f
is_fault front old total f e so_far = sym so_far ∙ ap (with_front front) e

-- ---- segments that are written

joined_is : (t : List ℕ) (ts : List (List ℕ)) → join_with_byte 44 (t ∷ ts) ≡ t ++ after_commas ts
joined_is t [] = sym (append-nil t)
joined_is t (u ∷ us) = ap (λ (x : List ℕ). t ++ 44 ∷ x) (joined_is u us)

pub first_written : (s : Fields) (m : Mapping) (ms : List Mapping) → short_segment s m ++ after_commas (short_segments (fields_after s m) ms) ≡ join_with_byte 44 (short_segments s (m ∷ ms))
first_written s m ms = sym (joined_is (short_segment s m) (short_segments (fields_after s m) ms))

pub one_written : (out : List ℕ) (s : Fields) (m : Mapping) (ms : List Mapping) → ((out ++ 44 ∷ []) ++ short_segment s m) ++ after_commas (short_segments (fields_after s m) ms) ≡ out ++ after_commas (short_segments s (m ∷ ms))
one_written out s m ms = simp append_assoc
