-- Attributes of an entry that are read one after the other.
use Rattle.std.proofs.Common.{◌≡◌, ℕ, ◌+◌, ◌<◌, ◌≤◌, List, [], ◌∷◌, ◌++◌, length, get_or, drop, Ok, Err, refl, ap, subst, ◌∙◌, arith}
use Rattle.std.proofs.lemmas.List.{append-nil, drop_more, drop_all}
use Rattle.wasm_numbers.specs.Results.{◌>>=◌}
use Rattle.dwarf_bytes.specs.declared.fault.DebugFault.{DebugFault}
use Rattle.dwarf_expressions.specs.declared.encoding.Encoding.{Encoding}
use Rattle.dwarf_info.specs.declared.abbreviations.Attribute.{Attribute}
use Rattle.dwarf_info.specs.declared.form.Form.{Form}
use Rattle.dwarf_info.specs.Entries.{SpelledAttribute, spelled_attributes}
use Rattle.dwarf_info.specs.Forms.{SpelledValue, form_of_value, spelled_value}
use Rattle.dwarf_info.proofs.Reading.{with_front, front_front, front_none}

-- What is read of all attributes is these values and what is read of the others, from this index on.
pub record ValuesSoFar (e : Encoding) (end : ℕ) (all : List Attribute) (bytes : List ℕ) (i : ℕ) (values : List SpelledAttribute) (rest : List ℕ) : Type 0 where
  pub read : spelled_attributes e end all bytes ≡ with_front values (spelled_attributes e end (drop i all) rest)
  pub fits : length rest ≤ length bytes

pub values_none : (e : Encoding) (end : ℕ) (all : List Attribute) (bytes : List ℕ) → ValuesSoFar e end all bytes 0 [] bytes
values_none e end all bytes = record { read = front_none (spelled_attributes e end all bytes); fits = omega arith }

module _ (e : Encoding) (end : ℕ) (all : List Attribute) (bytes : List ℕ) (i : ℕ) (values : List SpelledAttribute) (rest : List ℕ)
    (s : ValuesSoFar e end all bytes i values rest) where
  pub values_done : length all ≤ i → spelled_attributes e end all bytes ≡ Ok (values, rest)
  unfolding spelled_attributes
  values_done few =
      s.read ∙ (ap (λ others. with_front values (spelled_attributes e end others rest)) (drop_all i all few) ∙ ap (λ vs. Ok (vs, rest)) (append-nil values))

  module _ (d : Attribute) (within : i < length all) where
    abbrev here : Attribute
    here = get_or all i d

    read_here : spelled_attributes e end all bytes ≡ with_front values (spelled_attributes e end (here ∷ drop (i + 1) all) rest)
    read_here = s.read ∙ ap (λ others. with_front values (spelled_attributes e end others rest)) (drop_more all i d within)

    pub form_refused : (fault : DebugFault) → form_of_value here.form rest ≡ Err fault → spelled_attributes e end all bytes ≡ Err fault
    unfolding spelled_attributes
    form_refused fault f =
        let first : spelled_attributes e end (here ∷ drop (i + 1) all) rest ≡ Err fault = rw f refl in
        read_here ∙ ap (with_front values) first

    module _ (form : Form) (mid : List ℕ) (f : form_of_value here.form rest ≡ Ok (form, mid)) (end_read : ℕ) (same : end_read ≡ end) where
      pub value_refused : (fault : DebugFault) → spelled_value e form.layout end_read mid ≡ Err fault → spelled_attributes e end all bytes ≡ Err fault
      unfolding spelled_attributes
      value_refused fault g =
          let h : spelled_value e form.layout end mid ≡ Err fault = subst (λ n. spelled_value e form.layout n mid ≡ Err fault) same g in
          let first : spelled_attributes e end (here ∷ drop (i + 1) all) rest ≡ Err fault = rw (f, h) refl in
          read_here ∙ ap (with_front values) first

      pub values_more : (v : SpelledValue) (after : List ℕ) → spelled_value e form.layout end_read mid ≡ Ok (v, after) → length mid ≤ length rest → length after ≤ length mid
          → ValuesSoFar e end all bytes (i + 1) (values ++ (record { meaning = here.meaning; form = form; value = v }) ∷ []) after
      unfolding spelled_attributes
      values_more v after g less less_again = record {
        read =
            let h : spelled_value e form.layout end mid ≡ Ok (v, after) = subst (λ n. spelled_value e form.layout n mid ≡ Ok (v, after)) same g in
            let one : SpelledAttribute = record { meaning = here.meaning; form = form; value = v } in
            let first : spelled_attributes e end (here ∷ drop (i + 1) all) rest ≡ (spelled_attributes e end (drop (i + 1) all) after >>= λ others. Ok (one ∷ others.0, others.1)) = rw (f, h) refl in
            read_here ∙ (ap (with_front values) first ∙ front_front values one (spelled_attributes e end (drop (i + 1) all) after));
        fits = let k = s.fits in omega arith;
      }
