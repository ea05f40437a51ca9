-- Names that are added to a list of names, and sections that are chosen.
use Rattle.std.proofs.Common.{◌≡◌, ◌==◌, ℕ, Bool, true, false, not, ◌||◌, ◌&&◌, List, [], ◌∷◌, ◌++◌, length, codes, refl, ap, ◌∙◌, Bor}
use Rattle.std.proofs.lemmas.Slice.Eq.{bytes_eq-Decides}
use Rattle.wasm_sections.specs.declared.omissions.OmittedSections.{OmittedSections}
use Rattle.wasm_sections.specs.Omissions.{texts_of, has_name, names_debug, names_source_map, is_chosen}

pub one_more_name : (ns : List (Bor (List ℕ))) (n : Bor (List ℕ)) → texts_of (ns ++ n ∷ []) ≡ texts_of ns ++ n.now ∷ []
one_more_name [] n = refl
one_more_name (m ∷ ns) n = ap (λ (l : List (List ℕ)). m.now ∷ l) (one_more_name ns n)

-- ---- sections that are chosen

one_flag : (all named debug url : Bool) → (all || (debug || url)) ≡ true → (all || (named || ((debug && true) || (url && true)))) ≡ true
one_flag true named debug url e = refl
one_flag false true debug url e = refl
one_flag false false true url e = refl
one_flag false false false true e = refl
one_flag false false false false e = e

-- With one of these, sections with the place of a source map are chosen.
pub chosen_at_once : (o : OmittedSections) → (o.is_all || (o.is_debug || o.is_source_map_url)) ≡ true → (name : List ℕ) × (is_chosen o name ≡ true)
chosen_at_once o e =
    let name = codes "sourceMappingURL" in
    (name, one_flag o.is_all (has_name (texts_of o.named.items) name) o.is_debug o.is_source_map_url e)

named_first : (all rest : Bool) (n : List ℕ) (ns : List (List ℕ)) → (all || (has_name (n ∷ ns) n || rest)) ≡ true
named_first true rest n ns = refl
named_first false rest n ns = ap (λ (b : Bool). (b || has_name ns n) || rest) ((bytes_eq-Decides n n).1 refl)

chosen_first :
    (o : OmittedSections) (names : List (Bor (List ℕ))) (is_there : not (length names == 0) ≡ true) → o.named.items ≡ names → (name : List ℕ) × (is_chosen o name ≡ true)
chosen_first o [] h e = let f : false ≡ true = h in cc
chosen_first o (n ∷ ns) h e = (
  n.now,
  ap (λ (l : List (Bor (List ℕ))). o.is_all || (has_name (texts_of l) n.now || ((o.is_debug && names_debug n.now) || (o.is_source_map_url && names_source_map n.now)))) e
      ∙ named_first o.is_all ((o.is_debug && names_debug n.now) || (o.is_source_map_url && names_source_map n.now)) n.now (texts_of ns),
)

-- With a name, sections with this name are.
pub chosen_by_name : (o : OmittedSections) (len : ℕ) → length o.named.items ≡ len → not (len == 0) ≡ true → (name : List ℕ) × (is_chosen o name ≡ true)
chosen_by_name o len e h = chosen_first o o.named.items (ap (λ (n : ℕ). not (n == 0)) e ∙ h) refl
