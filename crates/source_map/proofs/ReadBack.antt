-- The text of a source map with other mappings is read back with its members and these mappings.
use Rattle.std.proofs.Common.{◌≡◌, ℕ, ◌≤◌, max, Bool, true, false, cond, List, [], ◌∷◌, ◌++◌, Option, Some, None, option_and_then, if◌then◌else◌, codes, refl, sym, ap, ◌∙◌, subst, arith}
use Rattle.std.specs.Prelude.{⊤}
use Rattle.std.specs.Str.{bytes_eq, IsUtf8}
use Rattle.std.proofs.lemmas.Str.{IsUtf8-append}
use Rattle.std.proofs.lemmas.Slice.Eq.{bytes_eq-Decides}
use Rattle.std.proofs.lemmas.Bool.Decides.{nat_tests}
use Rattle.json.specs.Token.{Token}
use Rattle.json.specs.Lex.{tokens}
use Rattle.json.specs.Json.{Json, string, object, Members, no_members, member, if_last, value, document}
use Rattle.json.specs.Find.{get_member, later_or}
use Rattle.json.specs.Print.{escape}
use Rattle.json.specs.Tree.{depth, members_depth, HasNumbers, MembersHaveNumbers}
use Rattle.json.proofs.Printed.Trees.{document-print}
use Rattle.json.proofs.Numbered.{document-HasNumbers, HasNumbers-get}
use Rattle.json.proofs.Nesting.{value-depth}
use Rattle.json.proofs.Found.{Some_inj}
use Rattle.source_map.specs.WrittenSourceMaps.{order, is_ordered, put_before, ordered, others, with_mappings, object_text, IsReadFrom, IsTextWith}
use Rattle.source_map.specs.declared.json_text.source_map.SourceMap.{SourceMap}

-- ---- numbers

put_numbers : (name : List ℕ) (value : Option Json) (more : Members) → ((j : Json) → Some j ≡ value → HasNumbers j) → MembersHaveNumbers more → MembersHaveNumbers (put_before name value more)
put_numbers name None more p q = q
put_numbers name (Some j) more p q = (p j refl, q)

ordered_numbers : (names : List (List ℕ)) (members more : Members) → MembersHaveNumbers members → MembersHaveNumbers more → MembersHaveNumbers (ordered names members more)
ordered_numbers [] _ more p q = q
ordered_numbers (name ∷ names) members more p q =
    put_numbers name (get_member name members) (ordered names members more) (λ j e. HasNumbers-get name (object members) j p e) (ordered_numbers names members more p q)

others_numbers_if : (b : Bool) (name : List ℕ) (j : Json) (more : Members) → HasNumbers j → MembersHaveNumbers more → MembersHaveNumbers (if b then more else member name j more)
others_numbers_if true name j more p q = q
others_numbers_if false name j more p q = (p, q)

others_numbers : (members : Members) → MembersHaveNumbers members → MembersHaveNumbers (others members)
others_numbers no_members p = tt
others_numbers (member name j members) p = others_numbers_if (is_ordered name) name j (others members) p.0 (others_numbers members p.1)

-- ---- depth

found_depth : (later : Option Json) (here : Bool) (value j : Json) (below : ℕ) → ((k : Json) → later ≡ Some k → depth k ≤ below)
    → later_or later (cond here (Some value) None) ≡ Some j → depth j ≤ max (depth value) below
found_depth (Some k) here value j below p e = let h = p j e in omega (arith, h)
found_depth None true value j below p e = let same : value ≡ j = cc in omega (arith, ap depth same)
found_depth None false value j below p e = cc

get_depth : (name : List ℕ) (members : Members) (j : Json) → get_member name members ≡ Some j → depth j ≤ members_depth members
get_depth name no_members j e = cc
get_depth name (member k value members) j e = found_depth (get_member name members) (bytes_eq k name) value j (members_depth members) (get_depth name members) e

put_depth : (name : List ℕ) (value : Option Json) (more : Members) (n : ℕ) → ((j : Json) → value ≡ Some j → depth j ≤ n) → members_depth more ≤ n → members_depth (put_before name value more) ≤ n
put_depth name None more n p q = q
put_depth name (Some j) more n p q = let h = p j refl in omega (arith, h)

ordered_depth : (names : List (List ℕ)) (members more : Members) → members_depth more ≤ members_depth members → members_depth (ordered names members more) ≤ members_depth members
ordered_depth [] _ more q = q
ordered_depth (name ∷ names) members more q =
    put_depth name (get_member name members) (ordered names members more) (members_depth members) (get_depth name members) (ordered_depth names members more q)

others_depth_if : (b : Bool) (name : List ℕ) (j : Json) (more : Members) (n : ℕ) → members_depth more ≤ n → members_depth (if b then more else member name j more) ≤ max (depth j) n
others_depth_if true name j more n q = omega arith
others_depth_if false name j more n q = omega arith

others_depth : (members : Members) → members_depth (others members) ≤ members_depth members
others_depth no_members = omega arith
others_depth (member name j members) = others_depth_if (is_ordered name) name j (others members) (members_depth members) (others_depth members)

-- ---- members by their names

get_other_if : (b here : Bool) (name k : List ℕ) (j : Json) (more : Members) → (here ≡ true → b ≡ true) → here ≡ bytes_eq k name → get_member name more ≡ None
    → get_member name (if b then more else member k j more) ≡ None
get_other_if true here name k j more p h q = q
get_other_if false true name k j more p h q = absurd (let e = p refl in cc)
get_other_if false false name k j more p h q = ap (λ b. later_or (get_member name more) (cond b (Some j) None)) (sym h) ∙ ap (λ o. later_or o None) q

-- none of the others has a name that has a place in the order
get_other : (name : List ℕ) (members : Members) → is_ordered name ≡ true → get_member name (others members) ≡ None
get_other name no_members e = refl
get_other name (member k j members) e =
    let same : bytes_eq k name ≡ true → is_ordered k ≡ true = λ h. let s : k ≡ name = grind (arith, nat_tests, bytes_eq-Decides) in ap is_ordered s ∙ e in
    get_other_if (is_ordered k) (bytes_eq k name) name k j (others members) same refl (get_other name members e)

later_none : (o : Option Json) → later_or o None ≡ o
later_none None = refl
later_none (Some j) = refl

get_put_other : (name k : List ℕ) (value : Option Json) (more : Members) → bytes_eq k name ≡ false → get_member name (put_before k value more) ≡ get_member name more
get_put_other name k None more e = refl
get_put_other name k (Some j) more e = ap (λ b. later_or (get_member name more) (cond b (Some j) None)) e ∙ later_none (get_member name more)

abbrev AreOther : (name : List ℕ) → (names : List (List ℕ)) → Type 0
AreOther name [] = ⊤
AreOther name (k ∷ names) = (bytes_eq k name ≡ false) × AreOther name names

get_past : (name : List ℕ) (names : List (List ℕ)) (members more : Members) → AreOther name names → get_member name (ordered names members more) ≡ get_member name more
get_past name [] _ more e = refl
get_past name (k ∷ names) members more e = get_put_other name k (get_member k members) (ordered names members more) e.0 ∙ get_past name names members more e.1

-- ---- the whole text

read_whole : (o : Option (Json × List Token)) (j : Json) → option_and_then (λ p. if_last p.0 p.1) o ≡ Some j → o ≡ Some (j, [])
read_whole None j e = cc
read_whole (Some (k, [])) j e = ap (λ r. Some (r, [])) (Some_inj k j e)
read_whole (Some (k, t ∷ ts)) j e = cc

read_depth : (source : List ℕ) (members : Members) → document source ≡ Some (object members) → depth (object members) ≤ 128
read_depth source members e = value-depth 128 (tokens source) [] (object members) (read_whole (value 128 (tokens source)) (object members) e)

abbrev version : List ℕ
version = codes "version"

version_first : (members last : Members) (j : Json) → get_member version members ≡ Some j → get_member version last ≡ None → get_member version (ordered order members last) ≡ Some j
version_first members last j e none =
    let after = codes "file" ∷ codes "sourceRoot" ∷ codes "sources" ∷ codes "sourcesContent" ∷ codes "names" ∷ [] in
    let rest = ordered after members last in
    let past : get_member version rest ≡ None = get_past version after members last (refl, (refl, (refl, (refl, (refl, tt))))) ∙ none in
    ap (λ o. get_member version (put_before version o rest)) e ∙ ap (λ o. later_or o (Some j)) past

mappings_last : (members : Members) (text : List ℕ) → get_member (codes "mappings") (with_mappings members text) ≡ Some (string text)
mappings_last members text =
    let last : Members = member (codes "mappings") (string text) (others members) in
    get_past (codes "mappings") order members last (refl, (refl, (refl, (refl, (refl, (refl, tt))))))
    ∙ ap (λ o. later_or o (Some (string text))) (get_other (codes "mappings") members refl)

pub is_text_with : (source : List ℕ) (members : Members) (map : SourceMap) (mappings text : List ℕ) → IsReadFrom source members map → escape mappings ≡ mappings → IsUtf8 mappings
    → text ≡ map.front.items ++ (mappings ++ map.back.items) → IsTextWith members mappings text
is_text_with source members map mappings text from plain utf8 e =
    let was = from.is_source_map in
    let whole : text ≡ object_text (with_mappings members mappings) = e ∙ from.parts mappings plain in
    let last : Members = member (codes "mappings") (string mappings) (others members) in
    let numbers : MembersHaveNumbers members = document-HasNumbers source (object members) was.is_object in
    let new_numbers : MembersHaveNumbers (with_mappings members mappings) = ordered_numbers order members last numbers (tt, others_numbers members numbers) in
    let shallow = read_depth source members was.is_object in
    let others_shallow = others_depth members in
    let last_shallow : members_depth last ≤ members_depth members = omega arith in
    let new_shallow = ordered_depth order members last last_shallow in
    record {
      text_is = whole;
      is_utf8 = subst IsUtf8 (sym e) (IsUtf8-append _ _ from.front_is_utf8 (IsUtf8-append mappings _ utf8 from.back_is_utf8));
      reads_back = record {
        is_object = ap document whole ∙ document-print (object (with_mappings members mappings)) new_numbers (omega arith);
        version_is = version_first members last _ was.version_is (ap (λ o. later_or o None) (get_other version members refl));
        mappings_are = mappings_last members mappings;
      };
    }
