-- The tokens that are written for the members of a source map, and their text.
use Rattle.std.proofs.Common.{◌≡◌, ℕ, List, [], ◌∷◌, ◌++◌, Bool, true, false, if◌then◌else◌, Option, Some, None, refl, sym, ap, ◌∙◌, drop, codes, append_assoc, length, get_or, ◌<◌, arith}
use Rattle.std.specs.Str.{IsUtf8}
use Rattle.std.proofs.lemmas.Str.{IsUtf8-append, IsUtf8-drop, IsUtf8-from_ascii, IsCharBoundary-after_ascii}
use Rattle.std.proofs.lemmas.Str.Ascii.{IsAscii-cons, IsAscii-nil}
use Rattle.json.specs.Token.{Token, begin_object, end_object, key, string}
use Rattle.json.specs.Json.{Json, object, Members, no_members, member}
use Rattle.json.specs.Json as json
use Rattle.json.specs.Find.{get_member}
use Rattle.json.specs.Print.{print, print_from, escape}
use Rattle.json.specs.Tree.{json_tokens, members_tokens}
use Rattle.json.proofs.Printed.Tokens.{print_from-append, ends_push}
use Rattle.source_map.specs.WrittenSourceMaps.{is_ordered, order, put_before, ordered, others, with_mappings, object_text}
use Rattle.source_map.specs.Tokens.{named_tokens, ordered_tokens, other_tokens}

-- ---- tokens

tokens_put : (name : List ℕ) (value : Option Json) (more : Members) → members_tokens (put_before name value more) ≡ named_tokens name value ++ members_tokens more
tokens_put name None more = refl
tokens_put name (Some value) more = refl

tokens_ordered : (names : List (List ℕ)) (members more : Members)
    → members_tokens (ordered names members more) ≡ ordered_tokens names (object members) ++ members_tokens more
tokens_ordered [] _ more = refl
tokens_ordered (name ∷ names) members more =
    tokens_put name (get_member name members) (ordered names members more)
    ∙ ap (λ ts. named_tokens name (get_member name members) ++ ts) (tokens_ordered names members more)
    ∙ sym (append_assoc (named_tokens name (get_member name members)) (ordered_tokens names (object members)) (members_tokens more))

other_case : (b : Bool) (name : List ℕ) (value : Json) (members : Members) → members_tokens (others members) ≡ other_tokens members ++ end_object ∷ []
    → members_tokens (if b then others members else member name value (others members))
    ≡ (if b then other_tokens members else key name ∷ (json_tokens value ++ other_tokens members)) ++ end_object ∷ []
other_case true name value _ e = e
other_case false name value members e =
    ap (λ ts. key name ∷ (json_tokens value ++ ts)) e ∙ ap (λ ts. key name ∷ ts) (sym (append_assoc (json_tokens value) (other_tokens members) (end_object ∷ [])))

tokens_others : (members : Members) → members_tokens (others members) ≡ other_tokens members ++ end_object ∷ []
tokens_others no_members = refl
tokens_others (member name value members) = other_case (is_ordered name) name value members (tokens_others members)

-- ---- text

-- what is written before the mappings, and after them
abbrev front_tokens : Members → List Token
front_tokens members = begin_object ∷ (ordered_tokens order (object members) ++ key (codes "mappings") ∷ [])

tokens_parted : (members : Members) (text : List ℕ)
    → json_tokens (object (with_mappings members text)) ≡ front_tokens members ++ (string text ∷ (other_tokens members ++ end_object ∷ []))
tokens_parted members text =
    let last : Members = member (codes "mappings") (json.string text) (others members) in
    let first = ordered_tokens order (object members) in
    ap (λ ts. begin_object ∷ ts)
    (tokens_ordered order members last ∙ ap (λ ts. first ++ (key (codes "mappings") ∷ (string text ∷ ts))) (tokens_others members)
    ∙ sym (append_assoc first (key (codes "mappings") ∷ []) (string text ∷ (other_tokens members ++ end_object ∷ []))))

text_parted : (members : Members) (text : List ℕ)
    → object_text (with_mappings members text) ≡ print (front_tokens members) ++ print (string text ∷ (other_tokens members ++ end_object ∷ []))
text_parted members text =
    let after = string text ∷ (other_tokens members ++ end_object ∷ []) in
    let first = begin_object ∷ ordered_tokens order (object members) in
    ap print (tokens_parted members text) ∙ print_from-append false (front_tokens members) after
    ∙ ap (λ b. print (front_tokens members) ++ print_from b after) (ends_push false first (key (codes "mappings")))

-- a text in which nothing has to be escaped, and what follows it
quoted_front : (text : List ℕ) (more : List Token) → escape text ≡ text
    → print (string text ∷ more) ≡ (34 ∷ []) ++ (text ++ drop 1 (print (string [] ∷ more)))
unfolding print_from
quoted_front text more plain =
    ap (λ l. (34 ∷ (l ++ 34 ∷ [])) ++ print_from true more) plain ∙ ap (λ l. 34 ∷ l) (append_assoc text (34 ∷ []) (print_from true more))

pub parts_around : (members : Members) (front back text : List ℕ) → front ≡ print (front_tokens members) ++ 34 ∷ []
    → back ≡ drop 1 (print (string [] ∷ (other_tokens members ++ end_object ∷ []))) → escape text ≡ text
    → front ++ (text ++ back) ≡ object_text (with_mappings members text)
parts_around members front back text f b plain =
    let after = other_tokens members ++ end_object ∷ [] in
    let start = print (front_tokens members) in
    ap (λ l. l ++ (text ++ back)) f ∙ append_assoc start (34 ∷ []) (text ++ back) ∙ ap (λ l. start ++ (34 ∷ (text ++ l))) b
    ∙ sym (ap (λ l. start ++ l) (quoted_front text after plain)) ∙ sym (text_parted members text)

-- the text after the mappings, without the quotation mark before it
pub utf8_back : (text : List ℕ) (more : List Token) → text ≡ print (string [] ∷ more) → IsUtf8 text → IsUtf8 (drop 1 text)
unfolding print_from
utf8_back text more e utf8 =
    let some : 0 < length text = omega (arith, ap length e) in
    let ascii : get_or text 0 0 < 128 = omega (arith, ap (λ (l : List ℕ). get_or l 0 0) e) in
    IsUtf8-drop text 1 utf8 (IsCharBoundary-after_ascii text 0 utf8 some ascii)

pub utf8_front : (text : List ℕ) → IsUtf8 text → IsUtf8 (text ++ 34 ∷ [])
utf8_front text utf8 = IsUtf8-append text (34 ∷ []) utf8 (IsUtf8-from_ascii (34 ∷ []) (IsAscii-cons 34 [] (omega arith) IsAscii-nil))
