-- Nothing has to be escaped in the text of mappings, which is UTF-8.
use Rattle.std.proofs.Common.{◌≡◌, ◌≢◌, ℕ, zero, suc, ◌+◌, ◌/◌, ◌%◌, ◌<◌, ◌≤◌, Bool, true, false, if◌then◌else◌, nat_lt, List, [], ◌∷◌, ◌++◌, Option, Some, None, refl, ap, ◌∙◌, arith}
use Rattle.std.specs.List.{join_with_byte}
use Rattle.std.specs.Str.{IsUtf8}
use Rattle.std.proofs.lemmas.Str.{IsUtf8-nil, IsUtf8-append, IsUtf8-from_ascii}
use Rattle.std.proofs.lemmas.Str.Ascii.{IsAscii-cons, IsAscii-nil}
use Rattle.std.proofs.lemmas.Bool.Decides.{nat_tests}
use Rattle.std.proofs.lemmas.Grind.{flat_map-append}
use Rattle.json.specs.Print.{escape_byte, escape}
use Rattle.json.proofs.Printed.Strings.{escape_byte_plain}
use Rattle.source_map.specs.declared.mapping.Original.{Original}
use Rattle.source_map.specs.declared.mapping.Mapping.{Mapping}
use Rattle.source_map.specs.declared.fields.Fields.{Fields}
use Rattle.source_map.specs.Spelling.{no_fields, fields_after}
use Rattle.source_map.specs.Shortest.{digit, shortest_digits, short_field, short_name, short_original, short_segment, short_segments, spelling}

record IsPlain (text : List ℕ) : Type 0 where
  same : escape text ≡ text
  utf8 : IsUtf8 text

plain_nil : IsPlain []
plain_nil = record { same = refl; utf8 = IsUtf8-nil }

plain_both : (a b : List ℕ) → IsPlain a → IsPlain b → IsPlain (a ++ b)
plain_both a b p q = record { same = flat_map-append escape_byte a b ∙ ap (λ l. l ++ escape b) p.same ∙ ap (λ l. a ++ l) q.same; utf8 = IsUtf8-append a b p.utf8 q.utf8 }

plain_byte : (x : ℕ) → 43 ≤ x → x < 128 → x ≢ 92 → IsPlain (x ∷ [])
plain_byte x low high other = record {
  same = ap (λ l. l ++ []) (escape_byte_plain x (λ e. omega arith) other (omega arith));
  utf8 = IsUtf8-from_ascii (x ∷ []) (IsAscii-cons x [] high IsAscii-nil);
}

digit_low : (n : ℕ) → 43 ≤ digit n
digit_low n = grind (arith, nat_tests)

digit_high : (n : ℕ) → digit n < 128
digit_high n = grind (arith, nat_tests)

digit_other : (n : ℕ) → digit n ≡ 92 → ⊥
digit_other n e = grind (arith, nat_tests)

plain_digit : (n : ℕ) → IsPlain (digit n ∷ [])
plain_digit n = plain_byte (digit n) (digit_low n) (digit_high n) (digit_other n)

plain_if : (b : Bool) (x y : List ℕ) → IsPlain x → IsPlain y → IsPlain (if b then x else y)
plain_if true x y p q = p
plain_if false x y p q = q

plain_digits : (more n : ℕ) → IsPlain (shortest_digits more n)
unfolding shortest_digits
plain_digits zero n = plain_digit (n % 32)
plain_digits (suc more) n =
    plain_if (nat_lt n 32) _ _ (plain_digit n) (plain_both (digit (n % 32 + 32) ∷ []) (shortest_digits more (n / 32)) (plain_digit (n % 32 + 32)) (plain_digits more (n / 32)))

plain_field : (before field : ℕ) → IsPlain (short_field before field)
plain_field before field = plain_digits 6 _

plain_name : (before : ℕ) (o : Option ℕ) → IsPlain (short_name before o)
plain_name before None = plain_nil
plain_name before (Some name) = plain_field before name

plain_original : (s : Fields) (o : Option Original) → IsPlain (short_original s o)
plain_original s None = plain_nil
plain_original s (Some o) =
    plain_both _ _ (plain_field s.source o.source) (plain_both _ _ (plain_field s.line o.line) (plain_both _ _ (plain_field s.column o.column) (plain_name s.name o.name)))

plain_segment : (s : Fields) (m : Mapping) → IsPlain (short_segment s m)
plain_segment s m = plain_both _ _ (plain_field s.generated m.generated) (plain_original s m.original)

plain_segments : (s : Fields) (ms : List Mapping) → IsPlain (join_with_byte 44 (short_segments s ms))
plain_segments s [] = plain_nil
plain_segments s (m ∷ []) = plain_segment s m
plain_segments s (m ∷ n ∷ ms) =
    let more = join_with_byte 44 (short_segments (fields_after s m) (n ∷ ms)) in
    plain_both (short_segment s m) (44 ∷ more) (plain_segment s m) (plain_both (44 ∷ []) more (plain_byte 44 (omega arith) (omega arith) (λ e. omega arith)) (plain_segments (fields_after s m) (n ∷ ms)))

pub plain_spelling : (ms : List Mapping) → escape (spelling ms) ≡ spelling ms
plain_spelling ms = (plain_segments no_fields ms).same

pub utf8_spelling : (ms : List Mapping) → IsUtf8 (spelling ms)
utf8_spelling ms = (plain_segments no_fields ms).utf8
