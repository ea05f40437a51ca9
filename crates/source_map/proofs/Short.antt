-- The text that is written for sorted mappings encodes them.
use Rattle.std.proofs.Common.{◌≡◌, ℕ, zero, suc, ◌+◌, ◌-◌, ◌*◌, ◌/◌, ◌%◌, ◌^◌, ◌<◌, ◌≤◌, false, eqb, List, [], ◌∷◌, Option, Some, None, refl, ap, subst, ◌∙◌, inl, inr, arith}
use Rattle.std.specs.Prelude.{IfSome}
use Rattle.std.specs.List.{AllByRecursion}
use Rattle.std.specs.Option.{unwrap_or}
use Rattle.std.proofs.lemmas.Bool.{lt-ltb, le-ltb, eqb-true, cases_lt}
use Rattle.std.proofs.lemmas.Bool.Decides.{nat_tests}
use Rattle.std.proofs.lemmas.Nat.{pow-add}
use Rattle.source_map.specs.declared.mapping.Original.{Original}
use Rattle.source_map.specs.declared.mapping.Mapping.{Mapping}
use Rattle.source_map.specs.declared.fields.Fields.{Fields}
use Rattle.source_map.specs.Vlq.{digit_value, IsVlqNumber, moved_by, IsField}
use Rattle.source_map.specs.Spelling.{no_fields, after_original, fields_after, IsName, IsOriginalOrNone, IsSegment, AreSegments, SpellsMappings, AscendFrom, FitsOriginal, FitsMapping}
use Rattle.source_map.specs.Shortest.{digit, shortest_digits, field_difference, short_field, short_name, short_original, short_segment, short_segments, spelling}
use Rattle.source_map.proofs.Steps.{test_false}
use Rattle.source_map.proofs.Digits.{longer}

digit_is : (n : ℕ) → n < 64 → digit_value (digit n) ≡ Some n
digit_is n h = grind (arith, nat_tests)

short_is : (more n : ℕ) → n < 2 ^ (5 * suc more) → IsVlqNumber (suc more) n (shortest_digits more n)
unfolding shortest_digits
short_is zero n h =
    let below : n < 32 = h in
    let same : n % 32 ≡ n = omega arith in
    rw same (below, digit_is n (omega arith))
short_is (suc more) n h =
    elim (cases_lt n 32) [
      | inl lt ↦ rw (lt-ltb n 32 lt) (lt, digit_is n (omega arith))
      | inr le ↦
          let k : 5 * suc (suc more) ≡ 5 + 5 * suc more = omega arith in
          let power : 2 ^ (5 * suc (suc more)) ≡ 32 * 2 ^ (5 * suc more) = ap (λ (x : ℕ). 2 ^ x) k ∙ pow-add 2 5 (5 * suc more) in
          let high : n / 32 < 2 ^ (5 * suc more) = omega arith in
          let one : suc more ≡ suc (suc more) - 1 = omega arith in
          let rest = subst (λ (x : ℕ). IsVlqNumber x (n / 32) (shortest_digits more (n / 32))) one (short_is more (n / 32) high) in
          let whole : n % 32 + 32 * (n / 32) ≡ n = omega arith in
          let spelt = longer (suc (suc more)) (digit (n % 32 + 32)) (n % 32) (n / 32) (shortest_digits more (n / 32)) (omega arith) (omega arith) (digit_is (n % 32 + 32) (omega arith)) rest in
          rw (le-ltb n 32 le) (subst (λ (x : ℕ). IsVlqNumber (suc (suc more)) x (digit (n % 32 + 32) ∷ shortest_digits more (n / 32))) whole spelt)
    ]

-- ---- fields

moved_down : (k before : ℕ) → 0 < k → k ≤ before → moved_by (2 * k + 1) before ≡ Some (before - k)
moved_down k before some low =
    let odd : (2 * k + 1) % 2 ≡ 1 = omega arith in
    let half : (2 * k + 1) / 2 ≡ k = omega arith in
    let not_one : eqb (2 * k + 1) 1 ≡ false = test_false (eqb (2 * k + 1) 1) (λ h. let e = eqb-true (2 * k + 1) 1 h in omega arith) in
    rw (odd, not_one, half, le-ltb before k low) refl

moved_up : (k before : ℕ) → before + k < 2 ^ 32 → moved_by (2 * k) before ≡ Some (before + k)
moved_up k before high =
    let is_even : (2 * k) % 2 ≡ 0 = omega arith in
    let half : (2 * k) / 2 ≡ k = omega arith in
    rw (is_even, half, lt-ltb (before + k) (2 ^ 32) high) refl

moves : (before v : ℕ) → before < 2 ^ 32 → v < 2 ^ 32 → (moved_by (field_difference before v) before ≡ Some v) × (field_difference before v < 2 ^ 35)
moves before v p q =
    elim (cases_lt v before) [
      | inl lt ↦
          let k : before - (before - v) ≡ v = omega arith in
          rw (lt-ltb v before lt) (moved_down (before - v) before (omega arith) (omega arith) ∙ ap (λ (x : ℕ). Some x) k, omega arith)
      | inr le ↦
          let k : before + (v - before) ≡ v = omega arith in
          rw (le-ltb v before le) (moved_up (v - before) before (omega arith) ∙ ap (λ (x : ℕ). Some x) k, omega arith)
    ]

field_is : (before v : ℕ) → before < 2 ^ 32 → v < 2 ^ 32 → IsField before v (short_field before v)
field_is before v p q = let m = moves before v p q in (field_difference before v, m.0, short_is 6 (field_difference before v) m.1)

name_is : (before : ℕ) (o : Option ℕ) → before < 2 ^ 32 → IfSome o (λ n. n < 2 ^ 32) → IsName before o (short_name before o)
name_is before None p q = refl {a = []}
name_is before (Some v) p q = field_is before v p q

-- ---- segments

record FitsFields (s : Fields) : Type 0 where
  generated : s.generated < 2 ^ 32
  source : s.source < 2 ^ 32
  line : s.line < 2 ^ 32
  column : s.column < 2 ^ 32
  name : s.name < 2 ^ 32

original_is : (s : Fields) (o : Option Original) → FitsFields s → IfSome o FitsOriginal → IsOriginalOrNone s o (short_original s o)
original_is s None p q = refl {a = []}
original_is s (Some o) p q = record {
  source = short_field s.source o.source;
  line = short_field s.line o.line;
  column = short_field s.column o.column;
  name = short_name s.name o.name;
  text_is = refl;
  is_source = field_is s.source o.source p.source q.source;
  is_line = field_is s.line o.line p.line q.line;
  is_column = field_is s.column o.column p.column q.column;
  is_name = name_is s.name o.name p.name q.name;
}

segment_is : (s : Fields) (m : Mapping) → FitsFields s → FitsMapping m → s.generated ≤ m.generated → IsSegment s m (short_segment s m)
segment_is s m p q up = record {
  generated = short_field s.generated m.generated;
  original = short_original s m.original;
  text_is = refl;
  ascends = up;
  is_generated = field_is s.generated m.generated p.generated q.0;
  is_original = original_is s m.original p q.1;
}

name_fits : (o : Option ℕ) (d : ℕ) → IfSome o (λ n. n < 2 ^ 32) → d < 2 ^ 32 → unwrap_or o d < 2 ^ 32
name_fits None d p q = q
name_fits (Some n) d p q = p

after_fits : (s : Fields) (g : ℕ) (o : Option Original) → FitsFields s → g < 2 ^ 32 → IfSome o FitsOriginal → FitsFields (after_original s g o)
after_fits s g None p h q = record { generated = h; source = p.source; line = p.line; column = p.column; name = p.name }
after_fits s g (Some o) p h q = record { generated = h; source = q.source; line = q.line; column = q.column; name = name_fits o.name s.name q.name p.name }

pub after_generated : (s : Fields) (g : ℕ) (o : Option Original) → g ≡ (after_original s g o).generated
after_generated s g None = refl
after_generated s g (Some o) = refl

are_short : (s : Fields) (ms : List Mapping) → FitsFields s → AllByRecursion FitsMapping ms → AscendFrom s.generated ms → AreSegments s ms (short_segments s ms)
are_short s [] p q up = tt
are_short s (m ∷ ms) p q up =
    (segment_is s m p q.0 up.0, are_short (fields_after s m) ms (after_fits s m.generated m.original p q.0.0 q.0.1) q.1 (subst (λ (x : ℕ). AscendFrom x ms) (after_generated s m.generated m.original) up.1))

pub is_spelt : (ms : List Mapping) → AllByRecursion FitsMapping ms → AscendFrom 0 ms → SpellsMappings ms (spelling ms)
is_spelt ms fits up =
    let zeros : FitsFields no_fields = record { generated = omega arith; source = omega arith; line = omega arith; column = omega arith; name = omega arith } in
    (short_segments no_fields ms, refl, are_short no_fields ms zeros fits up)
