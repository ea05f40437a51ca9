-- The bytes that a reader leaves are the last of those that it was given.
use Rattle.std.proofs.Common.{◌≡◌, ℕ, zero, suc, Bool, List, [], ◌∷◌, ◌++◌, length, take, drop, ◌-◌, Result, Ok, refl, sym, ap, ◌∙◌, append_assoc, inl, inr, arith, length-append}
use Rattle.std.proofs.Math.Seq.{take-append_seam}
use Rattle.wasm_numbers.specs.Results.{◌>>=◌}
use Rattle.wasm_numbers.proofs.ResultLemmas.{bind_ok}
use Rattle.wasm_numbers.specs.declared.fault.ReadFault.{ReadFault}
use Rattle.wasm_numbers.specs.Reading.{Reader, then_read, made, many, starts, switch}
use Rattle.wasm_numbers.specs.Numbers.{Encoding, integer, byte, u32, unsigned, signed}
use Rattle.wasm_operators.specs.Types.{heap_at, value_at, nullable_at, is_listed, listed, abstract_heap, concrete_heap, heap_type, reference, value_type}
use Rattle.wasm_numbers.proofs.Agreement.{ok_is, chosen}
use Rattle.wasm_sections.specs.Declarations.{group, groups}
use Rattle.wasm_sections.proofs.NumberLemmas.{number_takes}

abbrev pub Leaves : {A : Type 0} → Reader A → Type 0
Leaves {A} r = (bytes : List ℕ) (v : A) (rest : List ℕ) → r bytes ≡ Ok (v, rest) → (front : List ℕ) × (bytes ≡ front ++ rest)

byte_leaves : Leaves byte
byte_leaves [] v rest e = absurd cc
byte_leaves (b ∷ bytes) v rest e = (b ∷ [], ap (λ (p : ℕ × List ℕ). b ∷ p.1) (ok_is (b, bytes) (v, rest) e))

pub integer_leaves : {V : Type 0} (g : Encoding V) (w : ℕ) → Leaves (integer g w)
integer_leaves g w bytes v rest e = let t = number_takes g w bytes v rest e in (t.front, t.parts)

after_both : (bytes first middle second rest : List ℕ) → bytes ≡ first ++ middle → middle ≡ second ++ rest → bytes ≡ (first ++ second) ++ rest
after_both bytes first middle second rest p q = p ∙ ap (λ (l : List ℕ). first ++ l) q ∙ sym (append_assoc first second rest)

-- a reader, and another after it
then_leaves : {A B : Type 0} (r : Reader A) (s : A → Reader B) → Leaves r → ((a : A) → Leaves (s a)) → Leaves (then_read r s)
then_leaves {A} {B} r s p q bytes v rest e =
    let x = bind_ok (r bytes) (λ x. s x.0 x.1 >>= λ y. Ok ((x.0, y.0), y.1)) (v, rest) e in
    let y = bind_ok (s x.0.0 x.0.1) (λ y. Ok ((x.0.0, y.0), y.1)) (v, rest) x.2 in
    let first = p bytes x.0.0 x.0.1 x.1 in
    let second = q x.0.0 x.0.1 y.0.0 y.0.1 y.1 in
    let same = ok_is ((x.0.0, y.0.0), y.0.1) (v, rest) y.2 in
    (first.0 ++ second.0, after_both bytes first.0 x.0.1 second.0 rest first.1 (second.1 ∙ ap (λ (z : (A × B) × List ℕ). second.0 ++ z.1) same))

made_leaves : {A B : Type 0} (r : Reader A) (make : A → Result B ReadFault) → Leaves r → Leaves (made r make)
made_leaves {A} {B} r make p bytes v rest e =
    let x = bind_ok (r bytes) (λ x. make x.0 >>= λ v. Ok (v, x.1)) (v, rest) e in
    let y = bind_ok (make x.0.0) (λ v. Ok (v, x.0.1)) (v, rest) x.2 in
    let front = p bytes x.0.0 x.0.1 x.1 in
    (front.0, front.1 ∙ ap (λ (z : B × List ℕ). front.0 ++ z.1) (ok_is (y.0, x.0.1) (v, rest) y.2))

switch_leaves : {A : Type 0} (test : ℕ → Bool) (r s : Reader A) → Leaves r → Leaves s → Leaves (switch test r s)
switch_leaves test r s p q bytes v rest e =
    elim (chosen (starts test bytes) (r bytes) (s bytes) (Ok (v, rest)) e) [ inl x ↦ p bytes v rest x.1 | inr x ↦ q bytes v rest x.1 ]

many_leaves : {A : Type 0} (r : Reader A) (n : ℕ) → Leaves r → Leaves (many r n)
unfolding many
many_leaves {A} r zero p bytes v rest e = ([], ap (λ (z : List A × List ℕ). z.1) (ok_is ([], bytes) (v, rest) e))
many_leaves {A} r (suc n) p bytes v rest e =
    let x = bind_ok (r bytes) (λ first. many r n first.1 >>= λ others. Ok (first.0 ∷ others.0, others.1)) (v, rest) e in
    let y = bind_ok (many r n x.0.1) (λ others. Ok (x.0.0 ∷ others.0, others.1)) (v, rest) x.2 in
    let first = p bytes x.0.0 x.0.1 x.1 in
    let second = many_leaves r n p x.0.1 y.0.0 y.0.1 y.1 in
    let same = ok_is (x.0.0 ∷ y.0.0, y.0.1) (v, rest) y.2 in
    (first.0 ++ second.0, after_both bytes first.0 x.0.1 second.0 rest first.1 (second.1 ∙ ap (λ (z : List A × List ℕ). second.0 ++ z.1) same))

-- ---- types and declarations

heap_type_leaves : Leaves heap_type
heap_type_leaves =
    switch_leaves (λ b. is_listed (heap_at b)) (made byte abstract_heap) (made (integer signed 33) concrete_heap)
    (made_leaves byte abstract_heap byte_leaves) (made_leaves (integer signed 33) concrete_heap (integer_leaves signed 33))

pub value_type_leaves : Leaves value_type
value_type_leaves =
    let nullable = made byte (λ b. listed (nullable_at b)) in
    let plain = made byte (λ b. listed (value_at b)) in
    switch_leaves (λ b. is_listed (nullable_at b)) (made (then_read nullable (λ n. heap_type)) reference) plain
    (made_leaves (then_read nullable (λ n. heap_type)) reference
    (then_leaves nullable (λ n. heap_type) (made_leaves byte (λ b. listed (nullable_at b)) byte_leaves) (λ n. heap_type_leaves)))
    (made_leaves byte (λ b. listed (value_at b)) byte_leaves)

group_leaves : Leaves group
group_leaves = then_leaves u32 (λ n. value_type) (integer_leaves unsigned 32) (λ n. value_type_leaves)

pub groups_leave : Leaves groups
groups_leave bytes v rest e =
    let n = bind_ok (u32 bytes) (λ n. many group n.0 n.1) (v, rest) e in
    let first = integer_leaves unsigned 32 bytes n.0.0 n.0.1 n.1 in
    let second = many_leaves group n.0.0 group_leaves n.0.1 v rest n.2 in
    (first.0 ++ second.0, after_both bytes first.0 n.0.1 second.0 rest first.1 second.1)

-- ---- the bytes that are left, by the number of bytes before them

drop_front : (front rest : List ℕ) → drop (length front) (front ++ rest) ≡ rest
drop_front [] rest = refl
drop_front (b ∷ front) rest = drop_front front rest

pub dropped : (bytes front rest : List ℕ) → bytes ≡ front ++ rest → drop (length (take (length bytes - length rest) bytes)) bytes ≡ rest
dropped bytes front rest e =
    let before : length bytes - length rest ≡ length front = let all = ap length e ∙ length-append front rest in omega arith in
    let is_front : take (length bytes - length rest) bytes ≡ front =
    ap (λ (n : ℕ). take n bytes) before ∙ ap (λ (l : List ℕ). take (length front) l) e ∙ take-append_seam front rest in
    ap (λ (l : List ℕ). drop (length l) bytes) is_front ∙ ap (λ (l : List ℕ). drop (length front) l) e ∙ drop_front front rest
