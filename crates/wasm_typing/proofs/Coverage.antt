-- Every plain operator has a rule, and so have conditional branches and tail calls: by computing up to a bound, and above it by the ends of
-- the tables.
use Rattle.std.proofs.Common.{◌≡◌, ℕ, zero, suc, List, [], ◌∷◌, Bool, true, false, Option, None, refl, sym, ap, ◌∙◌, subst, arith, ◌⊎◌, inl, inr}
use Rattle.std.specs.Prelude.{◌<◌, ◌≤◌, ◌&&◌, ◌==◌, nat_le, is_some, unwrap_or}
use Rattle.std.specs.List.{list_all}
use Rattle.std.proofs.Math.Nat.{eq-or-lt_of_le}
use Rattle.std.proofs.lemmas.Bool.{lt-leb, leb-true}
use Rattle.std.proofs.lemmas.Bool.Decides.{leb_tells, eqb_tells, nat_tests}
use Rattle.walrus_ir.specs.Types.{same_bool}
use Rattle.wasm_operators.specs.declared.types.Opcode.{Opcode}
use Rattle.wasm_operators.specs.declared.types.Opcode.TheVariants.{Byte, Prefixed}
use Rattle.wasm_operators.specs.Opcodes.{range_at, kinds_of, kinds_of_byte, kinds_after, reference_ranges, bulk_rows, vector_ranges, atomic_ranges, aggregate_ranges}
use Rattle.wasm_operators.specs.Types.{row_at}
use Rattle.wasm_operators.proofs.SameLists.{both}
use Rattle.wasm_body.specs.Control.{a_plain, role_of, byte_roles, aggregate_roles}
use Rattle.wasm_typing.specs.MatchingLaws.{all_below}
use Rattle.wasm_typing.specs.RuleTable.{rule_of, byte_rules, bulk_rules, vector_rules, atomic_rules, aggregate_rules, width_at}
use Rattle.wasm_typing.specs.StandardRules.{conditional_rule, tail_rule, byte_branches, cast_branches, tail_rows}
use Rattle.wasm_typing.specs.RuleLaws.{is_plain, is_conditional, is_tail_call, PlainHaveRules, ConditionalsHaveRules, TailCallsHaveRules}

-- ---- numbers up to a bound, and above it

at_last : (f : ℕ → Bool) (n k : ℕ) → f n ≡ true → (k < n → f k ≡ true) → (k ≡ n) ⊎ (k < n) → f k ≡ true
at_last f n k h g (inl e) = subst (λ i. f i ≡ true) (sym e) h
at_last f n k h g (inr l) = g l

pub passes_below : (n : ℕ) (f : ℕ → Bool) → all_below n f ≡ true → (k : ℕ) → k < n → f k ≡ true
passes_below zero f h k l = let no : ⊥ = omega (arith, l) in absurd no
passes_below (suc n) f h k l =
    let b = both (f n) (all_below n f) h in
    let le : k ≤ n = omega (arith, l) in
    at_last f n k b.0 (passes_below n f b.1 k) (eq-or-lt_of_le le)

same_truth : (a b : Bool) → same_bool a b ≡ true → a ≡ b
same_truth true true h = refl
same_truth false false h = refl
same_truth true false h = absurd cc
same_truth false true h = absurd cc

-- two tests that are the same up to a number, and above it
agree : (n : ℕ) (f g : ℕ → Bool) → all_below (suc n) (λ i. same_bool (f i) (g i)) ≡ true → ((k : ℕ) → n < k → f k ≡ g k) → (k : ℕ) → f k ≡ g k
agree n f g h above k = elim (leb_tells k n) [
  | inl l ↦ same_truth (f k) (g k) (passes_below (suc n) (λ i. same_bool (f i) (g i)) h k (omega (arith, l.1)))
  | inr l ↦ above k l.1
]

-- ---- the ends of tables

past_range : {V : Type 0} (rows : List (ℕ × Option V)) (n k : ℕ) → list_all (λ row. nat_le row.0 n) rows ≡ true → n < k → range_at rows k ≡ None
past_range [] n k h l = refl
past_range (row ∷ rows) n k h l =
    let b = both (nat_le row.0 n) (list_all (λ r. nat_le r.0 n) rows) h in
    let le = leb-true row.0 n b.0 in
    let past : nat_le k row.0 ≡ false = lt-leb k row.0 (omega (arith, le, l)) in
    rw past (past_range rows n k b.1 l)

past_rows : {V : Type 0} (rows : List (ℕ × V)) (n k : ℕ) → list_all (λ row. nat_le row.0 n) rows ≡ true → n < k → row_at rows k ≡ None
past_rows [] n k h l = refl
past_rows (row ∷ rows) n k h l =
    let b = both (nat_le row.0 n) (list_all (λ r. nat_le r.0 n) rows) h in
    let le = leb-true row.0 n b.0 in
    let past : (k == row.0) ≡ false = grind (arith, nat_tests, le, l) in
    rw past (past_rows rows n k b.1 l)

-- ---- plain operators

abbrev Agrees : Opcode → Type 0
Agrees o = is_some (rule_of o) ≡ (is_some (kinds_of o) && is_plain (role_of o))

-- an opcode with neither
without : (o : Opcode) → rule_of o ≡ None → kinds_of o ≡ None → Agrees o
without o h k = ap is_some h ∙ sym (ap (λ ks. is_some ks && is_plain (role_of o)) k)

-- no byte from 0xd7 on has an operator
no_byte : (b : ℕ) → 0xd6 < b → kinds_of_byte b ≡ None
unfolding kinds_of_byte
no_byte b l =
    let h1 : nat_le b 0x1f ≡ false = lt-leb b 0x1f (omega (arith, l)) in
    let h2 : nat_le b 0x27 ≡ false = lt-leb b 0x27 (omega (arith, l)) in
    let h3 : nat_le b 0x3e ≡ false = lt-leb b 0x3e (omega (arith, l)) in
    let h4 : nat_le b 0x44 ≡ false = lt-leb b 0x44 (omega (arith, l)) in
    let h5 : nat_le b 0xc4 ≡ false = lt-leb b 0xc4 (omega (arith, l)) in
    rw (h1, h2, h3, h4, h5) (past_range reference_ranges 0xd6 b refl l)

bytes : (b : ℕ) → Agrees (Byte b)
unfolding kinds_of_byte
bytes =
    agree 0xd6 (λ b. is_some (rule_of (Byte b))) (λ b. is_some (kinds_of (Byte b)) && is_plain (role_of (Byte b))) refl
    (λ b l. without (Byte b) (past_range byte_rules 0xd6 b refl l) (no_byte b l))

no_bulk : (n : ℕ) → 22 < n → kinds_after 0xfc n ≡ None
unfolding kinds_after
no_bulk n l =
    let h : nat_le n 7 ≡ false = lt-leb n 7 (omega (arith, l)) in
    rw h (past_rows bulk_rows 22 n refl l)

bulk : (n : ℕ) → Agrees (Prefixed 0xfc n)
unfolding kinds_after
bulk =
    agree 22 (λ n. is_some (rule_of (Prefixed 0xfc n))) (λ n. is_some (kinds_of (Prefixed 0xfc n)) && is_plain (role_of (Prefixed 0xfc n))) refl
    (λ n l. without (Prefixed 0xfc n) (past_range bulk_rules 22 n refl l) (no_bulk n l))

vectors : (n : ℕ) → Agrees (Prefixed 0xfd n)
unfolding kinds_after
vectors =
    agree 275 (λ n. is_some (rule_of (Prefixed 0xfd n))) (λ n. is_some (kinds_of (Prefixed 0xfd n)) && is_plain (role_of (Prefixed 0xfd n))) refl
    (λ n l. without (Prefixed 0xfd n) (past_range vector_rules 275 n refl l) (past_range vector_ranges 275 n refl l))

atomics : (n : ℕ) → Agrees (Prefixed 0xfe n)
unfolding kinds_after
atomics =
    agree 0x4e (λ n. is_some (rule_of (Prefixed 0xfe n))) (λ n. is_some (kinds_of (Prefixed 0xfe n)) && is_plain (role_of (Prefixed 0xfe n))) refl
    (λ n l. without (Prefixed 0xfe n) (past_range (atomic_rules (width_at n)) 0x4e n refl l) (past_range atomic_ranges 0x4e n refl l))

aggregates : (n : ℕ) → Agrees (Prefixed 0xfb n)
unfolding kinds_after
aggregates =
    agree 30 (λ n. is_some (rule_of (Prefixed 0xfb n))) (λ n. is_some (kinds_of (Prefixed 0xfb n)) && is_plain (role_of (Prefixed 0xfb n))) refl
    (λ n l. without (Prefixed 0xfb n) (past_range aggregate_rules 30 n refl l) (past_range aggregate_ranges 30 n refl l))

no_prefix : (p n : ℕ) → (p == 0xfc) ≡ false → (p == 0xfd) ≡ false → (p == 0xfe) ≡ false → (p == 0xfb) ≡ false → Agrees (Prefixed p n)
unfolding kinds_after
no_prefix p n h1 h2 h3 h4 = rw (h1, h2, h3, h4) refl

of_prefix : (p n q : ℕ) → p ≡ q → Agrees (Prefixed q n) → Agrees (Prefixed p n)
of_prefix p n q e h = subst (λ i. Agrees (Prefixed i n)) (sym e) h

prefixed : (p n : ℕ) → Agrees (Prefixed p n)
prefixed p n = elim (eqb_tells p 0xfc) [
  | inl c ↦ of_prefix p n 0xfc c.1 (bulk n)
  | inr c ↦ elim (eqb_tells p 0xfd) [
    | inl d ↦ of_prefix p n 0xfd d.1 (vectors n)
    | inr d ↦ elim (eqb_tells p 0xfe) [
      | inl e ↦ of_prefix p n 0xfe e.1 (atomics n)
      | inr e ↦ elim (eqb_tells p 0xfb) [
        | inl b ↦ of_prefix p n 0xfb b.1 (aggregates n)
        | inr b ↦ no_prefix p n c.0 d.0 e.0 b.0
      ]
    ]
  ]
]

pub plain_have_rules : PlainHaveRules
plain_have_rules (Byte b) = bytes b
plain_have_rules (Prefixed p n) = prefixed p n

-- ---- conditional branches and tail calls

no_role : (b : ℕ) → 0xd6 < b → role_of (Byte b) ≡ a_plain
no_role b l = ap (λ r. unwrap_or r a_plain) (past_rows byte_roles 0xd6 b refl l)

no_aggregate_role : (n : ℕ) → 25 < n → role_of (Prefixed 0xfb n) ≡ a_plain
no_aggregate_role n l = ap (λ r. unwrap_or r a_plain) (past_rows aggregate_roles 25 n refl l)

conditional_bytes : (b : ℕ) → is_some (conditional_rule (Byte b)) ≡ is_conditional (role_of (Byte b))
conditional_bytes =
    agree 0xd6 (λ b. is_some (conditional_rule (Byte b))) (λ b. is_conditional (role_of (Byte b))) refl
    (λ b l. ap is_some (past_rows byte_branches 0xd6 b refl l) ∙ sym (ap is_conditional (no_role b l)))

-- what holds with the prefix of references and aggregates, and with each other one, holds with all
by_prefix : (has is : Opcode → Bool) → ((n : ℕ) → has (Prefixed 0xfb n) ≡ is (Prefixed 0xfb n))
    → ((p n : ℕ) → (p == 0xfb) ≡ false → has (Prefixed p n) ≡ is (Prefixed p n)) → (p n : ℕ) → has (Prefixed p n) ≡ is (Prefixed p n)
by_prefix has is casts others p n = elim (eqb_tells p 0xfb) [
  | inl b ↦ subst (λ i. has (Prefixed i n) ≡ is (Prefixed i n)) (sym b.1) (casts n)
  | inr b ↦ others p n b.0
]

conditional_casts : (n : ℕ) → is_some (conditional_rule (Prefixed 0xfb n)) ≡ is_conditional (role_of (Prefixed 0xfb n))
conditional_casts =
    agree 25 (λ n. is_some (conditional_rule (Prefixed 0xfb n))) (λ n. is_conditional (role_of (Prefixed 0xfb n))) refl
    (λ n l. ap is_some (past_rows cast_branches 25 n refl l) ∙ sym (ap is_conditional (no_aggregate_role n l)))

not_conditional : (p n : ℕ) → (p == 0xfb) ≡ false → is_some (conditional_rule (Prefixed p n)) ≡ is_conditional (role_of (Prefixed p n))
not_conditional p n h = rw h refl

conditional_prefixed : (p n : ℕ) → is_some (conditional_rule (Prefixed p n)) ≡ is_conditional (role_of (Prefixed p n))
conditional_prefixed = by_prefix (λ o. is_some (conditional_rule o)) (λ o. is_conditional (role_of o)) conditional_casts not_conditional

pub conditionals_have_rules : ConditionalsHaveRules
conditionals_have_rules (Byte b) = conditional_bytes b
conditionals_have_rules (Prefixed p n) = conditional_prefixed p n

tail_bytes : (b : ℕ) → is_some (tail_rule (Byte b)) ≡ is_tail_call (role_of (Byte b))
tail_bytes =
    agree 0xd6 (λ b. is_some (tail_rule (Byte b))) (λ b. is_tail_call (role_of (Byte b))) refl
    (λ b l. ap is_some (past_rows tail_rows 0xd6 b refl l) ∙ sym (ap is_tail_call (no_role b l)))

tail_casts : (n : ℕ) → is_some (tail_rule (Prefixed 0xfb n)) ≡ is_tail_call (role_of (Prefixed 0xfb n))
tail_casts =
    agree 25 (λ n. is_some (tail_rule (Prefixed 0xfb n))) (λ n. is_tail_call (role_of (Prefixed 0xfb n))) refl
    (λ n l. sym (ap is_tail_call (no_aggregate_role n l)))

no_tail_call : (p n : ℕ) → (p == 0xfb) ≡ false → is_some (tail_rule (Prefixed p n)) ≡ is_tail_call (role_of (Prefixed p n))
no_tail_call p n h = rw h refl

tail_prefixed : (p n : ℕ) → is_some (tail_rule (Prefixed p n)) ≡ is_tail_call (role_of (Prefixed p n))
tail_prefixed = by_prefix (λ o. is_some (tail_rule o)) (λ o. is_tail_call (role_of o)) tail_casts no_tail_call

pub tail_calls_have_rules : TailCallsHaveRules
tail_calls_have_rules (Byte b) = tail_bytes b
tail_calls_have_rules (Prefixed p n) = tail_prefixed p n
