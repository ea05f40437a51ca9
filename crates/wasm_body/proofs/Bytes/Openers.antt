-- An opcode has one block type among its immediates if it opens a construct, and otherwise none.
use Rattle.std.proofs.Common.{◌≡◌, ℕ, suc, List, [], ◌∷◌, Bool, true, false, cond, ◌&&◌, ◌||◌, not, Option, Some, None, refl, sym, ap, ◌∙◌, subst}
use Rattle.std.specs.Prelude.{nat_le, ◌==◌, unwrap_or, if◌then◌else◌}
use Rattle.std.proofs.lemmas.Bool.{eqb-true, and_parts}
use Rattle.wasm_operators.specs.declared.types.Opcode.{Opcode}
use Rattle.wasm_operators.specs.declared.types.Opcode.TheVariants.{Byte, Prefixed}
use Rattle.wasm_operators.specs.Types.{row_at}
use Rattle.wasm_operators.specs.Immediates.{Kind, an_access}
use Rattle.wasm_operators.specs.Immediates.{Kind as kinds}
use Rattle.wasm_operators.specs.Opcodes.{control_rows, variable_rows, constant_rows, reference_ranges, bulk_rows, range_at, aggregate_ranges, vector_ranges, atomic_ranges, kinds_of_byte, kinds_after, kinds_of}
use Rattle.wasm_body.specs.Control.{Role, a_block, a_loop, an_if, a_try, a_try_table, a_plain, byte_roles, aggregate_roles, role_of}

-- whether an operator of the role opens a construct
abbrev pub opens : Role → Bool
opens a_block = true
opens a_loop = true
opens an_if = true
opens a_try = true
opens a_try_table = true
opens _ = false

-- the number of block types among kinds
abbrev pub is_block_kind : Kind → Bool
is_block_kind kinds.a_block = true
is_block_kind _ = false

abbrev pub block_count : List Kind → ℕ
block_count [] = 0
block_count (k ∷ ks) = cond (is_block_kind k) (suc (block_count ks)) (block_count ks)

-- the number of block types that an opcode must have
abbrev pub required_count : Opcode → ℕ
required_count o = cond (opens (role_of o)) 1 0

-- ---- results that have this many block types

abbrev Counted : ℕ → Option (List Kind) → Type 0
Counted n found_row = (ks : List Kind) → found_row ≡ Some ks → block_count ks ≡ n

abbrev is_counted : ℕ → Option (List Kind) → Bool
is_counted n None = true
is_counted n (Some ks) = block_count ks == n

counted_found_row : (n : ℕ) (found_row : Option (List Kind)) → is_counted n found_row ≡ true → Counted n found_row
counted_found_row n None h ks e = absurd cc
counted_found_row n (Some js) h ks e = let k : js ≡ ks = cc in ap block_count (sym k) ∙ eqb-true (block_count js) n h

counted_if : (n : ℕ) (test : Bool) (x y : Option (List Kind)) → (test ≡ true → Counted n x) → (test ≡ false → Counted n y)
    → Counted n (if test then x else y)
counted_if n true x y h k = h refl
counted_if n false x y h k = k refl

-- a table whose rows are tested: each number must have this many

abbrev rows_counted : (ℕ → ℕ) → List (ℕ × List Kind) → Bool
rows_counted n [] = true
rows_counted n (row ∷ rows) = (block_count row.1 == n row.0) && rows_counted n rows

counted_row : (n : ℕ → ℕ) (row : ℕ × List Kind) (others : Option (List Kind)) (b : ℕ) (same : Bool) → (b == row.0) ≡ same
    → (block_count row.1 == n row.0) ≡ true
    → Counted (n b) others → Counted (n b) (if same then Some row.1 else others)
counted_row n row others b true e h g ks q = counted_found_row (n row.0) (Some row.1) h ks q ∙ ap n (sym (eqb-true b row.0 e))
counted_row n row others b false e h g ks q = g ks q

counted_rows : (n : ℕ → ℕ) (rows : List (ℕ × List Kind)) → rows_counted n rows ≡ true → (b : ℕ) → Counted (n b) (row_at rows b)
counted_rows n [] h b = counted_found_row (n b) None refl
counted_rows n (row ∷ rows) h b =
    let both = and_parts (block_count row.1 == n row.0) (rows_counted n rows) h in
    counted_row n row (row_at rows b) b (b == row.0) refl both.0 (counted_rows n rows both.1 b)

abbrev ranges_counted : ℕ → List (ℕ × Option (List Kind)) → Bool
ranges_counted n [] = true
ranges_counted n (row ∷ rows) = is_counted n row.1 && ranges_counted n rows

counted_ranges : (n : ℕ) (rows : List (ℕ × Option (List Kind))) → ranges_counted n rows ≡ true → (m : ℕ) → Counted n (range_at rows m)
counted_ranges n [] h m = counted_found_row n None refl
counted_ranges n (row ∷ rows) h m =
    let both = and_parts (is_counted n row.1) (ranges_counted n rows) h in
    counted_if n (nat_le m row.0) row.1 (range_at rows m) (λ t. counted_found_row n row.1 both.0) (λ t. counted_ranges n rows both.1 m)

-- ---- roles that no opcode past the greatest opener has, and no opcode with a prefix

module _ (marks : Role → Bool) (plain : marks a_plain ≡ false) where
  abbrev pub roles_pass : (ℕ → Bool) → List (ℕ × Role) → Bool
  roles_pass test [] = true
  roles_pass test (row ∷ rows) = (not (marks row.1) || test row.0) && roles_pass test rows

  role_row : (test : ℕ → Bool) (row : ℕ × Role) (others : Option Role) (b : ℕ) (same : Bool) → (b == row.0) ≡ same
      → (not (marks row.1) || test row.0) ≡ true → test b ≡ false
      → marks (unwrap_or others a_plain) ≡ false → marks (unwrap_or (if same then Some row.1 else others) a_plain) ≡ false
  role_row test row others b true e h f g = by_role (marks row.1) (ap (λ t. not (marks row.1) || t) (sym (ap test (sym (eqb-true b row.0 e)) ∙ f)) ∙ h)
    where
      by_role : (o : Bool) → (not o || false) ≡ true → o ≡ false
      by_role true k = absurd cc
      by_role false k = refl
  role_row test row others b false e h f g = g

  pub none_marked : (test : ℕ → Bool) (rows : List (ℕ × Role)) → roles_pass test rows ≡ true → (b : ℕ) → test b ≡ false
      → marks (unwrap_or (row_at rows b) a_plain) ≡ false
  none_marked test [] h b f = plain
  none_marked test (row ∷ rows) h b f =
      let both = and_parts (not (marks row.1) || test row.0) (roles_pass test rows) h in
      role_row test row (row_at rows b) b (b == row.0) refl both.0 f (none_marked test rows both.1 b f)

  past_marked : roles_pass (λ n. nat_le n 0x1f) byte_roles ≡ true → (b : ℕ) → nat_le b 0x1f ≡ false → marks (role_of (Byte b)) ≡ false
  past_marked h b f = none_marked (λ n. nat_le n 0x1f) byte_roles h b f

  pub prefixed_marked : roles_pass (λ n. false) aggregate_roles ≡ true → (prefix n : ℕ) → marks (role_of (Prefixed prefix n)) ≡ false
  prefixed_marked h prefix n = by_prefix (prefix == 0xfb)
    where
      by_prefix : (t : Bool) → marks (if t then unwrap_or (row_at aggregate_roles n) a_plain else a_plain) ≡ false
      by_prefix true = none_marked (λ n. false) aggregate_roles h n refl
      by_prefix false = plain

past_openers : (b : ℕ) → nat_le b 0x1f ≡ false → opens (role_of (Byte b)) ≡ false
past_openers b f = past_marked opens refl refl b f

prefixed_opens_nothing : (prefix n : ℕ) → opens (role_of (Prefixed prefix n)) ≡ false
prefixed_opens_nothing prefix n = prefixed_marked opens refl refl prefix n

-- there a result with no block types is right
counted_free : (o : Opcode) (found_row : Option (List Kind)) → opens (role_of o) ≡ false → Counted 0 found_row → Counted (required_count o) found_row
counted_free o found_row f h = subst (λ t. Counted (cond t 1 0) found_row) (sym f) h

-- ---- every opcode: a line for each table, and for each range without one

counted_byte : (b : ℕ) → Counted (required_count (Byte b)) (kinds_of_byte b)
unfolding kinds_of_byte
counted_byte b =
    counted_if (required_count (Byte b)) (nat_le b 0x1f) _ _
    (λ t. counted_rows (λ n. required_count (Byte n)) control_rows refl b)
    (λ past. counted_free (Byte b) _ (past_openers b past)
    (counted_if 0 (nat_le b 0x27) _ _ (λ t. counted_rows (λ n. 0) variable_rows refl b)
    (λ t. counted_if 0 (nat_le b 0x3e) _ _ (λ t. counted_found_row 0 (Some (an_access ∷ [])) refl)
    (λ t. counted_if 0 (nat_le b 0x44) _ _ (λ t. counted_rows (λ n. 0) constant_rows refl b)
    (λ t. counted_if 0 (nat_le b 0xc4) _ _ (λ t. counted_found_row 0 (Some []) refl)
    (λ t. counted_ranges 0 reference_ranges refl b))))))

counted_after : (prefix n : ℕ) → Counted (required_count (Prefixed prefix n)) (kinds_after prefix n)
unfolding kinds_after
counted_after prefix n =
    counted_free (Prefixed prefix n) _ (prefixed_opens_nothing prefix n)
    (counted_if 0 (prefix == 0xfc) _ _
    (λ t. counted_if 0 (nat_le n 7) _ _ (λ t. counted_found_row 0 (Some []) refl) (λ t. counted_rows (λ n. 0) bulk_rows refl n))
    (λ t. counted_if 0 (prefix == 0xfd) _ _
    (λ t. counted_ranges 0 vector_ranges refl n)
    (λ t. counted_if 0 (prefix == 0xfe) _ _
    (λ t. counted_ranges 0 atomic_ranges refl n)
    (λ t. counted_if 0 (prefix == 0xfb) _ _
    (λ t. counted_ranges 0 aggregate_ranges refl n)
    (λ t. counted_found_row 0 None refl)))))

pub counted : (o : Opcode) (ks : List Kind) → kinds_of o ≡ Some ks → block_count ks ≡ required_count o
counted (Byte b) ks e = counted_byte b ks e
counted (Prefixed prefix n) ks e = counted_after prefix n ks e
