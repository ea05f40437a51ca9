-- Indices of locals and their ids, one more at a time.
use Rattle.std.proofs.Common.{◌≡◌, ℕ, zero, suc, ◌+◌, ◌<◌, ◌≤◌, List, [], ◌∷◌, ◌++◌, length, slice_get, unwrap_or, get_or, inl, inr, Option, Some, None, Ok, nat_lt, Bool, true, if◌then◌else◌, ◌^◌, refl, sym, ap, ◌∙◌, length-append, arith, add-one}
use Rattle.std.proofs.Math.Nat.{eq-or-lt_of_le}
use Rattle.std.proofs.Math.ListN.{get_or-append}
use Rattle.std.proofs.Math.Seq.{get_or-append_seam}
use Rattle.std.proofs.lemmas.Option.{slice_get-get_or}
use Rattle.std.specs.Ordering.{nat_cmp}
use Rattle.std.specs.Cmp.{nat_cmp_total}
use Rattle.std.specs.FinMap.{get, insert, get-insert, get-empty}
use Rattle.wasm_numbers.specs.Results.{some_or, ◌>>=◌}
use Rattle.walrus_maps.specs.declared.indices_to_ids.IndicesToIds.{IndicesToIds}
use Rattle.walrus_maps.specs.IndexMaps.{no_ids, locals_in, local_of, with_next_local}
use Rattle.walrus_maps.specs.Locals.{with_local, list_of}
use Rattle.wasm_body.specs.declared.error.IndexError.{IndexError}
use Rattle.wasm_body.specs.declared.error.IndexError.TheVariants.{NoLocals, LocalOutOfRange, TooMany, Memory}
use Rattle.wasm_sections.specs.declared.spaces.Spaces.{Spaces}
use Rattle.wasm_sections.specs.Declarations.{first_numbers}
use Rattle.wasm_sections.specs.OtherLocals.{HasOtherLocals}

-- ---- nothing else differs

pub others_same : (a : Spaces) → HasOtherLocals a a
others_same a = record { locals = a.indices.locals; indices = refl; numbers = refl }

pub others_then : (a b c : Spaces) → HasOtherLocals a b → HasOtherLocals b c → HasOtherLocals a c
others_then a b c p q =
    let other : IndicesToIds → IndicesToIds = λ m. record m { locals = q.locals } in
    record { locals = q.locals; indices = q.indices ∙ ap other p.indices; numbers = q.numbers ∙ p.numbers }

pub others_kept : (a b c : Spaces) → HasOtherLocals a b → c.indices ≡ b.indices → c.numbers ≡ b.numbers → HasOtherLocals a c
others_kept a b c p e n = record { locals = p.locals; indices = e ∙ p.indices; numbers = n ∙ p.numbers }

pub others_pushed : (a b c : Spaces) (function local : ℕ) → HasOtherLocals a b → c.indices ≡ with_next_local function local b.indices → c.numbers ≡ b.numbers → HasOtherLocals a c
others_pushed a b c function local p e n =
    let more : IndicesToIds → IndicesToIds = λ m. record m { locals = with_local function local b.indices.locals } in
    record { locals = with_local function local b.indices.locals; indices = e ∙ ap more p.indices; numbers = n ∙ p.numbers }

-- ---- the locals are the first numbers

pub no_locals : (m : IndicesToIds) → m ≡ no_ids → locals_in m 0 ≡ []
no_locals m e = ap (λ (x : IndicesToIds). locals_in x 0) e ∙ ap (λ (o : Option (List ℕ)). unwrap_or o []) (get-empty nat_cmp 0)

pub next_local : (m more : IndicesToIds) (n : ℕ) → locals_in m 0 ≡ first_numbers n → more ≡ with_next_local 0 n m → locals_in more 0 ≡ first_numbers (n + 1)
next_local m more n h e =
    let list : List ℕ = list_of m.locals 0 ++ n ∷ [] in
    let found : list_of (insert m.locals 0 list) 0 ≡ list = ap (λ (o : Option (List ℕ)). unwrap_or o []) (get-insert nat_cmp_total m.locals 0 list 0) in
    ap (λ (x : IndicesToIds). locals_in x 0) e ∙ found ∙ ap (λ (l : List ℕ). l ++ n ∷ []) h ∙ sym (ap first_numbers (add-one n))

pub first_numbers_length : (n : ℕ) → length (first_numbers n) ≡ n
first_numbers_length zero = refl
first_numbers_length (suc n) = let all = length-append (first_numbers n) (n ∷ []) in let front = first_numbers_length n in omega arith

first_number : (n i d : ℕ) → i < n → get_or (first_numbers n) i d ≡ i
first_number zero i d h = absurd (omega arith)
first_number (suc n) i d h =
    let len = first_numbers_length n in
    let at_most : i ≤ n = omega arith in
    elim (eq-or-lt_of_le at_most) [
      | inr less ↦ get_or-append (first_numbers n) (n ∷ []) d i (omega arith) ∙ first_number n i d less
      | inl same ↦ ap (λ (k : ℕ). get_or (first_numbers n ++ n ∷ []) k d) (same ∙ sym len) ∙ get_or-append_seam (first_numbers n) n [] d ∙ sym same
    ]

pub number_in : (l : List ℕ) (n i : ℕ) → l ≡ first_numbers n → i < n → slice_get l i ≡ Some i
number_in l n i e h =
    let len = first_numbers_length n in
    ap (λ (l : List ℕ). slice_get l i) e ∙ slice_get-get_or (first_numbers n) i 0 (omega arith) ∙ ap (λ (k : ℕ). Some k) (first_number n i 0 h)

-- the list of a function that has one
local_of_list : (o : Option (List ℕ)) (n i : ℕ) → unwrap_or o [] ≡ first_numbers n → i < n → (some_or o (NoLocals 0) >>= λ locals. some_or (slice_get locals i) (LocalOutOfRange 0 i)) ≡ Ok i
local_of_list None n i e h = absurd (let len = ap length e ∙ first_numbers_length n in omega arith)
local_of_list (Some l) n i e h = ap (λ (o : Option ℕ). some_or o (LocalOutOfRange 0 i)) (number_in l n i e h)

pub local_is_itself : (m : IndicesToIds) (n i : ℕ) → locals_in m 0 ≡ first_numbers n → i < n → local_of m 0 i ≡ Ok i
local_is_itself m n i e h = local_of_list (get m.locals 0) n i e h

-- ---- if no more locals are added

-- with fewer locals than there are indices, the only error is that memory ran out
pub out_of_memory :
    (m : IndicesToIds) (list n count : ℕ) (e : IndexError) → list ≡ 0 → locals_in m 0 ≡ first_numbers n → n < count → count ≤ 2 ^ 32 →
    e ≡ (if nat_lt (length (locals_in m list)) (2 ^ 32) then Memory else TooMany) → e ≡ Memory
out_of_memory m list n count e is_first h less few g =
    let len = ap (λ (k : ℕ). length (locals_in m k)) is_first ∙ ap length h ∙ first_numbers_length n in
    let fits : nat_lt (length (locals_in m list)) (2 ^ 32) ≡ true = grind arith in
    g ∙ ap (λ (b : Bool). if b then Memory else TooMany) fits
