-- New indices in order, and without gaps.
use Rattle.std.proofs.Common.{◌≡◌, ℕ, zero, suc, ◌+◌, ◌<◌, ◌≤◌, Bool, true, false, true≢false, List, [], ◌∷◌, length, take, get_or, cond, Option, None, Some, refl, sym, ap, ◌∙◌, arith}
use Rattle.std.proofs.lemmas.List.Sums.{sum_by-cons, sum_by_more}
use Rattle.item_sets.specs.ItemsLeft.{is_left, left_count, index_left}
use Rattle.item_sets.specs.IndexLaws.{InOrder, WithoutGaps}

-- ---- how many are left

count_cons : (m : Bool) (marks : List Bool) → left_count (m ∷ marks) ≡ cond m 1 0 + left_count marks
count_cons m marks = sum_by-cons (λ (left : Bool). cond left 1 0) m marks

-- more are left before a later item
below : (marks : List Bool) (i j : ℕ) → is_left marks i ≡ true → i < j → left_count (take i marks) < left_count (take j marks)
below [] i j left lt = absurd (true≢false (sym left))
below (m ∷ marks) i zero left lt = absurd (omega arith)
below (true ∷ marks) zero (suc j) left lt = let more = count_cons true (take j marks) in omega arith
below (false ∷ marks) zero (suc j) left lt = absurd (true≢false (sym left))
below (m ∷ marks) (suc i) (suc j) left lt =
    let rest = below marks i j left (omega arith) in
    omega (arith, rest, count_cons m (take i marks), count_cons m (take j marks))

-- fewer than all are left before an item that is left
below_all : (marks : List Bool) (i : ℕ) → is_left marks i ≡ true → left_count (take i marks) < left_count marks
below_all [] i left = absurd (true≢false (sym left))
below_all (true ∷ marks) zero left = let more = count_cons true marks in omega arith
below_all (false ∷ marks) zero left = absurd (true≢false (sym left))
below_all (m ∷ marks) (suc i) left =
    let rest = below_all marks i left in
    omega (arith, rest, count_cons m (take i marks), count_cons m marks)

-- each smaller number is how many are left before some item
item_of : (marks : List Bool) (n : ℕ) → n < left_count marks → (i : ℕ) × (is_left marks i ≡ true) × (left_count (take i marks) ≡ n)
item_of [] n lt = absurd (omega arith)
item_of (true ∷ marks) zero lt = (zero, refl, refl)
item_of (true ∷ marks) (suc n) lt =
    let rest = item_of marks n (omega (arith, count_cons true marks, lt)) in
    (suc rest.0, rest.1, omega (arith, count_cons true (take rest.0 marks), rest.2))
item_of (false ∷ marks) n lt =
    let rest = item_of marks n (omega (arith, count_cons false marks, lt)) in
    (suc rest.0, rest.1, omega (arith, count_cons false (take rest.0 marks), rest.2))

-- at most as many are left before an item as there are
pub count_within : (marks : List Bool) (i : ℕ) → left_count (take i marks) ≤ i
count_within [] zero = omega arith
count_within [] (suc i) = omega arith
count_within (m ∷ marks) zero = omega arith
count_within (true ∷ marks) (suc i) = omega (arith, count_within marks i, count_cons true (take i marks))
count_within (false ∷ marks) (suc i) = omega (arith, count_within marks i, count_cons false (take i marks))

-- one more is left before the next item if this one is
pub count_next : (marks : List Bool) (i : ℕ) (d : Bool) → i < length marks → left_count (take (i + 1) marks) ≡ left_count (take i marks) + cond (get_or marks i d) 1 0
count_next marks i d within = sum_by_more (λ (left : Bool). cond left 1 0) marks i d within

-- ---- new indices

abbrev number : Option ℕ → ℕ
number None = 0
number (Some n) = n

abbrev has_number : Option ℕ → Bool
has_number None = false
has_number (Some n) = true

by_mark : (left : Bool) (k n : ℕ) → cond left (Some k) None ≡ Some n → (left ≡ true) × (k ≡ n)
by_mark true k n is = (refl, ap number is)
by_mark false k n is = absurd (true≢false (sym (ap has_number is)))

index_is : (marks : List Bool) (i n : ℕ) → index_left marks i ≡ Some n → (is_left marks i ≡ true) × (left_count (take i marks) ≡ n)
index_is marks i n is = by_mark (is_left marks i) (left_count (take i marks)) n is

pub index_of : (marks : List Bool) (i n : ℕ) → is_left marks i ≡ true → left_count (take i marks) ≡ n → index_left marks i ≡ Some n
index_of marks i n left count = ap (λ m. cond m (Some (left_count (take i marks))) None) left ∙ ap Some count

pub in_order : InOrder
in_order marks i j m n of_i of_j lt =
    let first = index_is marks i m of_i in
    let second = index_is marks j n of_j in
    omega (arith, first.1, second.1, below marks i j first.0 lt)

has_item : (marks : List Bool) (n : ℕ) → n < left_count marks → (i : ℕ) × (index_left marks i ≡ Some n)
has_item marks n lt = let item = item_of marks n lt in (item.0, index_of marks item.0 n item.1 item.2)

is_below : (marks : List Bool) (n : ℕ) → ((i : ℕ) × (index_left marks i ≡ Some n)) → n < left_count marks
is_below marks n item =
    let is = index_is marks item.0 n item.1 in
    omega (arith, is.1, below_all marks item.0 is.0)

pub without_gaps : WithoutGaps
without_gaps marks n = (is_below marks n, has_item marks n)
