-- Reading numbers byte by byte: a last byte, and a byte before others.
use Rattle.std.proofs.Common.{◌≡◌, ℕ, ◌+◌, ◌-◌, ◌^◌, ◌<◌, ◌≤◌, List, [], ◌∷◌, length, take, drop, slice_index_or, Some, None, Result, Ok, Err, refl, ap, sym, subst, ◌∙◌, ℤ, pos, ◌+ℤ◌, ◌-ℤ◌, ◌*ℤ◌, ◌≤ℤ◌, ◌<ℤ◌, arith}
use mir.Syntax.{w64}
use mir.Val.{of_z, to_z}
use Rattle.std.proofs.lemmas.Int.{ints}
use Rattle.std.proofs.lemmas.List.{take_all}
use Rattle.std.proofs.lemmas.Bool.{lt-ltb, le-ltb, lt-leb, le-leb}
use Rattle.wasm_numbers.specs.declared.fault.ReadFault.{ReadFault}
use Rattle.wasm_numbers.specs.declared.fault.ReadFault.TheVariants.{Truncated, BadNumber}
use Rattle.wasm_numbers.specs.Numbers.{Encoding, integer, signed, unsigned_last, signed_last}
use Rattle.wasm_numbers.proofs.Powers.{pow_64, pow_128, pow_top}

pub unsigned_wide : (bits byte : ℕ) → 7 ≤ bits → byte < 128 → unsigned_last bits byte ≡ Some byte
unsigned_wide bits byte wide low =
    let fits : byte < 2 ^ bits = omega (arith, pow_128 bits wide) in
    rw (lt-ltb byte (2 ^ bits) fits) refl

pub last_low : (bits byte : ℕ) → 7 ≤ bits → byte < 64 → signed_last bits byte ≡ Some (pos byte)
last_low bits byte wide low =
    let fits : byte < 2 ^ (bits - 1) = omega (arith, pow_64 bits wide) in
    rw (lt-ltb byte 64 low, lt-ltb byte (2 ^ (bits - 1)) fits) refl

pub last_high : (bits byte : ℕ) → 7 ≤ bits → 64 ≤ byte → signed_last bits byte ≡ Some (pos byte -ℤ pos 128)
last_high bits byte wide high =
    let fits : 128 ≤ byte + 2 ^ (bits - 1) = omega (arith, pow_64 bits wide) in
    rw (le-ltb byte 64 high, le-leb 128 (byte + 2 ^ (bits - 1)) fits) refl

-- the bytes after the first, read as a slice
abbrev pub without_first : List ℕ → List ℕ
without_first bytes = take (length bytes - 1) (drop 1 bytes)

front : (bytes : List ℕ) → 1 ≤ length bytes → bytes ≡ slice_index_or bytes 0 0 ∷ without_first bytes
front [] some = absurd (omega arith)
front (byte ∷ bytes) some =
    let whole : take (length (byte ∷ bytes) - 1) bytes ≡ bytes = take_all (length (byte ∷ bytes) - 1) bytes (omega arith) in
    ap (λ (others : List ℕ). byte ∷ others) (sym whole)

one_of : {V : Type 0} (e : Encoding V) (bits byte : ℕ) (rest : List ℕ) (v : V) → byte < 128 → e.last bits byte ≡ Some v → integer e bits (byte ∷ rest) ≡ Ok (v, rest)
unfolding integer
one_of e bits byte rest v low last = rw (lt-ltb byte 128 low, last) refl

more_of : {V : Type 0} (e : Encoding V) (bits byte : ℕ) (bytes : List ℕ) (high : V) (rest : List ℕ) → 128 ≤ byte → 7 < bits
    → integer e (bits - 7) bytes ≡ Ok (high, rest) → integer e bits (byte ∷ bytes) ≡ Ok (e.more (byte - 128) high, rest)
unfolding integer
more_of e bits byte bytes high rest low wide read = rw (le-ltb byte 128 low, lt-leb bits 7 wide, read) refl

-- a last byte at the front
pub one : {V : Type 0} (e : Encoding V) (bits : ℕ) (bytes : List ℕ) (v : V) → 1 ≤ length bytes → slice_index_or bytes 0 0 < 128
    → e.last bits (slice_index_or bytes 0 0) ≡ Some v → integer e bits bytes ≡ Ok (v, without_first bytes)
one e bits bytes v some low last = ap (integer e bits) (front bytes some) ∙ one_of e bits (slice_index_or bytes 0 0) (without_first bytes) v low last

-- a byte at the front, with more of the number after it
pub more : {V : Type 0} (e : Encoding V) (bits : ℕ) (bytes : List ℕ) (high : V) (rest : List ℕ) → 1 ≤ length bytes → 128 ≤ slice_index_or bytes 0 0 → 7 < bits
    → integer e (bits - 7) (without_first bytes) ≡ Ok (high, rest) → integer e bits bytes ≡ Ok (e.more (slice_index_or bytes 0 0 - 128) high, rest)
more e bits bytes high rest some low wide read =
    ap (integer e bits) (front bytes some) ∙ more_of e bits (slice_index_or bytes 0 0) (without_first bytes) high rest low wide read

-- a number of two bytes, and one of three
pub two : {V : Type 0} (e : Encoding V) (bits : ℕ) (bytes : List ℕ) (v : V) → 1 ≤ length bytes → 1 ≤ length (without_first bytes)
    → 128 ≤ slice_index_or bytes 0 0 → slice_index_or (without_first bytes) 0 0 < 128 → 7 < bits
    → e.last (bits - 7) (slice_index_or (without_first bytes) 0 0) ≡ Some v
    → integer e bits bytes ≡ Ok (e.more (slice_index_or bytes 0 0 - 128) v, without_first (without_first bytes))
two e bits bytes v some some_2 low low_2 wide last =
    more e bits bytes v (without_first (without_first bytes)) some low wide (one e (bits - 7) (without_first bytes) v some_2 low_2 last)

pub three : {V : Type 0} (e : Encoding V) (bits : ℕ) (bytes : List ℕ) (v : V) → 1 ≤ length bytes → 1 ≤ length (without_first bytes)
    → 1 ≤ length (without_first (without_first bytes)) → 128 ≤ slice_index_or bytes 0 0 → 128 ≤ slice_index_or (without_first bytes) 0 0
    → slice_index_or (without_first (without_first bytes)) 0 0 < 128 → 7 < bits → 7 < bits - 7
    → e.last (bits - 7 - 7) (slice_index_or (without_first (without_first bytes)) 0 0) ≡ Some v
    → integer e bits bytes ≡ Ok (e.more (slice_index_or bytes 0 0 - 128) (e.more (slice_index_or (without_first bytes) 0 0 - 128) v), without_first (without_first (without_first bytes)))
three e bits bytes v some some_2 some_3 low low_2 low_3 wide wide_2 last =
    more e bits bytes (e.more (slice_index_or (without_first bytes) 0 0 - 128) v) (without_first (without_first (without_first bytes))) some low wide
    (two e (bits - 7) (without_first bytes) v some_2 some_3 low_2 low_3 wide_2 last)

-- three bytes at the front, with more of the number after them
pub more_after_three : {V : Type 0} (e : Encoding V) (bits : ℕ) (bytes : List ℕ) (high : V) (rest : List ℕ) → 1 ≤ length bytes → 1 ≤ length (without_first bytes)
    → 1 ≤ length (without_first (without_first bytes)) → 128 ≤ slice_index_or bytes 0 0 → 128 ≤ slice_index_or (without_first bytes) 0 0
    → 128 ≤ slice_index_or (without_first (without_first bytes)) 0 0 → 21 < bits → integer e (bits - 7 - 7 - 7) (without_first (without_first (without_first bytes))) ≡ Ok (high, rest)
    → integer e bits bytes ≡ Ok (e.more (slice_index_or bytes 0 0 - 128) (e.more (slice_index_or (without_first bytes) 0 0 - 128) (e.more (slice_index_or (without_first (without_first bytes)) 0 0 - 128) high)), rest)
more_after_three e bits bytes high rest some some_2 some_3 low low_2 low_3 wide read =
    let upper = more e (bits - 7 - 7) (without_first (without_first bytes)) high rest some_3 low_3 (omega arith) read in
    let middle = more e (bits - 7) (without_first bytes) (e.more (slice_index_or (without_first (without_first bytes)) 0 0 - 128) high) rest some_2 low_2 (omega arith) upper in
    more e bits bytes (e.more (slice_index_or (without_first bytes) 0 0 - 128) (e.more (slice_index_or (without_first (without_first bytes)) 0 0 - 128) high)) rest some low (omega arith) middle

-- ---- a signed number that is passed on

pub wider_low : (v : ℤ) (a b : ℕ) → a ≤ b → pos 0 ≤ℤ (v +ℤ pos a) → pos 0 ≤ℤ (v +ℤ pos b)
wider_low v a b more low = omega (arith, ints)

pub wider_high : (v : ℤ) (a b : ℕ) → a ≤ b → v <ℤ pos a → v <ℤ pos b
wider_high v a b more high = omega (arith, ints)

pub same : (bits : ℕ) (v : ℤ) → bits ≤ 64 → pos 0 ≤ℤ (v +ℤ pos (2 ^ (bits - 1))) → v <ℤ pos (2 ^ (bits - 1)) → to_z w64 (of_z w64 v) ≡ v
same bits v wide low high = omega (arith, ints, pow_top bits wide)

pub passed_low : (bits : ℕ) (v : ℤ) → bits ≤ 64 → pos 0 ≤ℤ (v +ℤ pos (2 ^ (bits - 1))) → v <ℤ pos (2 ^ (bits - 1))
    → pos 0 ≤ℤ (to_z w64 (of_z w64 v) +ℤ pos (2 ^ (bits - 1)))
passed_low bits v wide low high = subst (λ (z : ℤ). pos 0 ≤ℤ (z +ℤ pos (2 ^ (bits - 1)))) (sym (same bits v wide low high)) low

pub passed_high : (bits : ℕ) (v : ℤ) → bits ≤ 64 → pos 0 ≤ℤ (v +ℤ pos (2 ^ (bits - 1))) → v <ℤ pos (2 ^ (bits - 1))
    → to_z w64 (of_z w64 v) <ℤ pos (2 ^ (bits - 1))
passed_high bits v wide low high = subst (λ (z : ℤ). z <ℤ pos (2 ^ (bits - 1))) (sym (same bits v wide low high)) high

abbrev read_as : List ℕ → ℤ → Result (ℤ × List ℕ) ReadFault
read_as rest v = Ok (v, rest)

pub passed : (read : Result (ℤ × List ℕ) ReadFault) (bits : ℕ) (v : ℤ) (rest : List ℕ) → bits ≤ 64 → pos 0 ≤ℤ (v +ℤ pos (2 ^ (bits - 1))) → v <ℤ pos (2 ^ (bits - 1))
    → read ≡ Ok (v, rest) → read ≡ Ok (to_z w64 (of_z w64 v), rest)
passed read bits v rest wide low high is = is ∙ ap (read_as rest) (sym (same bits v wide low high))

-- the number `v` of a byte and of the number `high` after it, which is of at most `upper` bits
pub more_passed : (bits upper : ℕ) (bytes : List ℕ) (high v : ℤ) (rest : List ℕ) → 1 ≤ length bytes → 128 ≤ slice_index_or bytes 0 0 → 7 < bits → upper ≤ 64
    → pos 0 ≤ℤ (high +ℤ pos (2 ^ (upper - 1))) → high <ℤ pos (2 ^ (upper - 1))
    → v ≡ pos (slice_index_or bytes 0 0 - 128) +ℤ (pos 128 *ℤ to_z w64 (of_z w64 high))
    → integer signed (bits - 7) (without_first bytes) ≡ Ok (high, rest) → integer signed bits bytes ≡ Ok (v, rest)
more_passed bits upper bytes high v rest some low long wide least most value read =
    let is : v ≡ pos (slice_index_or bytes 0 0 - 128) +ℤ (pos 128 *ℤ high) =
    value ∙ ap (λ (z : ℤ). pos (slice_index_or bytes 0 0 - 128) +ℤ (pos 128 *ℤ z)) (same upper high wide least most) in
    more signed bits bytes high rest some low long read ∙ ap (read_as rest) (sym is)

-- ---- the bits that are left

pub some_bits : (bits : ℕ) → 7 < bits → 0 < bits
some_bits bits long = omega arith

pub some_left : (bits : ℕ) → 7 < bits → 0 < bits - 7
some_left bits long = omega arith

pub long_left : (bits : ℕ) → 28 < bits → (7 < bits) × (7 < bits - 7) × (7 < bits - 7 - 7) × (7 < bits - 7 - 7 - 7)
long_left bits long = (omega arith, omega arith, omega arith, omega arith)

pub narrow_left : (bits : ℕ) → bits ≤ 64 → bits - 7 ≤ 64
narrow_left bits wide = omega arith

pub three_left : (bits : ℕ) → 21 < bits → (7 ≤ bits) × (7 < bits) × (7 ≤ bits - 7) × (7 < bits - 7) × (7 ≤ bits - 7 - 7)
three_left bits wide = (omega arith, omega arith, omega arith, omega arith, omega arith)

pub wide_left : (bits : ℕ) → bits ≤ 64 → (bits - 7 ≤ 64) × (bits - 7 - 7 ≤ 64) × (bits - 7 - 7 - 7 ≤ 64)
wide_left bits wide = (omega arith, omega arith, omega arith)

-- ---- bytes that no number begins

refused_of : {V : Type 0} (e : Encoding V) (bits byte : ℕ) (rest : List ℕ) → byte < 128 → e.last bits byte ≡ None → integer e bits (byte ∷ rest) ≡ Err BadNumber
unfolding integer
refused_of e bits byte rest low last = rw (lt-ltb byte 128 low, last) refl

too_long_of : {V : Type 0} (e : Encoding V) (bits byte : ℕ) (rest : List ℕ) → 128 ≤ byte → bits ≤ 7 → integer e bits (byte ∷ rest) ≡ Err BadNumber
unfolding integer
too_long_of e bits byte rest low short = rw (le-ltb byte 128 low, le-leb bits 7 short) refl

fault_of : {V : Type 0} (e : Encoding V) (bits byte : ℕ) (bytes : List ℕ) (fault : ReadFault) → 128 ≤ byte → 7 < bits
    → integer e (bits - 7) bytes ≡ Err fault → integer e bits (byte ∷ bytes) ≡ Err fault
unfolding integer
fault_of e bits byte bytes fault low wide read = rw (le-ltb byte 128 low, lt-leb bits 7 wide, read) refl

pub nothing : {V : Type 0} (e : Encoding V) (bits : ℕ) (bytes : List ℕ) → length bytes < 1 → integer e bits bytes ≡ Err Truncated
unfolding integer
nothing e bits [] none = refl
nothing e bits (byte ∷ bytes) none = absurd (omega arith)

pub refused : {V : Type 0} (e : Encoding V) (bits : ℕ) (bytes : List ℕ) → 1 ≤ length bytes → slice_index_or bytes 0 0 < 128
    → e.last bits (slice_index_or bytes 0 0) ≡ None → integer e bits bytes ≡ Err BadNumber
refused e bits bytes some low last = ap (integer e bits) (front bytes some) ∙ refused_of e bits (slice_index_or bytes 0 0) (without_first bytes) low last

pub too_long : {V : Type 0} (e : Encoding V) (bits : ℕ) (bytes : List ℕ) → 1 ≤ length bytes → 128 ≤ slice_index_or bytes 0 0 → bits ≤ 7 → integer e bits bytes ≡ Err BadNumber
too_long e bits bytes some low short = ap (integer e bits) (front bytes some) ∙ too_long_of e bits (slice_index_or bytes 0 0) (without_first bytes) low short

pub fault_after : {V : Type 0} (e : Encoding V) (bits : ℕ) (bytes : List ℕ) (fault : ReadFault) → 1 ≤ length bytes → 128 ≤ slice_index_or bytes 0 0 → 7 < bits
    → integer e (bits - 7) (without_first bytes) ≡ Err fault → integer e bits bytes ≡ Err fault
fault_after e bits bytes fault some low wide read =
    ap (integer e bits) (front bytes some) ∙ fault_of e bits (slice_index_or bytes 0 0) (without_first bytes) fault low wide read
