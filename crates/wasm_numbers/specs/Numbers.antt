-- Numbers (WebAssembly core specification 3.0, binary format, values: bytes, integers, floats). An integer of N bits is encoded
-- in LEB128: seven bits a byte, the least significant first.
use Rattle.std.specs.Prelude.{◌≡◌, ℕ, ◌+◌, ◌-◌, ◌*◌, ◌^◌, ◌<◌, ◌≤◌, List, [], ◌∷◌, Option, Some, None, Ok, Err, Result, nat_lt, nat_le, if◌then◌else◌, ℤ, pos, ◌+ℤ◌, ◌-ℤ◌, ◌*ℤ◌}
use Rattle.wasm_numbers.specs.declared.fault.ReadFault.{ReadFault}
use Rattle.wasm_numbers.specs.declared.fault.ReadFault.TheVariants.{Truncated, BadNumber}
use Rattle.wasm_numbers.specs.Reading.{Spelling, Reader, Many, many, Made, made}
use Rattle.wasm_numbers.specs.Results.{◌>>=◌}

-- How bytes make a number. `last`: the number of a last byte, which is below 128, if this many bits are left, if the byte
-- is allowed there. `more`: the number of a byte from 128 on, from its low seven bits and the number that is encoded after it.
pub record Encoding (V : Type 0) : Type 0 where
  pub last : (bits byte : ℕ) → Option V
  pub more : (low : ℕ) (high : V) → V

-- u(N): a last byte has no bit set beyond the N bits
abbrev pub unsigned_last : ℕ → ℕ → Option ℕ
unsigned_last bits byte = if nat_lt byte (2 ^ bits) then Some byte else None

abbrev pub unsigned : Encoding ℕ
unsigned = record { last = unsigned_last; more = λ low high. low + 128 * high }

-- s(N): bit 6 of a last byte is the sign, and the bits beyond the N bits are equal to it
abbrev pub signed_last : ℕ → ℕ → Option ℤ
signed_last bits byte =
    if nat_lt byte 64 then (if nat_lt byte (2 ^ (bits - 1)) then Some (pos byte) else None)
    else (if nat_le 128 (byte + 2 ^ (bits - 1)) then Some (pos byte -ℤ pos 128) else None)

abbrev pub signed : Encoding ℤ
signed = record { last = signed_last; more = λ low high. pos low +ℤ (pos 128 *ℤ high) }

-- The bytes encode a number of this many bits. A byte from 128 on is followed by a number with seven bits fewer. The limits of
-- length and of unused bits follow from this. Within them, longer encodings than needed are allowed.
abbrev pub IsInteger : {V : Type 0} → Encoding V → (bits : ℕ) → Spelling V
IsInteger e bits v [] = ⊥
IsInteger e bits v (b ∷ []) = (b < 128) × (e.last bits b ≡ Some v)
IsInteger e bits v (b ∷ c ∷ bs) =
    (128 ≤ b) × (b < 256) × (7 < bits) × (high : _) × (v ≡ e.more (b - 128) high) × IsInteger e (bits - 7) high (c ∷ bs)

abbrev pub last_byte : {V : Type 0} → Option V → Reader V
last_byte None bytes = Err BadNumber
last_byte (Some v) bytes = Ok (v, bytes)

unfoldable pub integer : {V : Type 0} → Encoding V → (bits : ℕ) → Reader V
integer e bits [] = Err Truncated
integer e bits (b ∷ bs) =
    if nat_lt b 128 then last_byte (e.last bits b) bs
    else if nat_le bits 7 then Err BadNumber
    else (integer e (bits - 7) bs >>= λ high. Ok (e.more (b - 128) high.0, high.1))

-- the five kinds of integers
abbrev pub IsU32 : Spelling ℕ
IsU32 = IsInteger unsigned 32

abbrev pub IsU64 : Spelling ℕ
IsU64 = IsInteger unsigned 64

abbrev pub IsS32 : Spelling ℤ
IsS32 = IsInteger signed 32

abbrev pub IsS33 : Spelling ℤ
IsS33 = IsInteger signed 33

abbrev pub IsS64 : Spelling ℤ
IsS64 = IsInteger signed 64

abbrev pub u32 : Reader ℕ
u32 = integer unsigned 32

abbrev pub u64 : Reader ℕ
u64 = integer unsigned 64

abbrev pub s32 : Reader ℤ
s32 = integer signed 32

abbrev pub s33 : Reader ℤ
s33 = integer signed 33

abbrev pub s64 : Reader ℤ
s64 = integer signed 64

-- ---- bytes, and bits as bytes, the least significant first

abbrev pub IsByte : Spelling ℕ
IsByte b text = (b < 256) × (text ≡ b ∷ [])

abbrev pub byte : Reader ℕ
byte [] = Err Truncated
byte (b ∷ bytes) = Ok (b, bytes)

-- the number that bytes make
abbrev pub joined : List ℕ → ℕ
joined [] = 0
joined (b ∷ bs) = b + 256 * joined bs

abbrev pub as_bits : List ℕ → Result ℕ ReadFault
as_bits bs = Ok (joined bs)

abbrev pub AreBits : (count : ℕ) → Spelling ℕ
AreBits count = Made (Many IsByte count) as_bits

abbrev pub bits : (count : ℕ) → Reader ℕ
bits count = made (many byte count) as_bits
