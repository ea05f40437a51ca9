-- Parts of a module (WebAssembly core specification 3.0, binary format, conventions): what their bytes begin with, or the first
-- fault and its place. Everything here is a function of the bytes and of the place in the file where the part ends, so that there
-- is at most one reading.
use Rattle.std.specs.Prelude.{◌≡◌, ◌⊎◌, ℕ, zero, suc, ◌-◌, nat_le, if◌then◌else◌, List, [], ◌∷◌, ◌++◌, length, take, drop, Result, Ok, Err}
use Rattle.wasm_numbers.specs.declared.fault.ReadFault.{ReadFault}
use Rattle.wasm_numbers.specs.declared.fault.ReadFault.TheVariants as unread
use Rattle.wasm_numbers.specs.Numbers.{u32}
use Rattle.wasm_numbers.specs.Reading.{Reader}
use Rattle.wasm_numbers.specs.Results.{◌>>=◌, with_fault}
use Rattle.wasm_sections.specs.declared.fault.ModuleError.{ModuleError}
use Rattle.wasm_sections.specs.declared.fault.ModuleFault.{ModuleFault}
use Rattle.wasm_sections.specs.declared.fault.ModuleFault.TheVariants as fault

-- The value that a part begins with, and the bytes that follow it; or the first fault.
abbrev pub Part : Type 0 → Type 0
Part A = (end : ℕ) → (text : List ℕ) → Result (A × List ℕ) ModuleError

-- a fault at the first of these bytes, which end at this place of the file
abbrev pub fault_here : (end : ℕ) → (text : List ℕ) → ModuleFault → ModuleError
fault_here end text f = record { fault = f; at = end - length text }

-- ---- one after the other

-- a value that takes no bytes
abbrev pub just : {A : Type 0} → A → Part A
just x end text = Ok (x, text)

infixl 10 ◌>=>◌
-- The second part follows the first, and may depend on its value.
abbrev pub ◌>=>◌ : {A B : Type 0} → Part A → (A → Part B) → Part B
first >=> second = λ end text. first end text >>= λ x. second x.0 end x.1

-- a value that isn't kept
abbrev pub passed : {A : Type 0} → Part A → Part (Unit {0})
passed part = part >=> λ x. just tt

-- A value that is turned into another one, or is refused at the place where it begins.
abbrev pub checked : {A B : Type 0} → Part A → (A → Result B ModuleFault) → Part B
checked part check end text = part end text >>= λ x. with_fault (fault_here end text) (check x.0) >>= λ v. Ok (v, x.1)

-- A step after the other, as often as a number says, from a value to a value.
unfoldable pub repeated : {A : Type 0} → (A → Part A) → ℕ → A → Part A
repeated step zero x end text = Ok (x, text)
repeated step (suc n) x end text = step x end text >>= λ y. repeated step n y.0 end y.1

-- All bytes are taken.
abbrev pub no_more : List ℕ → (end : ℕ) → Result (Unit {0}) ModuleError
no_more [] end = Ok tt
no_more (b ∷ bs) end = Err (fault_here end (b ∷ bs) fault.Trailing)

-- The part is this value, and nothing follows it.
abbrev pub whole_part : {A : Type 0} → Part A → (end : ℕ) → (text : List ℕ) → Result A ModuleError
whole_part part end text = part end text >>= λ x. no_more x.1 end >>= λ u. Ok x.0

-- the bytes that a value takes
abbrev pub extent : {A : Type 0} → Part A → Part (List ℕ)
extent part end text = part end text >>= λ x. Ok (take (length text - length x.1) text, x.1)

-- ---- numbers, bytes and names (binary format, values)

-- If the bytes end inside a number or a type, the fault is at the end of the part; any other is where the number or type begins.
abbrev pub item_fault : (end : ℕ) → (text : List ℕ) → ReadFault → ModuleError
item_fault end text unread.Truncated = record { fault = fault.Truncated; at = end }
item_fault end text f = fault_here end text (fault.Read f)

-- a number or a type
abbrev pub item : {A : Type 0} → Reader A → Part A
item read end text = with_fault (item_fault end text) (read text)

abbrev pub number : Part ℕ
number = item u32

abbrev pub one_byte : Part ℕ
one_byte end [] = Err (fault_here end [] fault.Truncated)
one_byte end (b ∷ bs) = Ok (b, bs)

-- this many bytes
abbrev pub piece : (size : ℕ) → Part (List ℕ)
piece size end text = if nat_le size (length text) then Ok (take size text, drop size text) else Err (fault_here end text fault.Truncated)

-- a vector of bytes: their number, and the bytes
abbrev pub bytes_part : Part (List ℕ)
bytes_part = number >=> piece

-- a vector: how many, and each one
abbrev pub vector_of : {A : Type 0} → Part A → Part (List A)
vector_of part = number >=> λ n. repeated (λ xs. part >=> λ x. just (xs ++ x ∷ [])) n []

-- ---- for results of the code

-- The result is this one, with its value as `view` has it, unless memory ran out.
abbrev pub GivesUnlessMemory : {A B : Type 0} → (A → B) → Result A ModuleError → Result B ModuleError → Type 0
GivesUnlessMemory view (Ok x) given = given ≡ Ok (view x)
GivesUnlessMemory view (Err e) given = (e.fault ≡ fault.Memory) ⊎ (given ≡ Err e)
