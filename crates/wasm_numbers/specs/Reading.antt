-- Encodings one after the other, and reading them from left to right: the first part that can't be read decides the fault. A
-- encoding is a relation between a value and the bytes that encode it. Reading is a function from bytes to the value that they
-- begin with and the bytes that follow its encoding. Each pair of definitions below is one way to combine encodings and their
-- readings.
use Rattle.std.specs.Prelude.{◌≡◌, ℕ, zero, suc, List, [], ◌∷◌, ◌++◌, Bool, true, false, if◌then◌else◌, ◌⊎◌, Result, Ok}
use Rattle.wasm_numbers.specs.Results.{◌>>=◌}
use Rattle.wasm_numbers.specs.declared.fault.ReadFault.{ReadFault}

-- the bytes that encode a value
abbrev pub Spelling : Type 0 → Type 1
Spelling A = A → List ℕ → Type 0

-- the value at the front and the bytes that follow it, or the fault if there is none
abbrev pub Reader : Type 0 → Type 0
Reader A = List ℕ → Result (A × List ℕ) ReadFault

-- ---- one after the other; the second may depend on the value of the first

abbrev pub Then : {A B : Type 0} → Spelling A → (A → Spelling B) → Spelling (A × B)
Then First Second v text = (first second : List ℕ) × (text ≡ first ++ second) × First v.0 first × Second v.0 v.1 second

abbrev pub then_read : {A B : Type 0} → Reader A → (A → Reader B) → Reader (A × B)
then_read first second bytes = first bytes >>= λ x. second x.0 x.1 >>= λ y. Ok ((x.0, y.0), y.1)

-- ---- the value that is encoded is turned into another value, or is refused

abbrev pub Made : {A B : Type 0} → Spelling A → (A → Result B ReadFault) → Spelling B
Made {A} Raw make v text = (raw : A) × (make raw ≡ Ok v) × Raw raw text

abbrev pub made : {A B : Type 0} → Reader A → (A → Result B ReadFault) → Reader B
made raw make bytes = raw bytes >>= λ x. make x.0 >>= λ v. Ok (v, x.1)

-- ---- a number of them, one after the other

abbrev pub Many : {A : Type 0} → Spelling A → ℕ → Spelling (List A)
Many One zero [] text = text ≡ []
Many One zero (v ∷ vs) text = ⊥
Many One (suc n) [] text = ⊥
Many One (suc n) (v ∷ vs) text = (first others : List ℕ) × (text ≡ first ++ others) × One v first × Many One n vs others

unfoldable pub many : {A : Type 0} → Reader A → ℕ → Reader (List A)
many one zero bytes = Ok ([], bytes)
many one (suc n) bytes = one bytes >>= λ first. many one n first.1 >>= λ others. Ok (first.0 ∷ others.0, others.1)

-- ---- the first byte decides between two

abbrev pub starts : (ℕ → Bool) → List ℕ → Bool
starts test [] = false
starts test (b ∷ bytes) = test b

abbrev pub Switch : {A : Type 0} → (ℕ → Bool) → Spelling A → Spelling A → Spelling A
Switch test Passing Others v text = ((starts test text ≡ true) × Passing v text) ⊎ ((starts test text ≡ false) × Others v text)

abbrev pub switch : {A : Type 0} → (ℕ → Bool) → Reader A → Reader A → Reader A
switch test passing others bytes = if starts test bytes then passing bytes else others bytes
