-- The laws of encodings.
use Rattle.std.specs.Prelude.{◌≡◌, ◌<◌, ℕ, ◌+◌, ◌⊎◌, List, ◌++◌, length, Ok}
use Rattle.std.specs.List.{AllByRecursion}
use Rattle.wasm_operators.specs.Operations.{RawOperation}
use Rattle.wasm_numbers.specs.Reading.{Spelling}
use Rattle.wasm_operators.specs.Spelling.{Spells, read_operation}
use Rattle.wasm_operators.specs.OperatorList.{Placed, Lists}
use Rattle.wasm_operators.specs.Shortest.{IsLeast}

-- numbers that are bytes
abbrev pub AreBytes : List ℕ → Type 0
AreBytes bytes = AllByRecursion (λ b. b < 256) bytes

-- An operator that is encoded at the front is read there, whatever follows. An operator that is read at the front of some bytes
-- is encoded by the bytes that are taken, and the rest are bytes too.
pub record ReadingAgrees : Type 0 where
  pub again : (o : RawOperation) (text rest : List ℕ) → Spells o text → read_operation (text ++ rest) ≡ Ok (o, rest)
  pub takes : (bytes : List ℕ) (o : RawOperation) (rest : List ℕ) → AreBytes bytes → read_operation bytes ≡ Ok (o, rest) → (text : List ℕ) × (bytes ≡ text ++ rest) × Spells o text × AreBytes rest

-- No encoding is a prefix of another, and none encodes two values.
abbrev pub OneSpelling : {V : Type 0} → Spelling V → Type 0
OneSpelling {V} Spells =
    (v w : V) (text other following follows : List ℕ) → Spells v text → Spells w other → text ++ following ≡ other ++ follows
    → (v ≡ w) × (text ≡ other)

-- If a value has an encoding, this is one of its encodings, and every other is longer.
abbrev pub IsShortest : {V : Type 0} → (V → List ℕ) → Spelling V → Type 0
IsShortest {V} short Spells = (v : V) (text : List ℕ) → Spells v text → Spells v (short v) × IsLeast (short v) text

-- The second list of operators continues where the first ends: with operators that are encoded after the bytes of the first.
pub record Continues (first second : List Placed) (place : ℕ) (bytes rest others : List ℕ) : Type 0 where
  pub more : List Placed
  pub longer : second ≡ first ++ more
  pub front : List ℕ
  pub parts : bytes ≡ front ++ rest
  pub following : Lists more (place + length front) rest others

-- Two lists of operators that the same bytes encode agree up to the end of the shorter one: the other continues where it ends.
abbrev pub ListsAgree : Type 0
ListsAgree =
    (xs ys : List Placed) (place : ℕ) (bytes rest others : List ℕ) → Lists xs place bytes rest → Lists ys place bytes others
    → Continues xs ys place bytes rest others ⊎ Continues ys xs place bytes others rest

-- So the bytes before a given rest encode at most one list of operators.
abbrev pub OneList : Type 0
OneList =
    (xs ys : List Placed) (place : ℕ) (bytes rest : List ℕ) → Lists xs place bytes rest → Lists ys place bytes rest → xs ≡ ys
