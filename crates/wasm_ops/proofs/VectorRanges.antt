-- Reading after 0xfd and a number in a range of the vector table, where each number in the range has an operator.
use Rattle.std.proofs.Common.{◌≡◌, ℕ, ◌+◌, ◌<◌, ◌≤◌, List, [], ◌∷◌, ◌++◌, take, drop, Bool, true, false, Option, Some, None, Ok, Err, refl, sym, ap, ◌∙◌, arith}
use Rattle.std.proofs.lemmas.Bool.{le-leb, lt-leb, ltb-true}
use Rattle.std.specs.Prelude.{◌&&◌, nat_le, nat_lt, if◌then◌else◌}
use Rattle.wasm_operators.specs.declared.types.Opcode.{Opcode}
use Rattle.wasm_operators.specs.declared.types.Opcode.TheVariants.{Prefixed}
use Rattle.wasm_numbers.specs.declared.fault.ReadFault.{ReadFault}
use Rattle.wasm_operators.specs.Immediates.{Kind, a_lane}
use Rattle.wasm_numbers.specs.Numbers.{byte}
use Rattle.wasm_operators.specs.Opcodes.{range_at, vector_ranges, kinds_after}
use Rattle.wasm_operators.specs.Operations.{RawOperation, operation, lane}
use Rattle.wasm_operators.specs.Spelling.{operands}
use Rattle.wasm_operators.proofs.SameLists.{both}

-- whether all ranges end below a number
abbrev pub all_below : {V : Type 0} → ℕ → List (ℕ × V) → Bool
all_below low [] = true
all_below low (row ∷ rows) = nat_lt row.0 low && all_below low rows

-- A number that is after the ranges `before`, and not after the next range, has the value of that range.
range_in : {V : Type 0} (before following : List (ℕ × Option V)) (v : Option V) (low high n : ℕ) → all_below low before ≡ true → low ≤ n → n ≤ high
    → range_at (before ++ ((high, v) ∷ following)) n ≡ v
range_in [] following v low high n below from to =
    let e : nat_le n high ≡ true = le-leb n high to in
    rw e refl
range_in (row ∷ rows) following v low high n below from to =
    let p = both (nat_lt row.0 low) (all_below low rows) below in
    let above : row.0 < low = ltb-true row.0 low p.0 in
    let e : nat_le n row.0 ≡ false = lt-leb n row.0 (omega arith) in
    rw e (range_in rows following v low high n p.1 from to)

-- The range at this position in the table has these kinds of immediates.
vector_kinds : (place : ℕ) (kinds : List Kind) (low high n : ℕ)
    → take place vector_ranges ++ ((high, Some kinds) ∷ drop (place + 1) vector_ranges) ≡ vector_ranges
    → all_below low (take place vector_ranges) ≡ true → low ≤ n → n ≤ high → kinds_after 0xfd n ≡ Some kinds
unfolding kinds_after
vector_kinds place kinds low high n whole below from to =
    ap (λ (rows : List (ℕ × Option (List Kind))). range_at rows n) (sym whole)
    ∙ range_in (take place vector_ranges) (drop (place + 1) vector_ranges) (Some kinds) low high n below from to

-- An operator without immediates is read.
pub plain_vector : (place low high n : ℕ) (o : RawOperation) (bytes : List ℕ)
    → take place vector_ranges ++ ((high, Some []) ∷ drop (place + 1) vector_ranges) ≡ vector_ranges
    → all_below low (take place vector_ranges) ≡ true → low ≤ n → n ≤ high → o ≡ operation (Prefixed 0xfd n) []
    → operands (Prefixed 0xfd n) bytes ≡ Ok (o, bytes)
plain_vector place low high n o bytes whole below from to means =
    rw (vector_kinds place [] low high n whole below from to) (ap (λ (m : RawOperation). Ok (m, bytes)) (sym means))

-- An operator with a lane is read, or its lane is missing.
pub lane_read : (n : ℕ) (o : RawOperation) (bytes rest : List ℕ) (number : ℕ) → 21 ≤ n → n ≤ 34 → byte bytes ≡ Ok (number, rest)
    → o ≡ operation (Prefixed 0xfd n) (lane number ∷ []) → operands (Prefixed 0xfd n) bytes ≡ Ok (o, rest)
lane_read n o bytes rest number from to read means =
    rw (vector_kinds 4 (a_lane ∷ []) 21 34 n refl refl from to, read) (ap (λ (m : RawOperation). Ok (m, rest)) (sym means))

pub lane_missing : (n : ℕ) (bytes : List ℕ) (fault : ReadFault) → 21 ≤ n → n ≤ 34 → byte bytes ≡ Err fault → operands (Prefixed 0xfd n) bytes ≡ Err fault
lane_missing n bytes fault from to read = rw (vector_kinds 4 (a_lane ∷ []) 21 34 n refl refl from to, read)
