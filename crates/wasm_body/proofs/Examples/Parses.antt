-- Bodies as bytes: accepted bodies, first faults, and the locations of operators.
use Rattle.std.specs.Prelude.{◌≡◌, ℕ, suc, ◌+◌, ◌==◌, if◌then◌else◌, List, [], ◌∷◌, map, Option, Some, None, Result, Ok, Err, refl}
use Rattle.wasm_numbers.specs.declared.fault.ReadFault.TheVariants.{Truncated, UnknownOperator}
use Rattle.wasm_numbers.specs.Numbers.{integer}
use Rattle.wasm_operators.specs.Opcodes.{kinds_of_byte, opcode}
use Rattle.wasm_operators.specs.Spelling.{read_operation}
use Rattle.wasm_body.specs.declared.error.ParseError.TheVariants.{Read, PlaceTooGreat, Checked, NoSuchLabel, EntryTypeMissing, Trailing, MissingEnd}
use Rattle.wasm_body.specs.declared.error.ParseFailure.{ParseFailure}
use Rattle.wasm_numbers.specs.Results.{◌>>=◌}
use Rattle.wasm_body.specs.SourceTree.{body_text}
use Rattle.wasm_body.specs.Naming.{Environment}
use Rattle.wasm_body.specs.Parsing.Accepted.{Setting}
use Rattle.wasm_body.specs.Parsing.Lists.{failure, parsed}
use Rattle.wasm_body.proofs.Examples.Modules.{demo}

-- over the module of the worked rows, from a place on; the validator refuses with 7 the operator after this many
abbrev setting_by : Environment → (accepted start : ℕ) → Option (ℕ → ℕ) → Setting ℕ
setting_by env accepted start locations = record {
  environment = env;
  start = start;
  locations = locations;
  check = λ n x. if n == accepted then Err 7 else Ok (suc n);
  first = 0;
}

abbrev pub setting_from : (start : ℕ) → Option (ℕ → ℕ) → Setting ℕ
setting_from start locations = setting_by demo 100 start locations

-- the locations of the operators of an accepted body, or the first fault and its place
abbrev locations : Setting ℕ → List ℕ → Result (List ℕ) ParseFailure
locations given bytes = parsed given bytes >>= λ b. Ok (map (λ x. x.shown.location) (body_text b))

-- ---- locations

-- the place is the location
places : locations (setting_from 101 None) (0x01 ∷ 0x0b ∷ []) ≡ Ok (101 ∷ 102 ∷ [])
unfolding read_operation opcode kinds_of_byte
places = refl

-- but for a location function
with_locations : locations (setting_from 101 (Some (λ p. p + 7))) (0x01 ∷ 0x0b ∷ []) ≡ Ok (108 ∷ 109 ∷ [])
unfolding read_operation opcode kinds_of_byte
with_locations = refl

-- from 4294967295 on a place is no location
last_place : locations (setting_from 4294967294 None) (0x0b ∷ []) ≡ Ok (4294967294 ∷ [])
unfolding read_operation opcode kinds_of_byte
last_place = refl

place_too_great : locations (setting_from 4294967294 None) (0x01 ∷ 0x0b ∷ []) ≡ Err (failure PlaceTooGreat 4294967295)
unfolding read_operation opcode kinds_of_byte
place_too_great = refl

-- but for a location function
any_place : locations (setting_from 4294967294 (Some (λ p. 5))) (0x01 ∷ 0x0b ∷ []) ≡ Ok (5 ∷ 5 ∷ [])
unfolding read_operation opcode kinds_of_byte
any_place = refl

-- ---- first faults

nothing_there : locations (setting_from 0 None) [] ≡ Err (failure MissingEnd 0)
nothing_there = refl

missing_end : locations (setting_from 0 None) (0x02 ∷ 0x40 ∷ 0x0b ∷ []) ≡ Err (failure MissingEnd 3)
unfolding read_operation opcode kinds_of_byte
missing_end = refl

trailing : locations (setting_from 0 None) (0x0b ∷ 0x0b ∷ []) ≡ Err (failure Trailing 1)
unfolding read_operation opcode kinds_of_byte
trailing = refl

-- 0f 0c 05 0b
no_such_label : locations (setting_from 0 None) (0x0f ∷ 0x0c ∷ 0x05 ∷ 0x0b ∷ []) ≡ Err (failure NoSuchLabel 1)
unfolding read_operation opcode kinds_of_byte integer
no_such_label = refl

-- 0f 41: a byte is missing
truncated : locations (setting_from 0 None) (0x0f ∷ 0x41 ∷ []) ≡ Err (failure (Read (record { fault = Truncated; at = 1 })) 1)
unfolding read_operation opcode kinds_of_byte integer
truncated = refl

-- 01 01 01 0b and 01 01 ff, with a validator that refuses the third operator: the read comes first
third_refused : locations (setting_by demo 2 0 None) (0x01 ∷ 0x01 ∷ 0x01 ∷ 0x0b ∷ []) ≡ Err (failure (Checked 7) 2)
unfolding read_operation opcode kinds_of_byte
third_refused = refl

read_before_check : locations (setting_by demo 2 0 None) (0x01 ∷ 0x01 ∷ 0xff ∷ []) ≡ Err (failure (Read (record { fault = UnknownOperator; at = 2 })) 2)
unfolding read_operation opcode kinds_of_byte
read_before_check = refl

-- the place comes before the validator, and the validator before the rules
place_before_check : locations (setting_by demo 0 4294967295 None) (0x0b ∷ []) ≡ Err (failure PlaceTooGreat 4294967295)
unfolding read_operation opcode kinds_of_byte
place_before_check = refl

check_before_rules : locations (setting_by demo 0 0 None) (0x0c ∷ 0x05 ∷ 0x0b ∷ []) ≡ Err (failure (Checked 7) 0)
unfolding read_operation opcode kinds_of_byte integer
check_before_rules = refl

-- the function's own type comes first, at the place of the first operator
entry_before_all : locations (setting_by (record demo { type = 2 }) 0 101 None) (0xff ∷ []) ≡ Err (failure EntryTypeMissing 101)
entry_before_all = refl
