-- What checking the operators of a body shows.
use Rattle.std.specs.Prelude.{◌≡◌, ◌≢◌, ◌⊎◌, ℕ, List, [], ◌∷◌, ◌||◌, length, map, nat_lt, Bool, true, false, Option, Some, None, Result, Ok, Err}
use Rattle.walrus_ir.specs.declared.control.BlockKind.TheVariants as kind
use Rattle.walrus_ir.specs.Types.{ModuleType, signature_of, find_entry}
use Rattle.wasm_numbers.specs.Results.{◌>>=◌, some_or}
use Rattle.walrus_ir.specs.Unfolding.{among}
use Rattle.walrus_ir.specs.Locations.{default_location}
use Rattle.wasm_operators.specs.OperatorList.{Placed}
use Rattle.wasm_operators.specs.Operations.{RawOperation}
use Rattle.wasm_operators.specs.Meaning.{Listed, meaning}
use Rattle.wasm_operators.specs.Spelling.{read_operation}
use Rattle.wasm_ops.specs.Position.{Position, IsAfter}
use Rattle.wasm_body.specs.declared.error.ParseError.{ParseError}
use Rattle.wasm_body.specs.declared.error.ParseError.TheVariants.{Memory, PlaceTooGreat, Checked, NotAFunctionType, EntryTypeMissing}
use Rattle.wasm_body.specs.declared.error.ParseFailure.{ParseFailure}
use Rattle.wasm_body.specs.SourceTree.{Body}
use Rattle.wasm_body.specs.Naming.{Environment, Occurrence}
use Rattle.wasm_body.specs.Parsing.Accepted.{Setting, Accepted, FirstFault, mark}
use Rattle.wasm_body.specs.Parsing.Lists.{parsed_from}
use Rattle.wasm_body.specs.Parsing.Progress.{Whole, nothing_read, progress_after}
use Rattle.wasm_body.specs.Flat.{first_unreachability, locals_read}
use Rattle.walrus_from_operators.specs.OperatorKinds.{is_instruction}
use Rattle.walrus_validators.specs.Checking.{placed_at}
use Rattle.walrus_parser.specs.Settings.{operators_of}
use Rattle.walrus_flat.specs.declared.checker.Checker.{Checker}
use Rattle.walrus_flat.specs.declared.open_sequence.OpenSequence.{OpenSequence}
use Rattle.walrus_flat.specs.Checked.{marks, StepsChecker, StaysSame}
use Rattle.walrus_flat.specs.Checkers.{used_in}

-- whether places have a limit, which they have where there is no location function
abbrev pub HasLimit : Bool → Option (ℕ → ℕ) → Type 0
HasLimit true None = Unit {0}
HasLimit false (Some locate) = Unit {0}
HasLimit _ _ = ⊥

abbrev pub fits_limit : Bool → ℕ → Bool
fits_limit true place = nat_lt place default_location
fits_limit false place = true

-- the last place that is small enough
abbrev pub place_limit : Bool → ℕ
place_limit true = 0xffff_fffe
place_limit false = 0xffff_ffff_ffff_ffff

-- Nothing is read yet: the function's own sequence is open, and code isn't unreachable.
pub record BeginsBody (c : Checker) : Type 0 where
  pub entry : OpenSequence
  pub opens : c.«open».items ≡ entry ∷ []
  pub kind_is : entry.kind ≡ kind.FunctionEntry
  pub before : entry.before ≡ false
  pub unreachable : c.unreachable ≡ false

-- the setting of a body whose first operator is at this place
abbrev pub setting_at : {V : Type 0} → Environment → (start : ℕ) → (V → Placed → Result V ℕ) → V → Option (ℕ → ℕ) → Setting V
setting_at env start check first locations = record { environment = env; start = start; locations = locations; check = check; first = first }

abbrev pub parsed_here : {V : Type 0} → Setting V → List ℕ → Result (Body Occurrence) ParseFailure
parsed_here given bytes = parsed_from given (length bytes) nothing_read given.first given.start bytes

-- The operators are a body, and these locals were named in live code.
pub record ChecksBody {V : Type 0} (given : Setting V) (bytes : List ℕ) (old new : Checker) : Type 0 where
  pub operators : List Occurrence
  pub body : Body Occurrence
  pub is_parsed : parsed_here given bytes ≡ Ok body
  pub are_read : progress_after nothing_read (map mark operators) ≡ Whole body
  pub used : (x : ℕ) → used_in new x ≡ (among x (locals_read first_unreachability (marks operators)) || used_in old x)

-- This is so with each location function, or without one; or memory ran out, or this is the first fault.
abbrev pub ChecksOperators : {V : Type 0} → (Option (ℕ → ℕ) → Setting V) → Bool → List ℕ → Checker → Checker → Result (Unit {0}) ParseFailure → Type 0
ChecksOperators given limit bytes old new (Ok u) = (locations : Option (ℕ → ℕ)) → HasLimit limit locations → ChecksBody (given locations) bytes old new
ChecksOperators given limit bytes old new (Err f) = (f.error ≡ Memory) ⊎ ((locations : Option (ℕ → ℕ)) → HasLimit limit locations → parsed_here (given locations) bytes ≡ Err f)

-- Why an operator that was read isn't taken: its place is too great, or the validator refuses it.
abbrev pub RefusesTaking : {V : Type 0} → (V → Placed → Result V ℕ) → V → RawOperation → (limit : Bool) → (place : ℕ) → ParseError → Type 0
RefusesTaking check v o limit place e =
    (e ≡ Memory) ⊎ (((e ≡ PlaceTooGreat) × (fits_limit limit place ≡ false)) ⊎ ((n : ℕ) × (e ≡ Checked n) × (fits_limit limit place ≡ true) × (check v (placed_at o place) ≡ Err n)))

-- It has a place, and the validator accepts it.
pub record IsValidated {V : Type 0} (check : V → Placed → Result V ℕ) (v w : V) (o : RawOperation) (limit : Bool) (place : ℕ) : Type 0 where
  pub fits : fits_limit limit place ≡ true
  pub accepts : check v (placed_at o place) ≡ Ok w

-- An operator that was read is taken and passes; or memory ran out, or it isn't taken, or it is and breaks a rule first.
abbrev pub ChecksNext : {V : Type 0} → (V → Placed → Result V ℕ) → (v w : V) → (limit : Bool) → (place : ℕ) → Checker → Checker → RawOperation → Result (Unit {0}) ParseError → Type 0
ChecksNext check v w limit place old new o (Ok u) = IsValidated check v w o limit place × StepsChecker old new o (Ok tt)
ChecksNext check v w limit place old new o (Err e) = RefusesTaking check v o limit place e ⊎ (IsValidated check v w o limit place × StepsChecker old new o (Err e))

-- An operator by itself, or sequences are open after it.
abbrev pub StaysInside : Listed → Checker → Type 0
StaysInside x new = (is_instruction x ≡ true) ⊎ (new.«open».items ≢ [])

-- The next operator is a frequent one, which was taken at once; or it wasn't, and nothing changed but memory; or it isn't accepted.
abbrev pub ChecksNextAtOnce : {V : Type 0} → (V → Placed → Result V ℕ) → (v w : V) → (limit : Bool) → (place : ℕ) → Position → Position → Checker → Checker → Result Bool ParseError → Type 0
ChecksNextAtOnce check v w limit place from to old new (Ok true) =
    (x : Listed) × (read_operation from.rest ≡ Ok (meaning x, to.rest)) × IsAfter from to × ChecksNext check v w limit place old new (meaning x) (Ok tt) × StaysInside x new
ChecksNextAtOnce check v w limit place from to old new (Ok false) = (to ≡ from) × StaysSame old new × (w ≡ v)
ChecksNextAtOnce check v w limit place from to old new (Err e) = (x : Listed) × (rest : List ℕ) × (read_operation from.rest ≡ Ok (meaning x, rest)) × RefusesTaking check v (meaning x) limit place e

-- ---- with the function's own type

-- the entry type's id, in a module with these types
abbrev pub entry_in : List ModuleType → (type : ℕ) → Result ℕ ParseError
entry_in types type = some_or (signature_of types type) NotAFunctionType >>= λ s. some_or (find_entry types s.results) EntryTypeMissing

-- The bytes are accepted as a body, and these are the locals that are named in live code.
pub record AcceptsUsing {V : Type 0} (given : Setting V) (bytes : List ℕ) (used : ℕ → Bool) : Type 0 where
  pub body : Body Occurrence
  pub accepted : Accepted given bytes body
  pub used_is : (x : ℕ) → used x ≡ among x (locals_read first_unreachability (marks (operators_of body)))

-- This is so with each location function, or without one; or memory ran out, or this is the first fault.
abbrev pub ChecksAll : {V : Type 0} → (Option (ℕ → ℕ) → Setting V) → Bool → List ℕ → (ℕ → Bool) → Result (Unit {0}) ParseFailure → Type 0
ChecksAll given limit bytes used (Ok u) = (locations : Option (ℕ → ℕ)) → HasLimit limit locations → AcceptsUsing (given locations) bytes used
ChecksAll given limit bytes used (Err f) = (f.error ≡ Memory) ⊎ ((locations : Option (ℕ → ℕ)) → HasLimit limit locations → FirstFault (given locations) bytes f)
