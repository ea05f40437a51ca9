-- Laws of accepted bodies and first faults: every input has exactly one of the two; the front before a first fault is the
-- longest that can be completed to a lawful body; and the location function makes no difference to what is accepted.
use Rattle.std.specs.Prelude.{◌≡◌, ℕ, ◌<◌, ◌⊎◌, List, ◌++◌, Some}
use Rattle.std.specs.List.{AllByRecursion}
use Rattle.wasm_body.specs.declared.error.ParseFailure.{ParseFailure}
use Rattle.wasm_body.specs.SourceTree.{Body}
use Rattle.wasm_body.specs.Naming.{Occurrence}
use Rattle.wasm_body.specs.FunctionTree.{IsSameTree}
use Rattle.wasm_body.specs.NormalForm.{body_tree}
use Rattle.wasm_body.specs.Parsing.Accepted.{Setting, IsFront, Accepted, IsCompletedBy, FaultAfterFront, FirstFault}

abbrev pub OneBodyAccepted : Type 0 → Type 0
OneBodyAccepted V = (given : Setting V) (bytes : List ℕ) (b c : Body Occurrence) → Accepted given bytes b → Accepted given bytes c → b ≡ c

abbrev pub AcceptedHasNoFault : Type 0 → Type 0
AcceptedHasNoFault V = (given : Setting V) (bytes : List ℕ) (b : Body Occurrence) (f : ParseFailure) → Accepted given bytes b → FirstFault given bytes f → ⊥

abbrev pub OneFirstFault : Type 0 → Type 0
OneFirstFault V = (given : Setting V) (bytes : List ℕ) (f g : ParseFailure) → FirstFault given bytes f → FirstFault given bytes g → f ≡ g

-- All bytes are accepted as a body, or have a first fault.
abbrev pub AcceptedOrFault : Type 0 → Type 0
AcceptedOrFault V =
    (given : Setting V) (bytes : List ℕ) → AllByRecursion (λ b. b < 256) bytes →
    ((b : Body Occurrence) × Accepted given bytes b) ⊎ ((f : ParseFailure) × FirstFault given bytes f)

-- Every front that can be completed to a lawful body is a front of the one before the first fault.
abbrev pub LongestFront : Type 0 → Type 0
LongestFront V =
    (given : Setting V) (bytes : List ℕ) (f : ParseFailure) (fault : FaultAfterFront given bytes f) →
    (xs : List Occurrence) (rest : List ℕ) (count : ℕ) → IsFront given xs bytes rest → IsCompletedBy given.environment xs count →
    (more : List Occurrence) × (fault.front ≡ xs ++ more)

-- A body that is accepted is accepted with every location function, as a body of the same tree, locations aside.
abbrev pub AnyLocations : Type 0 → Type 0
AnyLocations V =
    (given : Setting V) (bytes : List ℕ) (b : Body Occurrence) → Accepted given bytes b → (locate : ℕ → ℕ) →
    (c : Body Occurrence)
    × Accepted (record given { locations = Some locate }) bytes c
    × IsSameTree (body_tree given.environment c) (body_tree given.environment b)
