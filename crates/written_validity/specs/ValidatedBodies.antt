-- A body that is accepted with the validation algorithm as its validator is valid code (WebAssembly core specification 3.0, appendix, validation
-- algorithm).
use Rattle.std.specs.Prelude.{◌≡◌, ℕ, List, Some}
use Rattle.wasm_body.specs.Naming.{Occurrence}
use Rattle.wasm_body.specs.Parsing.Accepted.{Setting, Accepted}
use Rattle.wasm_body.specs.SourceTree.{Body}
use Rattle.wasm_validation.specs.BodyChecks.{ReachedState, check_body}
use Rattle.wasm_validation.specs.BodyValidation.{BodySetting, begin_state, IsValidCode}
use Rattle.written_validity.specs.SharedModules.{SharesModule, HasIndices}

-- If a body is accepted with this validator, which begins in the state in which the body begins, its bytes are valid code: the last operator
-- also closes the function's frame.
abbrev pub AcceptedIsValid : Type 0
AcceptedIsValid =
    (given : Setting ReachedState) (source : List ℕ) (b : Body Occurrence) → Accepted given source b →
    (g : BodySetting) → SharesModule given.environment g.context → (index_of : ℕ → ℕ) → HasIndices given.environment index_of →
    given.check ≡ check_body → given.first ≡ Some (g.context, begin_state g) → IsValidCode g given.start source

-- Bytes that are valid code are, from whatever place on.
abbrev pub ValidAtEachPlace : Type 0
ValidAtEachPlace = (g : BodySetting) (place other : ℕ) (bytes : List ℕ) → IsValidCode g place bytes → IsValidCode g other bytes
