-- What taking the next operator of a body does.
use Rattle.std.specs.Prelude.{◌≡◌, ◌⊎◌, ℕ, ◌-◌, List, [], ◌∷◌, ◌++◌, Option, IfSome, Result, Ok, Err}
use Rattle.std.specs.Borrow.{Bor}
use Rattle.std.specs.Fn.{Shared}
use Rattle.wasm_operators.specs.Operations.{RawOperation}
use Rattle.wasm_operators.specs.OperatorList.{Placed}
use Rattle.wasm_operators.specs.Spelling.{read_operation}
use Rattle.wasm_operators.specs.Meaning.{meaning}
use Rattle.wasm_ops.specs.CommonOperators.{common_listed}
use Rattle.wasm_ops.specs.Position.{Position, IsAfter}
use Rattle.wasm_ops.specs.declared.common.CommonOperator.{CommonOperator}
use Rattle.wasm_body.specs.declared.error.ParseError.{ParseError}
use Rattle.wasm_body.specs.declared.error.ParseError.TheVariants.{Memory}
use Rattle.wasm_body.specs.declared.error.ParseFailure.{ParseFailure}
use Rattle.walrus_parser.specs.declared.body_parser.BodyParser.{BodyParser}
use Rattle.walrus_parser.specs.declared.parse.Attempt.{Attempt}
use Rattle.walrus_parser.specs.declared.parse.Attempt.TheVariants.{Taken, Left}
use Rattle.walrus_parser.specs.BodyParsers.{ParsesStep, IsSameBody}
use Rattle.walrus_validators.specs.Locating.{Locates}
use Rattle.walrus_validators.specs.Admitting.{AdmitsAs, IsAdmitted}

-- An operator is taken: it is admitted, its place less the offset is added to the mapping with its location, and the parse advances.
pub record TakesNext {S F : Type 0} (g : Shared F (Bor ℕ × Unit {0}) ℕ) (on_instr_pos : Option (Bor F)) (check : S → Placed → Result S ℕ) (s t : S) (place offset : ℕ) (o : RawOperation) (old new : BodyParser) (before after : List (ℕ × ℕ)) : Type 0 where
  pub location : ℕ
  pub is_admitted : IsAdmitted on_instr_pos check s t place o
  pub is_located : Locates g on_instr_pos place location
  pub adds_pair : after ≡ before ++ (place - offset, location) ∷ []
  pub steps : ParsesStep old new o location (Ok tt)
  pub is_same : IsSameBody old.context new.context

-- An operator isn't taken: it isn't admitted, or it is and breaks a rule.
pub data RefusesNext {S F : Type 0} (on_instr_pos : Option (Bor F)) (check : S → Placed → Result S ℕ) (s : S) (place : ℕ) (o : RawOperation) (old : BodyParser) (e : ParseError) : Type 0 where
  not_admitted : AdmitsAs on_instr_pos check s place o (λ rest. Err e) → RefusesNext on_instr_pos check s place o old e
  breaks_rule : (t : S) (location : ℕ) (new : BodyParser) → IsAdmitted on_instr_pos check s t place o → ParsesStep old new o location (Err e) →
      RefusesNext on_instr_pos check s place o old e

-- The next operator is a common one, which was taken at once; or it wasn't, nothing changed, and its location is this if it was asked for; or
-- it isn't admitted.
abbrev pub ParsesAtOnce : {S F : Type 0} → Shared F (Bor ℕ × Unit {0}) ℕ → Option (Bor F) → (S → Placed → Result S ℕ) → (s t : S) → (place offset : ℕ) → Position → Position → BodyParser → BodyParser → (before after : List (ℕ × ℕ)) → Result Attempt ParseFailure → Type 0
ParsesAtOnce g on_instr_pos check s t place offset from to old new before after (Ok Taken) =
    (x : CommonOperator) × (read_operation from.rest ≡ Ok (meaning (common_listed x), to.rest)) × IsAfter from to × TakesNext g on_instr_pos check s t place offset (meaning (common_listed x)) old new before after
ParsesAtOnce g on_instr_pos check s t place offset from to old new before after (Ok (Left asked)) =
    (to ≡ from) × (new ≡ old) × (after ≡ before) × (t ≡ s) × IfSome asked (λ location. Locates g on_instr_pos place location)
ParsesAtOnce g on_instr_pos check s t place offset from to old new before after (Err f) =
    (f.at ≡ place) × ((f.error ≡ Memory) ⊎ ((x : CommonOperator) × (rest : List ℕ) × (read_operation from.rest ≡ Ok (meaning (common_listed x), rest)) × AdmitsAs on_instr_pos check s place (meaning (common_listed x)) (λ rest. Err f.error)))
