use Rattle.std.proofs.Common.{◌≡◌, ◌≢◌, ◌<◌, ◌+◌, length, List, [], ◌∷◌, inr, true, arith, rules, Ok, Err, refl, ap, sym, subst, ◌∙◌}
use Rattle.std.specs.Prelude.{IfOk}
use Rattle.std.proofs.lemmas.Result.{IfOk-at_ok}
use Rattle.wasm_operators.specs.Spelling.{read_operation}
use Rattle.wasm_operators.specs.Meaning.{meaning}
use Rattle.wasm_ops.specs.Position.{Position, IsAfter}
use Rattle.wasm_body.specs.declared.error.ParseError.TheVariants.{Trailing}
use Rattle.wasm_body.specs.Parsing.Lists.{failure}
use Rattle.walrus_flat.specs.CheckedBody.{IsValidated, ChecksNextAtOnce}
use Rattle.walrus_flat.proofs.CheckedLoop.{begins_loop, still, stays, completes, goes_past, breaks, goes_next}
use Rattle.walrus_flat.proofs.check_body.check_operators.Goals as goal

none_of : {A : Type 0} (xs : List A) → length xs ≡ 0 → xs ≡ []
none_of [] e = refl
none_of (x ∷ xs) e = absurd (omega (arith, e))

some_of : {A : Type 0} (xs : List A) → 0 < length xs → xs ≢ []
some_of [] h e = absurd (omega (arith, h))
some_of (x ∷ xs) h e = absurd (cc e)

pub loop-limit-init : goal.loop-limit-init
loop-limit-init g c =
    let a = c.args in
    begins_loop a.reader.now.place g.V.OpCheck.check (g.V.OpCheck.state a.validator) a.limit.has_limit a.reader.now.rest a.checker.now c.requires

-- ---- a common operator

pub loop-limit-preserved-in-Ok-true : goal.loop-limit-preserved-in-Ok-true
loop-limit-preserved-in-Ok-true g c =
    let a = c.args in
    let check = g.V.OpCheck.check in
    let v = g.V.OpCheck.state c.loop-limit.validator in
    let w = g.V.OpCheck.state c.check_at_once.new.validator in
    let now = c.loop-limit.reader in
    let next = c.check_at_once.new.reader in
    let new = c.check_at_once.new.checker in
    let t = subst (λ b. ChecksNextAtOnce check v w a.limit.has_limit c.original_position-at.result now next c.loop-limit.checker new (Ok b)) c.in-Ok-true.field-0-test c.in-Ok-true.ensures in
    goes_next a.reader.now.place check (g.V.OpCheck.state a.validator) a.limit.has_limit a.reader.now.rest a.checker.now c.loop-limit.checker new v w now next c.loop-limit.invariant
    (subst (λ p. ChecksNextAtOnce check v w a.limit.has_limit p now next c.loop-limit.checker new (Ok true)) c.original_position-at.ensures t)

-- ---- a frequent control operator

pub loop-limit-preserved-in-Ok-true-check_control : goal.loop-limit-preserved-in-Ok-true-check_control
loop-limit-preserved-in-Ok-true-check_control g c =
    let a = c.args in
    let check = g.V.OpCheck.check in
    let not = subst (λ b. ChecksNextAtOnce g.V.OpCheck.check (g.V.OpCheck.state c.loop-limit.validator) (g.V.OpCheck.state c.check_at_once.new.validator) a.limit.has_limit c.original_position-at.result c.loop-limit.reader c.check_at_once.new.reader c.loop-limit.checker c.check_at_once.new.checker (Ok b)) c.in-Ok-false.field-0-test c.in-Ok-false.ensures in
    let so = still a.reader.now.place g.V.OpCheck.check (g.V.OpCheck.state a.validator) a.limit.has_limit a.reader.now.rest a.checker.now c.loop-limit.checker c.check_at_once.new.checker (g.V.OpCheck.state c.loop-limit.validator) (g.V.OpCheck.state c.check_at_once.new.validator) c.loop-limit.reader.place c.loop-limit.reader.rest not.1 not.2 c.loop-limit.invariant in
    let v = g.V.OpCheck.state c.check_at_once.new.validator in
    let w = g.V.OpCheck.state c.check_control.new.validator in
    let now = c.loop-limit.reader in
    let next = c.check_control.new.reader in
    let old = c.check_at_once.new.checker in
    let new = c.check_control.new.checker in
    let t = subst (λ b. ChecksNextAtOnce check v w a.limit.has_limit c.original_position-at.result c.check_at_once.new.reader next old new (Ok b)) c.in-Ok-true-check_control.field-0-test c.in-Ok-true-check_control.ensures in
    goes_next a.reader.now.place check (g.V.OpCheck.state a.validator) a.limit.has_limit a.reader.now.rest a.checker.now old new v w now next so
    (subst (λ p. ChecksNextAtOnce check v w a.limit.has_limit p now next old new (Ok true)) c.original_position-at.ensures (subst (λ (r : Position). ChecksNextAtOnce check v w a.limit.has_limit c.original_position-at.result r next old new (Ok true)) not.0 t))

-- ---- any other

pub returns-in-Err-step : goal.returns-in-Err-step
returns-in-Err-step g c =
    let a = c.args in
    let not = subst (λ b. ChecksNextAtOnce g.V.OpCheck.check (g.V.OpCheck.state c.loop-limit.validator) (g.V.OpCheck.state c.check_at_once.new.validator) a.limit.has_limit c.original_position-at.result c.loop-limit.reader c.check_at_once.new.reader c.loop-limit.checker c.check_at_once.new.checker (Ok b)) c.in-Ok-false.field-0-test c.in-Ok-false.ensures in
    let not_control = subst (λ b. ChecksNextAtOnce g.V.OpCheck.check (g.V.OpCheck.state c.check_at_once.new.validator) (g.V.OpCheck.state c.check_control.new.validator) a.limit.has_limit c.original_position-at.result c.check_at_once.new.reader c.check_control.new.reader c.check_at_once.new.checker c.check_control.new.checker (Ok b)) c.in-Ok-false-check_control.field-0-test c.in-Ok-false-check_control.ensures in
    let same = not_control.0 ∙ not.0 in
    let so_common = still a.reader.now.place g.V.OpCheck.check (g.V.OpCheck.state a.validator) a.limit.has_limit a.reader.now.rest a.checker.now c.loop-limit.checker c.check_at_once.new.checker (g.V.OpCheck.state c.loop-limit.validator) (g.V.OpCheck.state c.check_at_once.new.validator) c.loop-limit.reader.place c.loop-limit.reader.rest not.1 not.2 c.loop-limit.invariant in
    let so = still a.reader.now.place g.V.OpCheck.check (g.V.OpCheck.state a.validator) a.limit.has_limit a.reader.now.rest a.checker.now c.check_at_once.new.checker c.check_control.new.checker (g.V.OpCheck.state c.check_at_once.new.validator) (g.V.OpCheck.state c.check_control.new.validator) c.loop-limit.reader.place c.loop-limit.reader.rest not_control.1 not_control.2 so_common in
    let check = g.V.OpCheck.check in
    let v0 = g.V.OpCheck.state a.validator in
    let v = g.V.OpCheck.state c.check_control.new.validator in
    let w = g.V.OpCheck.state c.accepts.new.validator in
    let now = c.loop-limit.reader in
    let next = c.read_other-read.new.self in
    let o = meaning c.in-Ok.operator in
    let read : read_operation now.rest ≡ Ok (o, next.rest) = IfOk-at_ok (λ x. read_operation now.rest ≡ Ok (meaning x, next.rest)) c.in-Ok.is (subst (λ (r : Position). IfOk c.read_other-read.result (λ x. read_operation r.rest ≡ Ok (meaning x, c.read_other-read.new.self.rest))) same c.read_other-read.ensures.is_read) in
    let taken : IsValidated check v w o a.limit.has_limit now.place = subst (λ p. IsValidated check v w o a.limit.has_limit p) c.original_position-at.ensures c.in-Ok-accepts.ensures.ok in
    let some : 0 < length now.rest = search rules in
    breaks a.reader.now.place check v0 a.limit.has_limit a.reader.now.rest a.checker.now c.check_control.new.checker c.step.new.self v w now.place next.place now.rest next.rest o so read taken c.in-Err-step.error some c.in-Err-step.ensures.step
    c.failure-in-Err-step.result (c.failure-in-Err-step.ensures ∙ ap (failure c.in-Err-step.error) c.original_position-at.ensures)

pub returns-then-not-eof : goal.returns-then-not-eof
returns-then-not-eof g c =
    let a = c.args in
    let not = subst (λ b. ChecksNextAtOnce g.V.OpCheck.check (g.V.OpCheck.state c.loop-limit.validator) (g.V.OpCheck.state c.check_at_once.new.validator) a.limit.has_limit c.original_position-at.result c.loop-limit.reader c.check_at_once.new.reader c.loop-limit.checker c.check_at_once.new.checker (Ok b)) c.in-Ok-false.field-0-test c.in-Ok-false.ensures in
    let not_control = subst (λ b. ChecksNextAtOnce g.V.OpCheck.check (g.V.OpCheck.state c.check_at_once.new.validator) (g.V.OpCheck.state c.check_control.new.validator) a.limit.has_limit c.original_position-at.result c.check_at_once.new.reader c.check_control.new.reader c.check_at_once.new.checker c.check_control.new.checker (Ok b)) c.in-Ok-false-check_control.field-0-test c.in-Ok-false-check_control.ensures in
    let same = not_control.0 ∙ not.0 in
    let so_common = still a.reader.now.place g.V.OpCheck.check (g.V.OpCheck.state a.validator) a.limit.has_limit a.reader.now.rest a.checker.now c.loop-limit.checker c.check_at_once.new.checker (g.V.OpCheck.state c.loop-limit.validator) (g.V.OpCheck.state c.check_at_once.new.validator) c.loop-limit.reader.place c.loop-limit.reader.rest not.1 not.2 c.loop-limit.invariant in
    let so = still a.reader.now.place g.V.OpCheck.check (g.V.OpCheck.state a.validator) a.limit.has_limit a.reader.now.rest a.checker.now c.check_at_once.new.checker c.check_control.new.checker (g.V.OpCheck.state c.check_at_once.new.validator) (g.V.OpCheck.state c.check_control.new.validator) c.loop-limit.reader.place c.loop-limit.reader.rest not_control.1 not_control.2 so_common in
    let check = g.V.OpCheck.check in
    let v0 = g.V.OpCheck.state a.validator in
    let v = g.V.OpCheck.state c.check_control.new.validator in
    let w = g.V.OpCheck.state c.accepts.new.validator in
    let now = c.loop-limit.reader in
    let next = c.read_other-read.new.self in
    let o = meaning c.in-Ok.operator in
    let read : read_operation now.rest ≡ Ok (o, next.rest) = IfOk-at_ok (λ x. read_operation now.rest ≡ Ok (meaning x, next.rest)) c.in-Ok.is (subst (λ (r : Position). IfOk c.read_other-read.result (λ x. read_operation r.rest ≡ Ok (meaning x, c.read_other-read.new.self.rest))) same c.read_other-read.ensures.is_read) in
    let taken : IsValidated check v w o a.limit.has_limit now.place = subst (λ p. IsValidated check v w o a.limit.has_limit p) c.original_position-at.ensures c.in-Ok-accepts.ensures.ok in
    let Moves : Type 0 = (next.place + length next.rest ≡ now.place + length now.rest) × (length next.rest < length now.rest) in
    let moves : Moves = IfOk-at_ok (λ _. Moves) c.in-Ok.is (subst (λ (r : Position). IfOk c.read_other-read.result (λ _. IsAfter r c.read_other-read.new.self)) same c.read_other-read.ensures.moves) in
    let empty : length c.step.new.self.«open».items ≡ 0 = search rules in
    let more : 0 < length next.rest = search rules in
    inr (λ locations h.
    goes_past a.reader.now.place check v0 a.limit.has_limit a.reader.now.rest a.checker.now c.check_control.new.checker c.step.new.self v w now.place next.place now.rest next.rest o so read taken c.in-Ok-step.ensures.step moves.0 moves.1 (none_of c.step.new.self.«open».items empty) more locations h
    ∙ ap Err (sym (c.failure-then-not-eof.ensures ∙ ap (failure Trailing) c.original_position.ensures)))

pub returns-then-is_empty : goal.returns-then-is_empty
returns-then-is_empty g c = λ locations h.
    let a = c.args in
    let not = subst (λ b. ChecksNextAtOnce g.V.OpCheck.check (g.V.OpCheck.state c.loop-limit.validator) (g.V.OpCheck.state c.check_at_once.new.validator) a.limit.has_limit c.original_position-at.result c.loop-limit.reader c.check_at_once.new.reader c.loop-limit.checker c.check_at_once.new.checker (Ok b)) c.in-Ok-false.field-0-test c.in-Ok-false.ensures in
    let not_control = subst (λ b. ChecksNextAtOnce g.V.OpCheck.check (g.V.OpCheck.state c.check_at_once.new.validator) (g.V.OpCheck.state c.check_control.new.validator) a.limit.has_limit c.original_position-at.result c.check_at_once.new.reader c.check_control.new.reader c.check_at_once.new.checker c.check_control.new.checker (Ok b)) c.in-Ok-false-check_control.field-0-test c.in-Ok-false-check_control.ensures in
    let same = not_control.0 ∙ not.0 in
    let so_common = still a.reader.now.place g.V.OpCheck.check (g.V.OpCheck.state a.validator) a.limit.has_limit a.reader.now.rest a.checker.now c.loop-limit.checker c.check_at_once.new.checker (g.V.OpCheck.state c.loop-limit.validator) (g.V.OpCheck.state c.check_at_once.new.validator) c.loop-limit.reader.place c.loop-limit.reader.rest not.1 not.2 c.loop-limit.invariant in
    let so = still a.reader.now.place g.V.OpCheck.check (g.V.OpCheck.state a.validator) a.limit.has_limit a.reader.now.rest a.checker.now c.check_at_once.new.checker c.check_control.new.checker (g.V.OpCheck.state c.check_at_once.new.validator) (g.V.OpCheck.state c.check_control.new.validator) c.loop-limit.reader.place c.loop-limit.reader.rest not_control.1 not_control.2 so_common in
    let check = g.V.OpCheck.check in
    let v0 = g.V.OpCheck.state a.validator in
    let v = g.V.OpCheck.state c.check_control.new.validator in
    let w = g.V.OpCheck.state c.accepts.new.validator in
    let now = c.loop-limit.reader in
    let next = c.read_other-read.new.self in
    let o = meaning c.in-Ok.operator in
    let read : read_operation now.rest ≡ Ok (o, next.rest) = IfOk-at_ok (λ x. read_operation now.rest ≡ Ok (meaning x, next.rest)) c.in-Ok.is (subst (λ (r : Position). IfOk c.read_other-read.result (λ x. read_operation r.rest ≡ Ok (meaning x, c.read_other-read.new.self.rest))) same c.read_other-read.ensures.is_read) in
    let taken : IsValidated check v w o a.limit.has_limit now.place = subst (λ p. IsValidated check v w o a.limit.has_limit p) c.original_position-at.ensures c.in-Ok-accepts.ensures.ok in
    let Moves : Type 0 = (next.place + length next.rest ≡ now.place + length now.rest) × (length next.rest < length now.rest) in
    let moves : Moves = IfOk-at_ok (λ _. Moves) c.in-Ok.is (subst (λ (r : Position). IfOk c.read_other-read.result (λ _. IsAfter r c.read_other-read.new.self)) same c.read_other-read.ensures.moves) in
    let empty : length c.step.new.self.«open».items ≡ 0 = search rules in
    let last : length next.rest ≡ 0 = search rules in
    completes a.reader.now.place check v0 a.limit.has_limit a.reader.now.rest a.checker.now c.check_control.new.checker c.step.new.self v w now.place next.place now.rest next.rest o so read taken c.in-Ok-step.ensures.step moves.0 moves.1 (none_of c.step.new.self.«open».items empty) last locations h

pub loop-limit-preserved : goal.loop-limit-preserved
loop-limit-preserved g c =
    let a = c.args in
    let not = subst (λ b. ChecksNextAtOnce g.V.OpCheck.check (g.V.OpCheck.state c.loop-limit.validator) (g.V.OpCheck.state c.check_at_once.new.validator) a.limit.has_limit c.original_position-at.result c.loop-limit.reader c.check_at_once.new.reader c.loop-limit.checker c.check_at_once.new.checker (Ok b)) c.in-Ok-false.field-0-test c.in-Ok-false.ensures in
    let not_control = subst (λ b. ChecksNextAtOnce g.V.OpCheck.check (g.V.OpCheck.state c.check_at_once.new.validator) (g.V.OpCheck.state c.check_control.new.validator) a.limit.has_limit c.original_position-at.result c.check_at_once.new.reader c.check_control.new.reader c.check_at_once.new.checker c.check_control.new.checker (Ok b)) c.in-Ok-false-check_control.field-0-test c.in-Ok-false-check_control.ensures in
    let same = not_control.0 ∙ not.0 in
    let so_common = still a.reader.now.place g.V.OpCheck.check (g.V.OpCheck.state a.validator) a.limit.has_limit a.reader.now.rest a.checker.now c.loop-limit.checker c.check_at_once.new.checker (g.V.OpCheck.state c.loop-limit.validator) (g.V.OpCheck.state c.check_at_once.new.validator) c.loop-limit.reader.place c.loop-limit.reader.rest not.1 not.2 c.loop-limit.invariant in
    let so = still a.reader.now.place g.V.OpCheck.check (g.V.OpCheck.state a.validator) a.limit.has_limit a.reader.now.rest a.checker.now c.check_at_once.new.checker c.check_control.new.checker (g.V.OpCheck.state c.check_at_once.new.validator) (g.V.OpCheck.state c.check_control.new.validator) c.loop-limit.reader.place c.loop-limit.reader.rest not_control.1 not_control.2 so_common in
    let check = g.V.OpCheck.check in
    let v0 = g.V.OpCheck.state a.validator in
    let v = g.V.OpCheck.state c.check_control.new.validator in
    let w = g.V.OpCheck.state c.accepts.new.validator in
    let now = c.loop-limit.reader in
    let next = c.read_other-read.new.self in
    let o = meaning c.in-Ok.operator in
    let read : read_operation now.rest ≡ Ok (o, next.rest) = IfOk-at_ok (λ x. read_operation now.rest ≡ Ok (meaning x, next.rest)) c.in-Ok.is (subst (λ (r : Position). IfOk c.read_other-read.result (λ x. read_operation r.rest ≡ Ok (meaning x, c.read_other-read.new.self.rest))) same c.read_other-read.ensures.is_read) in
    let taken : IsValidated check v w o a.limit.has_limit now.place = subst (λ p. IsValidated check v w o a.limit.has_limit p) c.original_position-at.ensures c.in-Ok-accepts.ensures.ok in
    let Moves : Type 0 = (next.place + length next.rest ≡ now.place + length now.rest) × (length next.rest < length now.rest) in
    let moves : Moves = IfOk-at_ok (λ _. Moves) c.in-Ok.is (subst (λ (r : Position). IfOk c.read_other-read.result (λ _. IsAfter r c.read_other-read.new.self)) same c.read_other-read.ensures.moves) in
    let some : 0 < length c.step.new.self.«open».items = search rules in
    stays a.reader.now.place check v0 a.limit.has_limit a.reader.now.rest a.checker.now c.check_control.new.checker c.step.new.self v w now.place next.place now.rest next.rest o so read taken c.in-Ok-step.ensures.step moves.0 moves.1 c.in-Ok-step.ensures.env (some_of c.step.new.self.«open».items some)
