use Rattle.std.proofs.Common.{◌≡◌, ◌<◌, length, Ok, inl, inr, refl, ap, subst, ◌∙◌, arith, rules, length-append}
use Rattle.wasm_operators.proofs.ListLaws.{spelt_length}
use Rattle.wasm_context.specs.Validation.{BodyContext}
use Rattle.wasm_validator.specs.Steps.{setting_of, whole_state_of, inner_of, outer_of}
use Rattle.wasm_validation.specs.declared.error.ValidationError.TheVariants.{Trailing, MissingEnd}
use Rattle.wasm_validation.specs.declared.error.ValidationFailure.{ValidationFailure}
use Rattle.wasm_validation.specs.Taking.{TakesNextOperator}
use Rattle.wasm_validation.proofs.TakenFronts.{begins_so, goes_on, closes, stops, ended_frames, open_frames_are, fault_at_end, fault_after_function, fault_of_next, fault_here, some_left, none_left}
use Rattle.wasm_validation.proofs.code.take_all.Goals as goal

pub loop-reader-init : goal.loop-reader-init
loop-reader-init c =
    let begun = c.args.validator.now in
    (begins_so (setting_of begun) (whole_state_of begun) c.args.reader.now, refl, c.requires)

pub take_next-requires : goal.take_next-requires
take_next-requires c = c.loop-reader.invariant.2

pub loop-reader-preserved : goal.loop-reader-preserved
loop-reader-preserved c =
    let begun = c.args.validator.now in
    let v = c.loop-reader.validator in
    let w = c.take_next.new.validator in
    let at = c.loop-reader.reader in
    let next = c.take_next.new.reader in
    let so = c.loop-reader.invariant in (
      goes_on (setting_of begun) (whole_state_of begun) c.args.reader.now at (whole_state_of v) so.0 next (whole_state_of w)
          (subst (λ (b : BodyContext). TakesNextOperator b (whole_state_of v) (whole_state_of w) at next (Ok tt)) so.1 c.in-Ok.ensures.takes),
      c.in-Ok.ensures.setting ∙ so.1,
      c.in-Ok.ensures.well_formed,
    )

pub loop-reader-smaller : goal.loop-reader-smaller
loop-reader-smaller c =
    let at = c.loop-reader.reader in
    let next = c.take_next.new.reader in
    let taken = c.in-Ok.ensures.takes in
    let less : length next.rest < length at.rest = omega (arith, spelt_length taken.0 taken.1 taken.3, length-append taken.1 next.rest, ap length taken.2.parts) in less

pub returns-then-validator : goal.returns-then-validator
returns-then-validator c =
    let begun = c.args.validator.now in
    let v = c.loop-reader.validator in
    let s = whole_state_of v in
    let at = c.loop-reader.reader in
    let f = c.failure.result in
    let some : 0 < length at.rest = search rules in
    let here : f.at ≡ at.place = ap (λ (x : ValidationFailure). x.at) c.failure.ensures ∙ c.original_position-at.ensures in
    let error : f.error ≡ Trailing = ap (λ (x : ValidationFailure). x.error) c.failure.ensures in
    stops (setting_of begun) (whole_state_of begun) c.args.reader.now at s c.loop-reader.invariant.0 f here
    (fault_after_function (setting_of begun) s s.controls at.rest f.error (ended_frames v c.if-validator.true) some error)

pub returns-in-Err : goal.returns-in-Err
returns-in-Err c =
    let begun = c.args.validator.now in
    let v = c.loop-reader.validator in
    let s = whole_state_of v in
    let at = c.loop-reader.reader in
    let so = c.loop-reader.invariant in
    let f = c.failure-in-Err.result in
    let some : 0 < length at.rest = some_left at.rest c.loop-reader-test.ensures in
    let here : f.at ≡ at.place = ap (λ (x : ValidationFailure). x.at) c.failure-in-Err.ensures ∙ c.original_position-at.ensures in
    let error : f.error ≡ c.in-Err.error = ap (λ (x : ValidationFailure). x.error) c.failure-in-Err.ensures in
    elim c.in-Err.ensures.takes [
      | inl memory ↦ λ g of begins. inl (error ∙ memory)
      | inr fault ↦ stops (setting_of begun) (whole_state_of begun) c.args.reader.now at s so.0 f here
          (fault_of_next (setting_of begun) s s.controls at.rest f.error (inner_of v) (outer_of v) (open_frames_are v c.if-validator.false) some
          (fault_here (setting_of v) (setting_of begun) s at.rest c.in-Err.error f.error so.1 error fault))
    ]

pub returns-then-validator-2 : goal.returns-then-validator-2
returns-then-validator-2 c =
    let begun = c.args.validator.now in
    let v = c.loop-reader.validator in
    let at = c.loop-reader.reader in
    let last : length at.rest ≡ 0 = search rules in
    closes (setting_of begun) (whole_state_of begun) c.args.reader.now at (whole_state_of v) c.loop-reader.invariant.0 (none_left at.rest last) (ended_frames v c.if-validator-2.true)

pub returns-else-validator-2 : goal.returns-else-validator-2
returns-else-validator-2 c =
    let begun = c.args.validator.now in
    let v = c.loop-reader.validator in
    let s = whole_state_of v in
    let at = c.loop-reader.reader in
    let f = c.failure-else-validator-2.result in
    let last : length at.rest ≡ 0 = search rules in
    let here : f.at ≡ at.place = ap (λ (x : ValidationFailure). x.at) c.failure-else-validator-2.ensures ∙ c.original_position.ensures in
    let error : f.error ≡ MissingEnd = ap (λ (x : ValidationFailure). x.error) c.failure-else-validator-2.ensures in
    stops (setting_of begun) (whole_state_of begun) c.args.reader.now at s c.loop-reader.invariant.0 f here
    (fault_at_end (setting_of begun) s s.controls at.rest f.error (inner_of v) (outer_of v) (open_frames_are v c.if-validator-2.false) last error)
