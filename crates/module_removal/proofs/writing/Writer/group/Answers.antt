use Rattle.std.proofs.Common.{ℕ, Bool, inl, inr, subst}
use Rattle.wasm_operators.specs.declared.types.Space.TheVariants.{Types}
use Rattle.wasm_sections.specs.declared.fault.ModuleError.{ModuleError}
use Rattle.item_sets.specs.ItemsLeft.{is_left}
use Rattle.module_removal.specs.LeftSpaces.{marks_of}
use Rattle.module_removal.specs.Refusals.{StopsAfter, StopsAtType, StopsAtGroup}
use Rattle.module_removal.specs.Written.{is_group_left, BeginsGroupIf, WritesType}
use Rattle.module_removal.proofs.RefusalLemmas.{if_err_then}
use Rattle.module_removal.proofs.WritingLemmas.{writes_group}
use Rattle.module_removal.proofs.writing.Writer.group.Goals as goal

pub returns-clause-is : goal.returns-clause-is
returns-clause-is c =
    writes_group c.args.input.now.end c.group_members.new.input.end c.args.input.now.rest.now c.group_members.new.input.rest.now c.members.new.input.rest.now
    c.in-Ok.value.0 c.in-Ok.value.1 c.args.self.now c.begin_if_left.new.self c.members.new.self c.members.result c.in-Ok.ensures.count c.in-Ok.ensures.mark
    c.in-Ok-begin_if_left.ensures.is c.in-Ok.ensures.same_end c.members.ensures.is

pub returns-in-Err-clause-err : goal.returns-in-Err-clause-err
returns-in-Err-clause-err c = inl (inr c.in-Err.ensures.err)

pub returns-clause-err : goal.returns-clause-err
returns-clause-err c =
    let old = c.args.self.now in
    let text = c.args.input.now.rest.now in
    let members = c.in-Ok.value.0 in
    let begun = c.begin_if_left.new.self in
    let Stops : ℕ → ModuleError → Type 0 = λ n. StopsAfter (WritesType n) (StopsAtType n) members (begun, c.group_members.new.input.rest.now) in
    if_err_then (Stops c.group_members.new.input.end) (StopsAtGroup c.args.input.now.end (old, text)) c.members.result c.members.ensures.err
    (λ e s.
    inr (
      members,
      c.group_members.new.input.rest.now,
      c.in-Ok.ensures.count,
      begun,
      subst (λ (b : Bool). BeginsGroupIf (is_group_left members (is_left (marks_of old.remainder.now.left Types) old.next.types)) b members old begun) c.in-Ok.ensures.mark
          c.in-Ok-begin_if_left.ensures.is,
      subst (λ (n : ℕ). Stops n e) c.in-Ok.ensures.same_end s,
    ))
