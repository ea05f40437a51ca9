use Rattle.std.proofs.Common.{refl, sym, ap, ◌∙◌}
use Rattle.module_removal.specs.declared.writing.Writer.{Writer}
use Rattle.wasm_operators.specs.declared.types.Space.TheVariants.{Types}
use Rattle.module_removal.specs.CopiedItems.{copied_subtype}
use Rattle.module_removal.specs.LeftSpaces.{index_written}
use Rattle.module_removal.specs.Refusals.{StopsAtType}
use Rattle.module_removal.proofs.RefusalLemmas.{copy_fails, stops_left, stops_passed}
use Rattle.module_removal.proofs.WritingLemmas.{writes_left_type, writes_no_type}
use Rattle.module_removal.proofs.writing.Writer.member.Goals as goal

pub returns-then-is_next_left-clause-is : goal.returns-then-is_next_left-clause-is
returns-then-is_next_left-clause-is c =
    let counted = c.is_next_left.new.self in
    let new : Writer = record counted { kept = c.subtype.new.self; items = c.extend_from_slice.new.self } in
    writes_left_type c.args.input.now.end c.args.input.now.rest.now c.subtype.new.input.rest.now c.deref.result.now c.args.self.now counted new c.clear.new.self
    c.subtype.new.self c.is_next_left.ensures.same (sym c.if-is_next_left.true ∙ c.is_next_left.ensures.is) c.clear.ensures.left c.clear.ensures.out
    c.in-Ok.ensures.is c.deref.ensures.value c.in_ok-extend_from_slice.ensures.items refl

pub returns-clause-is : goal.returns-clause-is
returns-clause-is c =
    let counted = c.is_next_left.new.self in
    let new : Writer = record counted { passed = c.subtype-2.new.self } in
    writes_no_type c.args.input.now.end c.args.input.now.rest.now c.subtype-2.new.input.rest.now c.args.self.now counted new c.clear-2.new.self
    c.subtype-2.new.self c.subtype-2.result c.is_next_left.ensures.same (sym c.if-is_next_left.false ∙ c.is_next_left.ensures.is) c.clear-2.ensures.left
    c.subtype-2.ensures.is refl

pub returns-in-Err-clause-err : goal.returns-in-Err-clause-err
returns-in-Err-clause-err c =
    stops_left Types copied_subtype c.args.input.now.end c.args.input.now.rest.now c.args.self.now c.clear.new.self.left c.in-Err.error
    (sym c.if-is_next_left.true ∙ c.is_next_left.ensures.is) (c.clear.ensures.left ∙ ap (λ (w : Writer). w.kept.left) c.is_next_left.ensures.same)
    c.in-Err.ensures.is

pub returns-clause-err : goal.returns-clause-err
returns-clause-err c =
    let old = c.args.self.now in
    let end = c.args.input.now.end in
    let text = c.args.input.now.rest.now in
    copy_fails c.clear-2.new.self c.subtype-2.new.self c.subtype-2.new.input.rest.now (copied_subtype (index_written c.clear-2.new.self.left) end text)
    (StopsAtType end (old, text)) c.subtype-2.result c.subtype-2.ensures.is
    (λ e f.
    stops_passed Types copied_subtype end text old c.clear-2.new.self.left e (sym c.if-is_next_left.false ∙ c.is_next_left.ensures.is)
    (c.clear-2.ensures.left ∙ ap (λ (w : Writer). w.passed.left) c.is_next_left.ensures.same) f)
