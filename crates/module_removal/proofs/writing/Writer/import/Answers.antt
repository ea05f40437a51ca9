use Rattle.std.proofs.Common.{Ok, sym, ap, ◌∙◌, inl, inr}
use Rattle.module_removal.specs.CopiedItems.{copied_import}
use Rattle.module_removal.specs.declared.writing.Writer.{Writer}
use Rattle.module_removal.proofs.RefusalLemmas.{fault_under, stops_left}
use Rattle.module_removal.proofs.WritingLemmas.{part_as, writes_left_item, writes_no_item, writes_import}
use Rattle.module_removal.proofs.writing.Writer.import.Goals as goal

pub returns-then-is_next_left-clause-is : goal.returns-then-is_next_left-clause-is
returns-then-is_next_left-clause-is c =
    let old = c.args.self.now in
    let end = c.args.input.now.end in
    let text = c.args.input.now.rest.now in
    let space = c.in-Ok.value in
    writes_import end text c.import.new.input.rest.now c.import-then-is_next_left.new.input.rest.now old c.add.new.self c.clear.new.self c.import.new.self space
    c.add.result c.clear.ensures.left c.in-Ok.ensures.is
    (writes_left_item space copied_import end text c.import-then-is_next_left.new.input.rest.now old c.is_next_left.new.self c.add.new.self c.import.new.self
    c.clear-then-is_next_left.new.self c.import-then-is_next_left.new.self c.in-Ok-import.value c.add.result (c.in-Ok.ensures.is.2.left ∙ c.clear.ensures.left)
    c.is_next_left.ensures.same (sym c.if-is_next_left.true ∙ c.is_next_left.ensures.is) c.clear-then-is_next_left.ensures.left
    c.clear-then-is_next_left.ensures.out c.in-Ok-import.ensures.is c.add.ensures.items c.add.ensures.count c.add.ensures.same)

pub returns-clause-is : goal.returns-clause-is
returns-clause-is c =
    let old = c.args.self.now in
    let end = c.args.input.now.end in
    let text = c.args.input.now.rest.now in
    let space = c.in-Ok.value in
    let copies = c.in-Ok.ensures.is in (
      space,
      copies.0,
      c.import.new.input.rest.now,
      part_as copied_import end text old.passed.left c.clear.new.self.left (Ok ((space, copies.0), c.import.new.input.rest.now)) c.clear.ensures.left copies.1,
      writes_no_item space copied_import end text c.import.new.input.rest.now old c.is_next_left.new.self c.clear.new.self c.import.new.self space
          c.clear.ensures.left c.is_next_left.ensures.same (sym c.if-is_next_left.false ∙ c.is_next_left.ensures.is) copies,
    )

pub returns-in-Err-clause-err : goal.returns-in-Err-clause-err
returns-in-Err-clause-err c =
    inl (fault_under copied_import c.args.input.now.end c.args.input.now.rest.now c.clear.new.self.left c.args.self.now.passed.left c.in-Err.error c.clear.ensures.left
    c.in-Err.ensures.is)

pub returns-in-Err-import-clause-err : goal.returns-in-Err-import-clause-err
returns-in-Err-import-clause-err c =
    let old = c.args.self.now in
    let end = c.args.input.now.end in
    let text = c.args.input.now.rest.now in
    let space = c.in-Ok.value in
    let copies = c.in-Ok.ensures.is in
    inr (
      space,
      copies.0,
      c.import.new.input.rest.now,
      part_as copied_import end text old.passed.left c.clear.new.self.left (Ok ((space, copies.0), c.import.new.input.rest.now)) c.clear.ensures.left copies.1,
      stops_left space copied_import end text old c.clear-then-is_next_left.new.self.left c.in-Err-import.error
          (sym c.if-is_next_left.true ∙ c.is_next_left.ensures.is)
          (c.clear-then-is_next_left.ensures.left ∙ ap (λ (w : Writer). w.kept.left) c.is_next_left.ensures.same) c.in-Err-import.ensures.is,
    )
