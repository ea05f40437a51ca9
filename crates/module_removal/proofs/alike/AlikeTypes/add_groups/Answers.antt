use Rattle.std.proofs.Common.{◌∙◌, List, [], sym, subst}
use Rattle.walrus_ir.specs.Types.{ModuleType}
use Rattle.wasm_sections.specs.Format.{next_group}
use Rattle.wasm_sections.specs.Parts.{number}
use Rattle.module_removal.proofs.AlikeLemmas.{TypesLeft, no_type_read, types_read_more, types_unread, types_read}
use Rattle.module_removal.proofs.alike.AlikeTypes.add_groups.Goals as goal

pub all-init : goal.all-init
all-init c =
    let before = c.args.reader.now in
    let new = c.groups.new.self in
    record {
      same_limit = c.groups.ensures.same_limit;
      same_end = c.groups.ensures.same_end;
      types = λ none.
          subst (λ (l : List ModuleType). TypesLeft number (next_group before.limit) c.in-Ok.value 0 [] l before.input.end before.input.rest.now new.input.rest.now) (sym none)
          (no_type_read number (next_group before.limit) c.in-Ok.value [] before.input.end before.input.rest.now new.input.rest.now c.in-Ok.ensures.is);
    }

pub all-preserved : goal.all-preserved
all-preserved c =
    let at = c.all in
    let before = c.args.reader.now in
    let new = c.add_group.new.reader in
    record {
      same_limit = c.add_group.ensures.same_limit ∙ at.invariant.same_limit;
      same_end = c.add_group.ensures.same_end ∙ at.invariant.same_end;
      types = λ none.
          types_read_more number next_group before.limit at.reader.limit c.in-Ok.value at.counter [] at.self.types before.input.end at.reader.input.end
          before.input.rest.now at.reader.input.rest.now (at.invariant.types none) at.invariant.same_limit at.invariant.same_end c.add_group.new.self.types new.input.rest.now c.all-test.true
          c.in-Ok-add_group.ensures.is;
    }

pub returns-in-Err-add_group : goal.returns-in-Err-add_group
returns-in-Err-add_group c = λ none.
    let at = c.all in
    let before = c.args.reader.now in
    types_unread number next_group before.limit at.reader.limit c.in-Ok.value at.counter [] at.self.types before.input.end at.reader.input.end
    before.input.rest.now at.reader.input.rest.now (at.invariant.types none) at.invariant.same_limit at.invariant.same_end c.in-Err-add_group.error c.all-test.true
    c.in-Err-add_group.ensures.is

pub returns : goal.returns
returns c = λ none.
    let at = c.all in
    let before = c.args.reader.now in
    types_read number next_group before.limit at.reader.limit c.in-Ok.value at.counter [] at.self.types before.input.end at.reader.input.end
    before.input.rest.now at.reader.input.rest.now (at.invariant.types none) at.invariant.same_limit at.invariant.same_end c.all-test.false
