use Rattle.std.proofs.Common.{◌≡◌, ℕ, List, Some, sym, ◌∙◌}
use Rattle.module_removal.specs.declared.writing.Writer.{Writer}
use Rattle.module_removal.specs.CopiedItems.{copied_defined}
use Rattle.module_removal.specs.Refusals.{StopsAtNext, StopsAtItem}
use Rattle.module_removal.specs.Written.{section_space}
use Rattle.module_removal.proofs.LeftSectionLemmas.{ok_then}
use Rattle.module_removal.proofs.RefusalLemmas.{if_err_then, item_of_kind, stops_of_kind}
use Rattle.module_removal.proofs.writing.Writer.one.Goals as goal

pub returns-in-Some : goal.returns-in-Some
returns-in-Some c =
    let d = c.in_default in
    let kind = c.args.kind in
    let space = c.in-Some.space in
    let end = c.args.input.now.end in
    let old : Writer × List ℕ = (c.args.self.now, c.args.input.now.rest.now) in
    let new : Writer × List ℕ = (c.item.new.self, c.item.new.input.rest.now) in
    let is : section_space kind ≡ Some space = sym c.defined_space.ensures ∙ c.in-Some.is in
    record {
      same_end = c.item.ensures.same_end;
      is = ok_then c.item.result c.item.ensures.is (λ w. item_of_kind kind space end old new d.not-Type d.not-Import d.not-Export is w);
      err =
          if_err_then (StopsAtNext space (λ i. copied_defined i space) end c.args.input.now.rest.now c.args.self.now) (StopsAtItem kind end old) c.item.result c.item.ensures.err
          (λ e s. stops_of_kind kind space end old e d.not-Type d.not-Import d.not-Export is s);
    }
