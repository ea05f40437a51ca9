use Rattle.std.proofs.Common.{Option, sym, subst}
use Rattle.wasm_operators.specs.declared.types.Space.{Space}
use Rattle.module_removal.specs.Counting.{CountsDefined}
use Rattle.module_removal.proofs.counting.count_defined.Goals as goal

pub returns : goal.returns
returns c =
    let contents = c.args.contents in
    subst (λ (o : Option Space). CountsDefined o contents.end contents.rest.now c.args.counts.now c.add_all.new.self) (sym c.in-Some.is)
    (c.in-Ok.value, c.number.new.self.rest.now, c.in-Ok.ensures.is, c.add_all.ensures)
