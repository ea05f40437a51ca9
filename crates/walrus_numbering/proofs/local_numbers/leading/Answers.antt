use Rattle.std.proofs.Common.{◌∙◌, sym, ap, arith}
use Rattle.walrus_ir.specs.Types.{same_type}
use Rattle.wasm_body.specs.LocalNumbers.{Local}
use Rattle.walrus_numbering.proofs.LocalNumbering.{leading_more, leading_none}
use Rattle.walrus_numbering.proofs.local_numbers.leading.Goals as goal

pub returns-then-not-are_same-clause-count : goal.returns-then-not-are_same-clause-count
returns-then-not-are_same-clause-count c =
    let here = ap (λ (l : Local). same_type c.args.ty.now l.0) (sym c.index-locals-count.is) ∙ (sym c.are_same.ensures ∙ c.if-not-are_same.true) in
    let none = leading_none c.args.ty.now c.args.locals.now c.loop-count.count c.index-locals-count.result c.loop-count-test.true here in
    omega (arith, none)

pub loop-count-preserved : goal.loop-count-preserved
loop-count-preserved c =
    let here = ap (λ (l : Local). same_type c.args.ty.now l.0) (sym c.index-locals-count.is) ∙ (sym c.are_same.ensures ∙ c.if-not-are_same.false) in
    let more = leading_more c.args.ty.now c.args.locals.now c.loop-count.count c.index-locals-count.result c.loop-count-test.true here in
    omega (arith, more)
