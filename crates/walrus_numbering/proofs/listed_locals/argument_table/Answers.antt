use Rattle.std.proofs.Common.{ap, ◌∙◌, arith}
use Rattle.std.proofs.lemmas.List.{take_all}
use Rattle.std.specs.Option.{option_map}
use Rattle.wasm_body.specs.LocalNumbers.{last_place}
use Rattle.walrus_numbering.specs.EmittedLocals.{saturated}
use Rattle.walrus_numbering.proofs.LocalNumbering.{argument_numbered}
use Rattle.walrus_numbering.proofs.ListedLocals.{put_entry, blank}
use Rattle.walrus_numbering.proofs.listed_locals.argument_table.Goals as goal

pub loop-place-init : goal.loop-place-init
loop-place-init c = (
  omega (arith, c.resize.new.self.ok, c.in_ok-resize.ensures.len),
  blank _ c.new-table.result.items c.resize.new.self.items _ c.new-table.ensures.items c.in_ok-resize.ensures.items,
)

pub loop-place-preserved : goal.loop-place-preserved
loop-place-preserved c =
    let id = c.index-args-place.result in
    let put = put_entry c.loop-place.table.items c.put_number.new.table.items id c.saturated_number.result c.put_number.ensures.put in (
      c.put_number.ensures.len ∙ c.loop-place.invariant.0,
      argument_numbered c.args.args.now c.loop-place.place id c.saturated_number.result _ _ c.loop-place-test.true c.index-args-place.is c.saturated_number.ensures put
          c.loop-place.invariant.1,
    )

pub returns-clause-numbers : goal.returns-clause-numbers
returns-clause-numbers c id =
    c.loop-place.invariant.1 id
    ∙ ap (λ xs. option_map saturated (last_place xs id)) (take_all c.loop-place.place c.args.args.now (omega (arith, c.loop-place-test.false)))
