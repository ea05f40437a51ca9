use Rattle.std.proofs.Common.{ap, ◌∙◌, arith}
use Rattle.std.proofs.lemmas.List.{take_all}
use Rattle.std.specs.Option.{option_map}
use Rattle.wasm_body.specs.LocalNumbers.{last_place}
use Rattle.walrus_numbering.specs.EmittedLocals.{saturated}
use Rattle.walrus_numbering.proofs.LocalNumbering.{argument_numbered, none_numbered}
use Rattle.walrus_numbering.proofs.local_numbers.number_arguments.Goals as goal

pub loop-place-init : goal.loop-place-init
loop-place-init c = none_numbered _ c.in_ok-numbers.ensures.empty

pub loop-place-preserved : goal.loop-place-preserved
loop-place-preserved c =
    argument_numbered c.args.args.now c.loop-place.place c.index-args-place.result c.saturated_number.result c.loop-place.numbers.entries c.insert.new.self.entries
    c.loop-place-test.true c.index-args-place.is c.saturated_number.ensures c.in_ok-insert.ensures.updates.0 c.loop-place.invariant

pub returns : goal.returns
returns c id =
    let args = c.args.args.now in
    c.loop-place.invariant id
    ∙ ap (λ xs. option_map saturated (last_place xs id)) (take_all c.loop-place.place args (omega (arith, c.loop-place-test.false)))
