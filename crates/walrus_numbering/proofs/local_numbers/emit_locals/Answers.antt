use Rattle.std.proofs.Common.{inl, inr, [], ap, length, arith}
use Rattle.wasm_body.specs.LocalNumbers.{types_of, runs}
use Rattle.walrus_numbering.specs.NumberMaps.{numbers_by}
use Rattle.walrus_numbering.proofs.LocalNumbering.{arguments_are_numbered, nothing_saturated, few_declared}
use Rattle.walrus_numbering.proofs.local_numbers.emit_locals.Goals as goal

pub declared_locals-requires : goal.declared_locals-requires
declared_locals-requires c = arguments_are_numbered c.args.args.now c.in_ok-numbers.numbers.entries c.in_ok-numbers.ensures

pub number_others-requires-clause-arguments : goal.number_others-requires-clause-arguments
number_others-requires-clause-arguments c = nothing_saturated c.args.args.now c.in_ok-numbers.numbers.entries (omega arith) c.in_ok-numbers.ensures

pub returns-in-Err-declare-clause-err : goal.returns-in-Err-declare-clause-err
returns-in-Err-declare-clause-err c =
    let to = numbers_by c.args.module.now.types c.args.indices.now [] in
    let found = ap (λ ls. runs (types_of ls)) c.as_slice-2.ensures.value in
    elim c.in-Err-declare.ensures.err [
      | inl memory ↦ inl memory
      | inr fault ↦ inr (inr (record {
        others = c.in-Ok.others.items;
        are_declared = c.in-Ok.ensures.ok;
        fault_is = few_declared to (length c.args.args.now) c.in-Ok.others.items _ _ (omega arith) found fault;
      }))
    ]
