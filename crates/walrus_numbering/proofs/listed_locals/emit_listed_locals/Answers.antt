use Rattle.std.proofs.Common.{◌<◌, List, inl, inr, [], ap, sym, subst, ◌∙◌, length, is_some, arith}
use Rattle.std.specs.List.{All}
use Rattle.wasm_body.specs.LocalNumbers.{Local, types_of, ids_of, runs}
use Rattle.walrus_numbering.specs.EmittedLocals.{number_in}
use Rattle.walrus_numbering.specs.NumberMaps.{numbers_by}
use Rattle.walrus_numbering.specs.NumberTables.{entries_in}
use Rattle.walrus_numbering.proofs.LocalNumbering.{arguments_are_numbered, nothing_saturated, few_declared}
use Rattle.walrus_numbering.proofs.ListedLocals.{small_declared}
use Rattle.walrus_numbering.proofs.listed_locals.emit_listed_locals.Goals as goal

pub declared_listed-requires-clause-numbered : goal.declared_listed-requires-clause-numbered
declared_listed-requires-clause-numbered c id =
    ap (λ table. is_some (number_in (entries_in table) id)) c.deref.ensures.value
    ∙ arguments_are_numbered c.args.args.now (entries_in c.in_ok-table.table.items) c.in_ok-table.ensures.numbers id

pub number_listed-requires-clause-small : goal.number_listed-requires-clause-small
number_listed-requires-clause-small c =
    let small = small_declared c.args.module.now.locals c.args.args.now c.args.used.now c.args.len c.in-Ok.others.items c.in-Ok.ensures.ok c.requires.small_used in
    let in_table = subst (λ len. All (λ id. id < len) (ids_of c.in-Ok.others.items)) (sym c.in_ok-table.ensures.len) small in
    subst (λ (ls : List Local). All (λ id. id < length c.in_ok-table.table.items) (ids_of ls)) (sym c.as_slice.ensures.value) in_table

pub number_listed-requires-clause-arguments : goal.number_listed-requires-clause-arguments
number_listed-requires-clause-arguments c = nothing_saturated c.args.args.now (entries_in c.in_ok-table.table.items) (omega arith) c.in_ok-table.ensures.numbers

pub returns-in-Err-declare-clause-err : goal.returns-in-Err-declare-clause-err
returns-in-Err-declare-clause-err c =
    let to = numbers_by c.args.module.now.types c.args.indices.now [] in
    let found = ap (λ ls. runs (types_of ls)) c.as_slice-2.ensures.value in
    elim c.in-Err-declare.ensures.err [
      | inl memory ↦ inl memory
      | inr fault ↦ inr (inr (record {
        others = c.in-Ok.others.items;
        are_declared = c.in-Ok.ensures.ok;
        fault_is = few_declared to (length c.args.args.now) c.in-Ok.others.items _ _ (omega arith) found fault;
      }))
    ]
