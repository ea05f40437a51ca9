use Rattle.std.proofs.Common.{ap, ◌∙◌, sym, refl, append-nil, arith}
use Rattle.std.proofs.lemmas.List.{take_all}
use Rattle.wasm_body.specs.LocalNumbers.{ids_of, last_place, number_of_local}
use Rattle.walrus_numbering.proofs.LocalNumbering.{other_numbered}
use Rattle.walrus_numbering.proofs.ListedLocals.{put_entry, small_at}
use Rattle.walrus_numbering.proofs.listed_locals.number_listed.Goals as goal

pub put_number-requires : goal.put_number-requires
put_number-requires c =
    small_at c.args.others.now _ _ c.loop-place.place c.index-others-place.result c.requires.small c.loop-place.invariant.0 c.loop-place-test.true c.index-others-place.is

pub loop-place-init : goal.loop-place-init
loop-place-init c = (refl, λ id. c.requires.arguments id ∙ ap (λ xs. last_place xs id) (sym (append-nil c.args.args.now)))

pub loop-place-preserved : goal.loop-place-preserved
loop-place-preserved c =
    let l = c.index-others-place.result in
    let put = put_entry c.loop-place.table.items c.put_number.new.table.items l.1 _ c.put_number.ensures.put in (
      c.put_number.ensures.len ∙ c.loop-place.invariant.0,
      other_numbered c.args.args.now c.args.others.now c.loop-place.place l _ _ c.loop-place-test.true c.index-others-place.is put c.loop-place.invariant.1,
    )

pub returns : goal.returns
returns c id =
    c.loop-place.invariant.1 id
    ∙ ap (λ ls. number_of_local c.args.args.now (ids_of ls) id) (take_all c.loop-place.place c.args.others.now (omega (arith, c.loop-place-test.false)))
