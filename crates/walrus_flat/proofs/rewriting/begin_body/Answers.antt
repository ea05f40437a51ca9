use Rattle.std.proofs.Common.{◌<◌, ◌^◌, List, [], length, subst, sym}
use Rattle.walrus_numbering.specs.NumberMaps.{numbers_by}
use Rattle.walrus_rewrite.proofs.RawBodyLemmas.{few_declarations}
use Rattle.walrus_flat.proofs.rewriting.begin_body.Goals as goal

pub write_declarations-requires : goal.write_declarations-requires
write_declarations-requires c =
    let made = c.in-Ok.made in
    let d = c.in-Ok.ensures.ok in
    let few = few_declarations (numbers_by c.args.module.now.types c.args.target.now.out.now []) (length c.args.target.now.args.now) d.others made.0.items d.declarations_are in
    subst (λ (l : List _). length l < 2 ^ 32) (sym c.as_slice.ensures.value) few
