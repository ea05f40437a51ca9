use Rattle.walrus_numbering.specs.NumberMaps.{numbers_of}
use Rattle.walrus_emitter.proofs.TreeWriting.Trees.{appends}
use Rattle.walrus_emitter.proofs.emit.emit_with_map.Goals as goal

pub draft_tree-requires : goal.draft_tree-requires
draft_tree-requires c = c.byte_len.ensures.fits

pub returns-in-Ok-append_to-clause-ok : goal.returns-in-Ok-append_to-clause-ok
returns-in-Ok-append_to-clause-ok c =
    let a = c.args in
    appends a.builder.now.sequences a.entry (numbers_of a.numbers.now) c.byte_len.result c.in-Ok.draft a.encoder.now c.append_to.new.encoder a.map.now.items c.append_to.new.map.items
    c.byte_len.ensures.len c.in-Ok.ensures.ok c.in-Ok-append_to.ensures.bytes c.in-Ok-append_to.ensures.pairs
