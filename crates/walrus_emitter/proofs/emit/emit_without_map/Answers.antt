use Rattle.std.proofs.Common.{false}
use Rattle.walrus_numbering.specs.NumberMaps.{numbers_of}
use Rattle.walrus_emitter.proofs.TreeWriting.Trees.{appends_bytes}
use Rattle.walrus_emitter.proofs.emit.emit_without_map.Goals as goal

pub draft_tree-requires : goal.draft_tree-requires
draft_tree-requires c = c.byte_len.ensures.fits

pub returns-in-Ok-append_bytes_to-clause-ok : goal.returns-in-Ok-append_bytes_to-clause-ok
returns-in-Ok-append_bytes_to-clause-ok c =
    let a = c.args in
    appends_bytes a.builder.now.sequences a.entry (numbers_of a.numbers.now) c.byte_len.result false c.in-Ok.draft a.encoder.now c.append_bytes_to.new.encoder
    c.byte_len.ensures.len c.in-Ok.ensures.ok c.in-Ok-append_bytes_to.ensures.ok
