use Rattle.std.proofs.Common.{◌≡◌, Bool, ℕ, List, ap, inl, inr, subst, ◌∙◌}
use Rattle.wasm_body.specs.Pairs.{Pair}
use Rattle.walrus_numbering.specs.NumberMaps.{numbers_by}
use Rattle.walrus_emit_state.specs.TreeWriting.Drafts.{Drafted}
use Rattle.walrus_flat.specs.UsedLocals.{entries_of}
use Rattle.walrus_flat.specs.WrittenBody.{source_again, WritesBody, WritesFirst}
use Rattle.walrus_flat.specs.RewrittenFlat.{begun_draft, out_of_memory, not_begun, not_written}
use Rattle.walrus_flat.proofs.SinkLemmas.{of_whole, took_front}
use Rattle.walrus_flat.proofs.rewriting.write_checked.Goals as goal

begun_with : List ℕ → Bool → List Pair → Drafted
begun_with bytes has_map pairs = record { base = 0; has_map = has_map; output = record { bytes = bytes; pairs = pairs } }

pub returns-in-Ok-write-clause-ok : goal.returns-in-Ok-write-clause-ok
unfolding begun_with
returns-in-Ok-write-clause-ok g c =
    let a = c.args in
    let s = a.source.now in
    let declared = c.begin_body.new.bytes.items in
    let no_pairs = c.make_room_for.ensures.pairs ∙ (c.into_lists-bytes.ensures.pairs ∙ c.requires.no_pairs) in
    let begun : c.of_lists-begun.result ≡ begun_draft declared a.draft.has_map =
    c.of_lists-begun.ensures ∙ (ap (λ (b : Bool). begun_with declared b c.make_room_for.new.pairs.items) c.has_map-has_map.ensures ∙ ap (begun_with declared a.draft.has_map) no_pairs) in
    of_whole g.S.ByteSink.takes a.sink.now c.write.new.sink c.in-Ok-write.written
    (λ d writes. record {
      entries = entries_of c.in-Ok.numbers;
      declared = declared;
      begins = c.in-Ok.ensures.ok;
      writes = subst (λ (first : Drafted). WritesBody g.F.Fn (source_again s) (numbers_by s.module.now.types a.target.now.out.now (entries_of c.in-Ok.numbers)) first d) begun writes;
    }) c.in-Ok-write.ensures.ok

pub returns-in-Err-clause-err : goal.returns-in-Err-clause-err
returns-in-Err-clause-err g c = not_begun c.in-Err.ensures.err

pub returns-clause-err : goal.returns-clause-err
returns-clause-err g c = elim c.in-Err-write.ensures.err [
  | inl memory ↦ out_of_memory memory
  | inr fault ↦ not_written c.begin_body.new.bytes.items (entries_of c.in-Ok.numbers) c.in-Ok.ensures.ok fault
]

pub returns-clause-leaves : goal.returns-clause-leaves
unfolding begun_with
returns-clause-leaves g c =
    let a = c.args in
    let s = a.source.now in
    let declared = c.begin_body.new.bytes.items in
    let no_pairs = c.make_room_for.ensures.pairs ∙ (c.into_lists-bytes.ensures.pairs ∙ c.requires.no_pairs) in
    let begun : c.of_lists-begun.result ≡ begun_draft declared a.draft.has_map =
    c.of_lists-begun.ensures ∙ (ap (λ (b : Bool). begun_with declared b c.make_room_for.new.pairs.items) c.has_map-has_map.ensures ∙ ap (begun_with declared a.draft.has_map) no_pairs) in
    inr (took_front g.S.ByteSink.takes g.S.ByteSink.refuses a.sink.now c.write.new.sink c.in-Err-write.fault
    (λ d writes. record {
      entries = entries_of c.in-Ok.numbers;
      declared = declared;
      begins = c.in-Ok.ensures.ok;
      writes = subst (λ (first : Drafted). WritesFirst g.F.Fn (source_again s) (numbers_by s.module.now.types a.target.now.out.now (entries_of c.in-Ok.numbers)) first d) begun writes;
    }) c.in-Err-write.ensures.leaves)
