use Rattle.std.proofs.Common.{◌≡◌, ◌∙◌, ◌<◌, ap, sym, refl, length}
use Rattle.std.proofs.lemmas.Option.{slice_get_read}
use Rattle.std.specs.Prelude.{slice_get}
use Rattle.walrus_ir.specs.Function.{Function, with_sequence}
use Rattle.walrus_ir.proofs.builder.FunctionBuilder.seq_mut.Goals as goal

pub returns : goal.returns
returns c =
    let id = c.args.id in
    let same : c.self.inside.seqs.items ≡ c.args.self.now.sequences = ap (λ (f : Function). f.sequences) c.self.view_is in
    let within : id < length c.self.inside.seqs.items = rw same c.requires in
    let read = slice_get_read c.self.inside.seqs.items _ _ _ refl within (rw c.index-index.ensures at c.index_mut.ensures.value) in (
      (refl, λ w. rw c.index-index.ensures (ap (λ (f : Function). with_sequence f id w) c.self.view_is)),
      record { writes_back = tt; value = ap (λ xs. slice_get xs id) (sym same) ∙ read },
    )
