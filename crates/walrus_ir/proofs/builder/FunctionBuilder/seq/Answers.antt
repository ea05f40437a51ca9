use Rattle.std.proofs.Common.{◌≡◌, ◌∙◌, ◌<◌, ap, sym, refl, length}
use Rattle.std.proofs.lemmas.Option.{slice_get_read}
use Rattle.std.specs.Prelude.{slice_get}
use Rattle.walrus_ir.specs.Function.{Function}
use Rattle.walrus_ir.proofs.builder.FunctionBuilder.seq.Goals as goal

pub returns : goal.returns
returns c =
    let id = c.args.id in
    let same : c.self.inside.seqs.items ≡ c.args.self.now.sequences = ap (λ (f : Function). f.sequences) c.self.view_is in
    let within : id < length c.self.inside.seqs.items = rw same c.requires in
    let read = slice_get_read c.self.inside.seqs.items _ _ _ refl within (rw c.index-index.ensures at c.index.ensures) in
    ap (λ xs. slice_get xs id) (sym same) ∙ read
