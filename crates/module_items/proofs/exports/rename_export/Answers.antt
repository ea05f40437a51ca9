use Rattle.std.proofs.Common.{ℕ, Option, ap, subst, option_map}
use Rattle.wasm_operators.specs.declared.types.Space.{Space}
use Rattle.module_items.specs.Replacing.{placed_contents}
use Rattle.module_items.specs.Renaming.{FindsExport}
use Rattle.module_items.proofs.SeekingLemmas.{renamed}
use Rattle.module_items.proofs.exports.rename_export.Goals as goal

pub returns-in-Ok-Some-clause-ok : goal.returns-in-Ok-Some-clause-ok
returns-in-Ok-Some-clause-ok c = λ all m.
    let old = c.args.changes.now in
    let name = c.args.name.now in
    let x = c.in-Ok-Some.found in
    let found =
    subst (λ (o : Option (ℕ × Space × ℕ)). FindsExport name (placed_contents all old 7) o)
    (ap (λ (f : _). option_map (λ x. (x.place, x.space, x.index)) f) c.in-Ok-Some.field-0-is) (c.in-Ok-Some.ensures all m) in
    renamed name c.args.new_name.now x.place x.space x.space x.index x.index old c.put_export.new.changes (placed_contents all old 7) c.put_export.result found
    (c.put_export.ensures.ok all m)
