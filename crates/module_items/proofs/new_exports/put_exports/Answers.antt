use Rattle.std.proofs.Common.{◌≡◌, ◌+◌, List, drop, true, subst, arith, refl}
use Rattle.std.specs.BTreeSet.{contains_text}
use Rattle.std.proofs.lemmas.List.{drop_more, drop_all}
use Rattle.module_items.specs.declared.new_exports.NewExport.{NewExport}
use Rattle.module_items.specs.NewExports.{HaveFreeNames}
use Rattle.module_items.proofs.NewExportLemmas.{HavePut, put_step, none_left}
use Rattle.module_items.proofs.new_exports.put_exports.Goals as goal

pub returns-in-Err-clause-taken : goal.returns-in-Err-clause-taken
returns-in-Err-clause-taken c = λ taken free.
    let known = c.in-Err.ensures.taken taken in
    let left =
    subst (HaveFreeNames (λ name. contains_text c.exports.names.names name ≡ true)) (drop_more c.args.exports.now c.exports.export-index _ c.exports-test.true)
    (c.exports.invariant.taken free) in
    left.0 known

pub exports-preserved : goal.exports-preserved
exports-preserved c =
    let xs = c.args.exports.now in
    let at = c.exports.export-index in
    let before = contains_text c.args.names.now.names in
    let has = contains_text c.exports.names.names in
    put_step before has (contains_text c.take.new.self.names) xs (drop (at + 1) xs) _ c.args.out.now.items c.exports.out.items c.put_export.new.out.items
    c.in-Ok-put_export.ensures.written.0 c.in-Ok.ensures.free c.in-Ok.ensures.added c.in-Ok-put_export.ensures.written.1 c.in-Ok-put_export.ensures.written.2
    (subst (λ (left : List NewExport). HavePut before has xs left c.args.out.now.items c.exports.out.items) (drop_more xs at _ c.exports-test.true) c.exports.invariant)

pub returns-clause-written : goal.returns-clause-written
returns-clause-written c =
    let xs = c.args.exports.now in
    let before = contains_text c.args.names.now.names in
    let has = contains_text c.exports.names.names in
    none_left before has xs c.args.out.now.items c.exports.out.items
    (subst (λ (left : List NewExport). HavePut before has xs left c.args.out.now.items c.exports.out.items)
    (drop_all c.exports.export-index xs (omega (arith, c.exports-test.false))) c.exports.invariant)
