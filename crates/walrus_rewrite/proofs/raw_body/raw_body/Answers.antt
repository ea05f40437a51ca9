use Rattle.std.proofs.Common.{◌==◌, None, sym, subst}
use Rattle.std.specs.HashSet.{contains}
use Rattle.walrus_body.specs.LocalFunctions.{first_slot}
use Rattle.walrus_numbering.specs.NumberMaps.{numbers_by}
use Rattle.walrus_emitter.specs.TreeWriting.Trees.{Appends}
use Rattle.walrus_rewrite.proofs.RawBodyLemmas.{writes, declines}
use Rattle.walrus_rewrite.proofs.raw_body.raw_body.Goals as goal

pub returns-in-Ok-emit_instructions-clause-ok : goal.returns-in-Ok-emit_instructions-clause-ok
returns-in-Ok-emit_instructions-clause-ok c =
    let a = c.args in
    let f = a.function.now.builder in
    let made = c.in-Ok.made in
    let bytes = c.into_raw_body.result.items in
    writes a.module.now.types a.indices.now a.module.now.locals a.function.now.args (contains (λ x y. x == y) a.used.now) f made.0 made.1.entries c.in-Ok.ensures.ok
    bytes None
    (subst (λ b. Appends f.sequences (first_slot f) (numbers_by a.module.now.types a.indices.now made.1.entries) made.0 b None) (sym c.into_raw_body.ensures) c.in-Ok-emit_instructions.ensures.ok)

pub returns-in-Err-emit_instructions-clause-err : goal.returns-in-Err-emit_instructions-clause-err
returns-in-Err-emit_instructions-clause-err c =
    let a = c.args in
    let made = c.in-Ok.made in
    declines a.module.now.types a.indices.now a.module.now.locals a.function.now.args (contains (λ x y. x == y) a.used.now) a.function.now.builder made.0 made.1.entries c.in-Ok.ensures.ok
    c.in-Err-emit_instructions.fault c.in-Err-emit_instructions.ensures.err
