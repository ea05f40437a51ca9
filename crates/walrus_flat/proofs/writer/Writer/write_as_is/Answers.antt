use Rattle.std.proofs.Common.{◌≡◌, Err, refl, subst}
use Rattle.std.specs.Prelude.{◌⊎◌}
use Rattle.wasm_operators.specs.Meaning.{meaning}
use Rattle.wasm_body.specs.declared.error.EmitError.TheVariants.{Memory}
use Rattle.walrus_flat.specs.declared.writer.Writer.{Writer}
use Rattle.walrus_flat.specs.Writers.{renumbered}
use Rattle.walrus_flat.proofs.Drafts.{written_as_is}
use Rattle.walrus_flat.proofs.writer.Writer.write_as_is.Goals as goal

pub returns-in-Ok-translated : goal.returns-in-Ok-translated
returns-in-Ok-translated c =
    written_as_is c.args.self.now c.write_else.new.self _ (meaning c.args.operator.now) (meaning c.in-Ok-translated.op) c.args.ty c.args.location c.in-Ok.ensures.ok c.in-Ok-translated.ensures.0
    (record { «module» = refl; indices = refl; function = refl; ty = refl; out = refl; locals = refl }) refl c.write_any.result c.write_any.ensures.ok c.write_any.ensures.err

pub returns-in-Err-translated : goal.returns-in-Err-translated
returns-in-Err-translated c =
    subst (λ (w : Writer). (c.in-Err-translated.fault ≡ Memory) ⊎ (renumbered w c.args.ty (meaning c.args.operator.now) ≡ Err c.in-Err-translated.fault)) c.in-Ok.ensures.ok c.in-Err-translated.ensures
