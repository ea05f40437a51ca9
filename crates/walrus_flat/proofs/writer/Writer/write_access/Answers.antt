use Rattle.std.proofs.Common.{◌<◌, ◌^◌, [], ◌∷◌, sym, subst, arith}
use Rattle.wasm_operators.specs.AccessOperations.{access_of}
use Rattle.wasm_operators.specs.Operations.{access, operation}
use Rattle.walrus_flat.specs.Writers.{WritesCommon}
use Rattle.walrus_flat.proofs.WriterAtOnce.{access_written}
use Rattle.walrus_flat.proofs.writer.Writer.write_access.Goals as goal

pub returns-in-Ok-get_memory_index : goal.returns-in-Ok-get_memory_index
returns-in-Ok-get_memory_index c =
    let old = c.args.self.now in
    let found = c.in-Ok-get_memory_index in
    let fits : found.memory < 2 ^ 32 = omega arith in
    let put = c.write_access in
    let a = access_of c.args.memarg in
    subst (λ k. WritesCommon old (record old { draft = put.new.self }) (operation k (access a ∷ [])) c.args.location put.result) (sym c.in-Byte.is)
    (access_written old c.args.location c.in-Byte.byte a c.in-Ok.id found.memory (sym c.in-Ok.ensures) (sym found.ensures) fits put.result put.new.self put.ensures.done put.ensures.unchanged)
