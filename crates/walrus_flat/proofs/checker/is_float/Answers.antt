use Rattle.std.proofs.Common.{sym, subst}
use Rattle.wasm_operators.specs.Meaning.{Listed, meaning}
use Rattle.walrus_flat.specs.Checkers.{HasNoParts}
use Rattle.walrus_flat.proofs.NoParts.{f32_alone, f64_alone}
use Rattle.walrus_flat.proofs.checker.is_float.Goals as goal

pub returns-in-F32Const : goal.returns-in-F32Const
returns-in-F32Const c = subst (λ (o : Listed). HasNoParts (meaning o)) (sym c.in-F32Const.is) (f32_alone c.in-F32Const.bits)

pub returns-in-F64Const : goal.returns-in-F64Const
returns-in-F64Const c = subst (λ (o : Listed). HasNoParts (meaning o)) (sym c.in-F64Const.is) (f64_alone c.in-F64Const.bits)
