use Rattle.std.proofs.Common.{◌≡◌, ◌<◌, sym, subst}
use Rattle.wasm_body.specs.FlatText.{exponent_of}
use Rattle.walrus_numbering.proofs.Exponents.{exponent_from}
use Rattle.walrus_numbering.proofs.memory_arguments.exponent_of.Goals as goal

pub returns : goal.returns
returns c =
    let known = c.checked_ilog2.ensures in
    let from = exponent_from c.checked_ilog2.result c.args.align known.none known.power_le known.next_power_gt known.bound in
    subst (λ e. (e ≡ exponent_of c.args.align) × (e < 32)) (sym c.unwrap_or.ensures) from
