use Rattle.std.proofs.Common.{◌≡◌, ◌+◌, ◌-◌, ◌≤◌, ◌<◌, length, Some, sym, ap, ◌∙◌, arith}
use Rattle.std.proofs.lemmas.Option.{slice_get-get_or}
use Rattle.walrus_parser.proofs.NextSequences.{alternative_set}
use Rattle.walrus_parser.proofs.body_parser.BodyParser.begin_alternative.Goals as goal

pub returns-in-Some-clause-ifs : goal.returns-in-Some-clause-ifs
returns-in-Some-clause-ifs c =
    let ifs = c.args.self.now.if_else.items in
    let i = c.in-Some.index in
    let top = c.index_mut.result.now in
    let len = c.len.ensures in
    let known : (1 ≤ c.len.result) × (i ≡ c.len.result - 1) = c.in-Some.ensures in
    let some = known.0 in
    let is = known.1 in
    let long : i + 1 ≡ length ifs = omega arith in
    let within : i < length ifs = omega arith in
    alternative_set ifs i c.args.alternative top long (slice_get-get_or ifs i top within ∙ ap Some (sym c.index_mut.ensures.value))
