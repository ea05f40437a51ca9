use Rattle.std.proofs.Common.{◌≡◌, ◌<◌, length, sym, ap, ◌∙◌, rules}
use Rattle.walrus_run.specs.NamedBodies.{names_of}
use Rattle.walrus_run.specs.Namers.{env_of_namer}
use Rattle.walrus_run.proofs.Reading.{some_left, none_left, before, after_next, before_none}
use Rattle.walrus_run.proofs.named_body.NamedBody.named.Goals as goal

pub operators-preserved : goal.operators-preserved
operators-preserved c = λ xs left.
    let env = env_of_namer c.args.namer.now in
    let now = c.operators in
    let kept = now.invariant xs left in
    let some : 0 < length now.reader.rest = search rules in
    let first = some_left env now.reader kept.0 kept.1 some in
    let taken = (c.in-Ok.ensures.takes first.0 first.1 first.2).1 in (
      first.1,
      taken.0,
      after_next now.body c.take.new.self first.0 first.1 kept.0 (names_of xs) taken.1 first.3 kept.2,
    )

pub returns-in-Err : goal.returns-in-Err
returns-in-Err c = λ xs left.
    let env = env_of_namer c.args.namer.now in
    let now = c.operators in
    let kept = now.invariant xs left in
    let some : 0 < length now.reader.rest = search rules in
    let first = some_left env now.reader kept.0 kept.1 some in
    c.in-Err.ensures.takes first.0 first.1 first.2

pub returns : goal.returns
returns c = λ xs left.
    let env = env_of_namer c.args.namer.now in
    let now = c.operators in
    let kept = now.invariant xs left in
    let none : length now.reader.rest ≡ 0 = search rules in
    let all = none_left env now.reader kept.0 kept.1 none in (
      tt,
      sym (before_none now.body) ∙ ap (before now.body) (sym all) ∙ kept.2,
    )
