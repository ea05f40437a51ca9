use Rattle.std.proofs.Common.{◌<◌, length, sym, ap, ◌∙◌, Ok, Err, arith}
use Rattle.std.proofs.lemmas.List.{length-append}
use Rattle.wasm_operators.specs.Meaning.{meaning}
use Rattle.wasm_operators.proofs.ListLaws.{spelt_length}
use Rattle.walrus_run.specs.Namers.{env_of_namer, with_next}
use Rattle.walrus_run.proofs.Reading.{others_left, name_returned, on_ok}
use Rattle.walrus_run.proofs.named_body.NamedBody.take.Goals as goal

pub returns-in-Ok-name-clause-takes : goal.returns-in-Ok-name-clause-takes
returns-in-Ok-name-clause-takes c = λ x xs left.
    let a = c.args in
    let env = env_of_namer a.namer.now in
    let read = c.in-Ok.ensures.only x.spelt left.spelt.1 left.spelt.2 left.spelt.4 left.spelt.3 in
    let named = (name_returned env x (meaning c.in-Ok.operator) (Ok c.in-Ok-name.operator) left.named.0 read.0 c.in-Ok-name.ensures).1 in
    let place = c.original_position-at.ensures ∙ sym left.spelt.0 in (
      c.push.ensures.err,
      on_ok c.push.result c.push.ensures.ok (λ is. (
        others_left env a.reader.now c.read.new.self x xs left read.1,
        is ∙ ap (λ n. with_next a.self.now n c.original_position-at.result) named ∙ ap (with_next a.self.now x.named) place,
      )),
    )

pub returns-in-Ok-name-clause-moves : goal.returns-in-Ok-name-clause-moves
returns-in-Ok-name-clause-moves c =
    let found = c.in-Ok.ensures.found in
    let some = spelt_length (meaning c.in-Ok.operator) found.0 found.2 in
    let shorter : length c.read.new.self.rest < length c.args.reader.now.rest =
    omega (arith, some, length-append found.0 c.read.new.self.rest, ap length found.1.parts) in
    on_ok c.push.result c.push.ensures.ok (λ is. shorter)

pub returns-in-Err-name-clause-takes : goal.returns-in-Err-name-clause-takes
returns-in-Err-name-clause-takes c = λ x xs left.
    let read = c.in-Ok.ensures.only x.spelt left.spelt.1 left.spelt.2 left.spelt.4 left.spelt.3 in
    name_returned (env_of_namer c.args.namer.now) x (meaning c.in-Ok.operator) (Err c.in-Err-name.error) left.named.0 read.0 c.in-Err-name.ensures

pub returns-in-Err-clause-takes : goal.returns-in-Err-clause-takes
returns-in-Err-clause-takes c = λ x xs left. absurd (c.in-Err.ensures.only x.spelt left.spelt.1 left.spelt.2 left.spelt.4 left.spelt.3)
