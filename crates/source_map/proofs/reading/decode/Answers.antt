use Rattle.std.proofs.Common.{subst}
use Rattle.source_map.specs.Reading.{ReadsOrMemory}
use Rattle.source_map.proofs.Wholes.{whole_again, is_read}
use Rattle.source_map.proofs.reading.decode.Goals as goal

pub returns-clause-read : goal.returns-clause-read
returns-clause-read c = is_read (λ v. v.items) c.read_all.result c.args.text.now c.read_all.ensures

pub returns-clause-each : goal.returns-clause-each
returns-clause-each c = λ ms h. subst (λ f. ReadsOrMemory (λ v. v.items) c.read_all.result f) (whole_again ms c.args.text.now h) c.read_all.ensures
