-- The operators taken come before the remaining ones.
use Rattle.std.proofs.Common.{◌≡◌, List, length}
use Rattle.wasm_body.specs.Naming.{Occurrence}
use Rattle.walrus_run.specs.NamedBodies.{names_of}
use Rattle.walrus_run.specs.Namers.{env_of_namer, AreLeft}
use Rattle.walrus_run.proofs.Reading.{before}
use Rattle.walrus_run.proofs.named_body.NamedBody.named.Given as goal

abbrev pub invariant-operators : goal.invariant-operators
invariant-operators l =
    (xs : List Occurrence) → AreLeft (env_of_namer l.namer) l.fn.reader xs → (left : List Occurrence) × AreLeft (env_of_namer l.namer) l.reader left × (before l.body left ≡ names_of xs)

abbrev pub decreases-operators : goal.decreases-operators
decreases-operators l = length l.reader.rest
