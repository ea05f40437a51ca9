use Rattle.wasm_sections.proofs.SpaceLemmas.{no_locals}
use Rattle.wasm_sections.proofs.spaces.Spaces.new.Goals as goal

pub invariant_of-result : goal.invariant_of-result
invariant_of-result c = record { local_ids = no_locals c.new.result c.new.ensures }
