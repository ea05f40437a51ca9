use Rattle.walrus_facts.proofs.FactLaws.{facts_have_size, facts_use_found}
use Rattle.walrus_facts.proofs.facts.law_facts.Goals as goal

pub returns : goal.returns
returns g c = record {
  size = facts_have_size;
  uses_data_segments = facts_use_found _;
}
