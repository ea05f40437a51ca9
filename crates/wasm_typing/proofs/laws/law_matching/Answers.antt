use Rattle.wasm_typing.proofs.MatchingLemmas.{matches_itself}
use Rattle.wasm_typing.proofs.MatchingRules.{matching_is_sound, matching_is_complete}
use Rattle.wasm_typing.proofs.TestedTypes.{types_are_tested}
use Rattle.wasm_typing.proofs.laws.law_matching.Goals as goal

pub returns : goal.returns
returns c = record { itself = matches_itself; sound = matching_is_sound; complete = matching_is_complete; types = types_are_tested }
