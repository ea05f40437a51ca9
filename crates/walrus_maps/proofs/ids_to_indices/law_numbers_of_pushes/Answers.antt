use Rattle.walrus_maps.proofs.NumberingLemmas.{pushes_number_in_order}
use Rattle.walrus_maps.proofs.ids_to_indices.law_numbers_of_pushes.Goals as goal

pub returns : goal.returns
returns c = pushes_number_in_order
