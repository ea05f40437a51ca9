use Rattle.written_validity.proofs.ClosedBodies.{accepted_is_valid}
use Rattle.written_validity.proofs.OtherPlaces.{valid_at_each_place}
use Rattle.written_validity.proofs.laws.law_validated_bodies.Goals as goal

pub returns : goal.returns
returns c = record { accepted = accepted_is_valid; places = valid_at_each_place }
