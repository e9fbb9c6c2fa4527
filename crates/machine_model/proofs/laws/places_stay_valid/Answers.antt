-- A unit goes on over an inner edge.
use Rattle.machine_model.proofs.Places as places
use Rattle.machine_model.proofs.laws.places_stay_valid.Goals as goal

pub returns : goal.returns
returns c = λ p u index m a b memory formed sound. places.stays_valid p formed sound u index m a b memory
