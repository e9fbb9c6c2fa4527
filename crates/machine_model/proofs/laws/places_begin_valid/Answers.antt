-- The entry is reached from itself.
use Rattle.machine_model.proofs.Places as places
use Rattle.machine_model.proofs.laws.places_begin_valid.Goals as goal

pub returns : goal.returns
returns c = λ p s t formed sound. places.begins_valid p formed sound s t
