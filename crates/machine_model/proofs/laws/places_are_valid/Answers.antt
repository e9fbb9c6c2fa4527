-- By induction on the list of events.
use Rattle.machine_model.proofs.Places as places
use Rattle.machine_model.proofs.laws.places_are_valid.Goals as goal

pub returns : goal.returns
returns c = λ p units events s formed sound. places.places_valid p formed sound units events s
