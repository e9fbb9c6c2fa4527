-- Both ways by induction on the first part.
use Rattle.machine_model.proofs.Replays.{cut_apart, joined}
use Rattle.machine_model.proofs.laws.replays_join.Goals as goal

pub returns : goal.returns
returns c = λ p units s s' xs ys. (cut_apart p units s s' xs ys, λ h. joined p units s h.0 s' xs ys h.1 h.2)
