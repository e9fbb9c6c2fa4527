use Rattle.task_lives.proofs.Counted as lemmas
use Rattle.task_lives.proofs.laws.histories_fit.Goals as goal

pub returns : goal.returns
returns c = λ p units history s h. lemmas.histories_fit c.events_count.ensures p units history s h
