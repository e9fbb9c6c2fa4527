use Rattle.task_lives.proofs.Counted as lemmas
use Rattle.task_lives.proofs.laws.lives_add_up.Goals as goal

pub returns : goal.returns
returns c = λ p units history s h. lemmas.lives_add_up c.events_count.ensures p units history s h
