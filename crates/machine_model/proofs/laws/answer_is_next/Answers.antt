-- Each test of the answer is a condition of the step.
use Rattle.machine_model.proofs.Answering.{answer_is_next}
use Rattle.machine_model.proofs.laws.answer_is_next.Goals as goal

pub returns : goal.returns
returns c = answer_is_next
