use Rattle.task_descriptor.specs.WellFormed.{limits}
use Rattle.demonstration.proofs.ShownReads.{nothing_shown}
use Rattle.demonstration.proofs.laws.sound_marks_show_nothing.Goals as goal

pub returns : goal.returns
returns c = λ p well sound. nothing_shown p (limits p well).code sound
