-- By the lines of the text.
use Rattle.event_script.specs.EventScript.{lines, names_in}
use Rattle.event_script.proofs.BadLines.{first_refuses}
use Rattle.event_script.proofs.laws.refused_for_the_first.Goals as goal

pub returns : goal.returns
returns c = λ p text. first_refuses 1 (names_in p.tasks) (lines text)
