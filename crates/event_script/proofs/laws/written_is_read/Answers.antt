-- By the lines that the text is cut into.
use Rattle.event_script.proofs.WrittenLines.{written_is_read}
use Rattle.event_script.proofs.laws.written_is_read.Goals as goal

pub returns : goal.returns
returns c = written_is_read c.args.program.now c.tasks.ensures.well_formed
