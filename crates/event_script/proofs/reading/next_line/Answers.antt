-- The first LF ends the first line; without one the text is one line.
use Rattle.event_script.proofs.FirstLine.{lines_more}
use Rattle.event_script.proofs.reading.next_line.Goals as goal

pub returns-in-Some-clause-lines : goal.returns-in-Some-clause-lines
returns-in-Some-clause-lines c = lines_more c.args.text.now c.in-Some.parts.0.now c.in-Some.parts.1.now c.in-Some.ensures.parts
