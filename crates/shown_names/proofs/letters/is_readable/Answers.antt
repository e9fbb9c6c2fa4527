-- The two ways in which a text is read.
use Rattle.shown_names.proofs.Readable.{readable_text, no_text}
use Rattle.shown_names.proofs.letters.is_readable.Goals as goal

pub returns-in-Ok : goal.returns-in-Ok
returns-in-Ok c = readable_text _ _ c.in-Ok.ensures.cases.1 (rw (← c.in-Ok.ensures.cases.0) c.has_steering.ensures)

pub returns-in-Err : goal.returns-in-Err
returns-in-Err c = no_text _ c.in-Err.ensures.cases.0
