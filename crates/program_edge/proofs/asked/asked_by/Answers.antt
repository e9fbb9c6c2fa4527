-- The job that was found is the one of which more than one file is standard input.
use Rattle.program_edge.proofs.asked.asked_by.Goals as goal

pub returns-then-inputs-gt1 : goal.returns-then-inputs-gt1
returns-then-inputs-gt1 c = record {
  request = c.in-Ok.asked;
  asked = (c.in-Ok.ensures.request, c.in-Ok.ensures.files);
  twice = rw (← c.inputs.ensures) c.if-inputs-gt1.true;
}
