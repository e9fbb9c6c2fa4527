-- The file is as it was.
use Rattle.std.proofs.Common.{refl}
use Rattle.program_edge.proofs.answer.file.Goals as goal

pub returns-in-Err-clause-unfiled : goal.returns-in-Err-clause-unfiled
returns-in-Err-clause-unfiled g c = record {
  path = c.in-Some.path;
  asked = c.in-Some.is;
  reason = c.in-Err.reason;
  told = refl;
  stays = rw (← c.as_str.ensures.value) c.in-Err.ensures.err;
  others = rw (← c.as_str.ensures.value) c.replace.ensures.others;
}
