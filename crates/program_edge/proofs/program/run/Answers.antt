-- What was asked, with nothing left open, is what `answer_reader` answers.
use Rattle.std.proofs.Common.{refl}
use Rattle.program_edge.proofs.program.run.Goals as goal

pub returns : goal.returns
returns g c = record {
  asked = c.asked-asked.result;
  by_words = c.asked-asked.ensures;
  settled = c.settle_asked-settled.result;
  colored = c.settle_asked-settled.ensures;
  ending = c.answer_reader.result;
  answered = c.answer_reader.ensures;
  ended = refl;
}
