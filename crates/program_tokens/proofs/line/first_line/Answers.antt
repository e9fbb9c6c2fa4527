-- The line is what stands before the first LF, or the whole text.
use Rattle.program_tokens.proofs.Cuts.{cut_more, cut_last}
use Rattle.program_tokens.proofs.line.first_line.Goals as goal

pub returns-in-Some-clause-more : goal.returns-in-Some-clause-more
returns-in-Some-clause-more c = cut_more c.args.text.now c.in-Some.end c.in-Some.ensures

pub returns-in-None-clause-last : goal.returns-in-None-clause-last
returns-in-None-clause-last c = cut_last c.args.text.now c.in-None.ensures
