-- Each part is what its call says.
use Rattle.std.proofs.Common.{rules}
use Rattle.explain_report.proofs.explained.refusal_explained.Goals as goal

pub returns : goal.returns
returns c = record {
  errors = c.in_ok-errors.errors.items;
  wrong = c.in_ok-errors.ensures;
  told = c.in_ok-judged.judged.errors.items;
  same = c.in_ok-judged.ensures.same;
  fixed = c.in_ok-judged.ensures.fixed;
  words = c.in_ok-judged.ensures.words;
  said = search rules;
  marked = search rules;
  status = search rules;
}
