-- The least certificate decides.
use Rattle.judged_fixes.proofs.judge.marks_in.Goals as goal

pub returns-then-accepts : goal.returns-then-accepts
returns-then-accepts c = (c.accepts.ensures.accepted c.if-accepts.true).sound
