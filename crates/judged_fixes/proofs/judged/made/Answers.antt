-- What is made is taken if its marks are right.
use Rattle.std.proofs.Common.{rules}
use Rattle.judged_fixes.proofs.Judging.{made_taken, unread_not_taken}
use Rattle.judged_fixes.proofs.judged.made.Goals as goal

pub returns-then-eq-clause-taken : goal.returns-then-eq-clause-taken
returns-then-eq-clause-taken c =
    unread_not_taken c.args.text.now c.in-Some.new.items c.args.proposal.now.edits.items c.args.proposal.now.from.items c.in_ok-marks.marks
    (search rules) (search rules) (search rules)

pub returns-clause-taken : goal.returns-clause-taken
returns-clause-taken c =
    made_taken c.args.text.now c.args.proposal.now.edits.items c.args.proposal.now.from.items c.in_ok-marks.marks
    record { text = c.new.result; fixes = c.len.result; is_right = c.are_right.result } (search rules) (search rules) (search rules)
