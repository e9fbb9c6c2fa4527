-- The marks so far, with those that are left, are all marks.
use Rattle.std.proofs.Common.{◌≡◌, drop}
use Rattle.program_statements.specs.Statements.{marks_after}
use Rattle.program_statements.proofs.marks.marks_after.Given as goal

abbrev pub invariant-loop-token : goal.invariant-loop-token
invariant-loop-token l = marks_after l.marks (drop l.token-index l.tokens) ≡ marks_after l.fn.none l.tokens
