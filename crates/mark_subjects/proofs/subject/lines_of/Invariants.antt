-- The lines so far, with those of what is left, are all lines.
use Rattle.std.proofs.Common.{◌≡◌, ◌++◌, map, length}
use Rattle.program_tokens.specs.Lines.{lines}
use Rattle.mark_subjects.proofs.subject.lines_of.Given as goal

abbrev pub invariant-lines : goal.invariant-lines
invariant-lines l = map (λ line. line.now) l.list.items ++ lines l.rest ≡ lines l.text

abbrev pub decreases-lines : goal.decreases-lines
decreases-lines l = length l.rest
