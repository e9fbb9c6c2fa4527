-- The registers so far have their marks.
use Rattle.finding_paths.specs.Steps.{AreUnsent, marks_of}
use Rattle.finding_paths.proofs.table.unsent_table.Given as goal

abbrev pub invariant-loop-number : goal.invariant-loop-number
invariant-loop-number l = AreUnsent l.program l.number (marks_of l.table.items)
