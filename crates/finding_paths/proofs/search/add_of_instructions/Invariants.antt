-- What may be told so far is picked.
use Rattle.finding_paths.specs.Candidates.{up_to, of_instruction}
use Rattle.finding_paths.specs.Steps.{Adds}
use Rattle.finding_paths.proofs.search.add_of_instructions.Given as goal

abbrev pub invariant-loop-i : goal.invariant-loop-i
invariant-loop-i l = Adds l.program (up_to of_instruction l.i) l.initial.list.items l.list.items
