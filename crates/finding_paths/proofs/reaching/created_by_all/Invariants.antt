-- The tasks so far have them.
use Rattle.finding_paths.specs.Steps.{AllHave}
use Rattle.finding_paths.proofs.reaching.created_by_all.Given as goal

abbrev pub invariant-loop-descriptor : goal.invariant-loop-descriptor
invariant-loop-descriptor l = AllHave l.program.tasks l.descriptor-index l.set
