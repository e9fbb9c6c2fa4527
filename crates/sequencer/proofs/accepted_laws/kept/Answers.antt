-- The program's and the acceptance's own clauses.
use Rattle.std.proofs.Common.{subst}
use Rattle.task_descriptor.specs.Listing.{IsWellFormed}
use Rattle.sequencer.proofs.accepted_laws.kept.Goals as goal

pub returns-clause-formed : goal.returns-clause-formed
returns-clause-formed c = subst IsWellFormed c.program.ensures.value c.start.ensures.well_formed
