-- The diagnostics for the findings so far.
use Rattle.std.proofs.Common.{take}
use Rattle.std.specs.List.{AllZip}
use Rattle.mark_diagnostics.specs.Errors.{Says}
use Rattle.mark_diagnostics.proofs.error.told_diagnostics.Given as goal

abbrev pub invariant-loop-finding : goal.invariant-loop-finding
invariant-loop-finding l = AllZip (Says l.subject) (take l.finding-index l.findings) l.list.items
