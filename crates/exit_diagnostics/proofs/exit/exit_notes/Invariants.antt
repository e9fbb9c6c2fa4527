-- The notes on places show no path.
use Rattle.std.proofs.Common.{◌≡◌}
use Rattle.mark_subjects.specs.Parts.{paths, way_paths}
use Rattle.exit_diagnostics.proofs.exit.exit_notes.Given as goal

abbrev pub invariant-loop-index : goal.invariant-loop-index
invariant-loop-index l = paths l.notes.items ≡ way_paths l.subject l.finding.index l.path
