-- The notes so far show the paths of the findings so far.
use Rattle.std.proofs.Common.{◌≡◌, take}
use Rattle.std.specs.List.{flat_map}
use Rattle.mark_subjects.specs.Parts.{paths}
use Rattle.mark_diagnostics.specs.Errors.{path_shown}
use Rattle.mark_diagnostics.proofs.mask.register_notes.Given as goal

abbrev pub invariant-loop-one : goal.invariant-loop-one
invariant-loop-one l = paths l.notes.items ≡ flat_map (path_shown l.subject) (take l.one-index l.shown)
