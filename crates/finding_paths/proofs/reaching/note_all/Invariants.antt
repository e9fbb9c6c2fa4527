-- The indices so far are noted.
use Rattle.std.proofs.Common.{take}
use Rattle.annotator.specs.Marking.{indices_of}
use Rattle.finding_paths.specs.Steps.{AreNoted}
use Rattle.finding_paths.proofs.reaching.note_all.Given as goal

abbrev pub invariant-loop-index : goal.invariant-loop-index
invariant-loop-index l = AreNoted (indices_of (take l.index-index l.list)) l.task l.initial.table l.table
