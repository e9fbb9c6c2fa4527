-- The search from the instruction.
use Rattle.std.proofs.Common.{◌≡◌, true, None, length}
use Rattle.task_graph.specs.Members.{Reaches}
use Rattle.task_graph.specs.Neighbours.{Follows}
use Rattle.task_graph.specs.SearchSteps.{is_marked, Search}
use Rattle.task_graph.proofs.Searches.{left_to_do}
use Rattle.exit_diagnostics.specs.Needless.{with_code}
use Rattle.exit_diagnostics.proofs.needless.reached.Given as goal

abbrev pub invariant-loop-i : goal.invariant-loop-i
invariant-loop-i l = record {
  begun : is_marked l.marks.items l.start ≡ true;
  search : Search (length l.code) (Reaches (with_code l.subject.program l.code) l.start) (Follows (with_code l.subject.program l.code)) l.marks.items l.work.items None;
}

abbrev pub decreases-loop-i : goal.decreases-loop-i
decreases-loop-i l = left_to_do l.marks.items l.work.items
