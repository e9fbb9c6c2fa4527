-- The search, and that the entries are marked.
use Rattle.std.proofs.Common.{None, length}
use Rattle.task_graph.specs.SearchSteps.{Search}
use Rattle.task_graph.proofs.Searches.{left_to_do}
use Rattle.finding_paths.specs.Costly.{ComesUnsent}
use Rattle.finding_paths.specs.Steps.{FollowsUnsent}
use Rattle.finding_paths.proofs.Unsent.{AreBegun}
use Rattle.finding_paths.proofs.sending.unsent.Given as goal

abbrev pub invariant-loop-i : goal.invariant-loop-i
invariant-loop-i l = record {
  begun : AreBegun l.program l.marks.items;
  search : Search (length l.program.code) (ComesUnsent l.program l.register) (FollowsUnsent l.program l.register) l.marks.items l.work.items None;
}

abbrev pub decreases-loop-i : goal.decreases-loop-i
decreases-loop-i l = left_to_do l.marks.items l.work.items
