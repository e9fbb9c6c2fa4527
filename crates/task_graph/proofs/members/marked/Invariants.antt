use Rattle.std.proofs.Common.{◌≡◌}
use Rattle.std.specs.Prelude.{filter}
use Rattle.std.specs.List.{range_with_len}
use Rattle.task_graph.specs.SearchSteps.{is_marked}
use Rattle.task_graph.proofs.members.marked.Given as goal

abbrev pub invariant-loop-i : goal.invariant-loop-i
invariant-loop-i l = l.list.items ≡ filter (is_marked l.marks) (range_with_len 0 l.i)
