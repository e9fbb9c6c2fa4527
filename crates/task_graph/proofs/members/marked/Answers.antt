use Rattle.std.proofs.Common.{◌≡◌, true, false, filter, ◌∙◌, ap, sym}
use Rattle.std.specs.List.{range_with_len}
use Rattle.task_graph.specs.SearchSteps.{is_marked}
use Rattle.task_graph.proofs.Listed.{takes_one, takes_none}
use Rattle.task_graph.proofs.members.marked.Goals as goal
use Rattle.task_graph.proofs.members.marked.Goals.{then-mark+in_ok-push, else-mark}

pub loop-i-preserved : goal.loop-i-preserved
loop-i-preserved c = elim c.if-mark.branch [
  | then-mark+in_ok-push w ↦
      let pushed = w.in_ok-push.ensures.items in
      let same = w.list-is in
      let before = c.loop-i.invariant in
      let more = takes_one (is_marked c.args.marks.now) c.loop-i.i w.if-mark.true in
      cc (pushed, same, before, more)
  | else-mark w ↦
      let same = w.list-is in
      let before = c.loop-i.invariant in
      let more = takes_none (is_marked c.args.marks.now) c.loop-i.i w.if-mark.false in
      cc (same, before, more)
]
