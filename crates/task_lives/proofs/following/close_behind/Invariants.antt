-- To end the lives of the tasks that are left gives what it gave at first.
use Rattle.std.proofs.Common.{length}
use Rattle.task_lives.proofs.Closing.{IsClosing}
use Rattle.task_lives.proofs.following.close_behind.Given as goal

abbrev pub invariant-loop-tail : goal.invariant-loop-tail
invariant-loop-tail l = IsClosing l.last l.ending l.kept l.initial.queue.items l.queue.items l.initial.lives.items l.lives.items

abbrev pub decreases-loop-tail : goal.decreases-loop-tail
decreases-loop-tail l = length l.queue.items
