-- The events that say nothing of a life.
use Rattle.task_lives.proofs.Followed.{follows_transfer, follows_drain, follows_fault}
use Rattle.task_lives.proofs.EachEvent.{passed}
use Rattle.task_lives.proofs.following.Following.follow.Goals as goal

pub returns-in-Transfer : goal.returns-in-Transfer
returns-in-Transfer c = passed c.args.self.now c.pass.new.self c.args.event _ c.in-Transfer.is c.pass.ensures (follows_transfer c.args.self.now _ _)

pub returns-in-Drain : goal.returns-in-Drain
returns-in-Drain c = passed c.args.self.now c.pass-in-Drain.new.self c.args.event _ c.in-Drain.is c.pass-in-Drain.ensures (follows_drain c.args.self.now _ _)

pub returns-in-Fault : goal.returns-in-Fault
returns-in-Fault c = passed c.args.self.now c.pass-in-Fault.new.self c.args.event _ c.in-Fault.is c.pass-in-Fault.ensures (follows_fault c.args.self.now)
