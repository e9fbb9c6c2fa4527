-- After the last unit there is none, and else there is one more.
use Rattle.std.proofs.Common.{◌≡◌, slice_get, None, arith}
use Rattle.unit_core.specs.Units.{active_of}
use Rattle.sequencer.specs.Machines.{state}
use Rattle.event_trace.proofs.LostUnits.{lost_past, lost_more}
use Rattle.event_trace.proofs.foresight.add_lost.Goals as goal

pub returns-in_default : goal.returns-in_default
returns-in_default c =
    let queue = (state c.args.machine.now).queue in
    let none : slice_get queue c.args.position ≡ None = first_of (cc, grind arith) in
    lost_past c.args.change.now c.args.position queue c.args.changes.now.items none

pub returns : goal.returns
returns c =
    lost_more c.args.change.now c.args.position c.task-task.result (state c.args.machine.now).queue (active_of c.in-Some.unit.now) c.args.changes.now.items c.add.new.changes.items
    c.in-Some.ensures c.task-task.ensures c.in_ok-add.ensures
