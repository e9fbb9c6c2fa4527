-- The machine is what the events so far leave, with their answers.
use Rattle.std.proofs.Common.{◌≡◌, take}
use Rattle.machine_model.specs.Answer.{play}
use Rattle.sequencer.specs.Machines.{SameRing, units_of}
use Rattle.verdict_report.specs.Playing.{played_so_far}
use Rattle.verdict_report.proofs.replaying.play_events.Given as goal

abbrev pub invariant-loop-event : goal.invariant-loop-event
invariant-loop-event l =
    let start = l.initial.machine in
    (played_so_far l.machine l.answers.items ≡ play start.accepted.program (units_of start) (take l.event-index l.events))
    × SameRing start l.machine
