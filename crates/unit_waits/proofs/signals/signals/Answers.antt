-- One unit more.
use Rattle.std.proofs.Common.{List, ◌++◌, ap, ◌∙◌}
use Rattle.sequencer.specs.Machines.{state}
use Rattle.unit_waits.specs.Signals.{Shown, ring_signals, unit_signals}
use Rattle.run_picture.proofs.Parts.{range_more}
use Rattle.unit_waits.proofs.signals.signals.Goals as goal

pub loop-unit-preserved : goal.loop-unit-preserved
loop-unit-preserved c =
    let l = c.loop-unit in
    let s = state c.args.machine.now in
    let a = c.args.accepted.now in
    c.in_ok-push_unit.ensures
    ∙ ap (λ (front : List Shown). front ++ unit_signals a.program c.args.units s c.args.events.now l.unit) l.invariant
    ∙ range_more (unit_signals a.program c.args.units s c.args.events.now) (ring_signals c.args.units s) l.unit
