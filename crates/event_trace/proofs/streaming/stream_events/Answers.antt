-- At the start of a walk the machine is at the start of the program.
use Rattle.std.proofs.Common.{ℕ, List, length, ◌∙◌, ap}
use Rattle.mark_checker.specs.Places.{Checked}
use Rattle.machine_model.specs.Machine.{State}
use Rattle.machine_model.specs.declared.event.Event.{Event}
use Rattle.sequencer.specs.Machines.{MachineView, state, units_of}
use Rattle.event_trace.specs.Following.{state_from}
use Rattle.event_trace.proofs.Steps.{played}
use Rattle.event_trace.proofs.streaming.stream_events.Goals as goal

pub returns-clause-machine : goal.returns-clause-machine
returns-clause-machine g c =
    let m = c.in_ok-start.start in
    let start = c.in_ok-start.ensures in
    let events = c.args.events.now in
    let p = c.args.accepted.now.program in
    ap (λ (w : MachineView). state w) c.into_machine.ensures
    ∙ c.in_ok-walk.ensures.left
    ∙ ap (λ (a : Checked). state_from a.program (units_of m) (length m.history) (state m) events) start.accepted
    ∙ ap (λ (k : ℕ). state_from p k (length m.history) (state m) events) start.units
    ∙ ap (λ (es : List Event). state_from p c.args.units (length es) (state m) events) start.history
    ∙ ap (λ (s : State). state_from p c.args.units 0 s events) start.opening
    ∙ played p c.args.units events
