use Rattle.std.proofs.Common.{◌≡◌, ◌+◌, ◌≤◌, None, List, length, ◌++◌, ◌∷◌, [], Ok, subst}
use Rattle.machine_model.specs.declared.event.Event.{Event}
use Rattle.machine_model.specs.Machine.{State}
use Rattle.machine_model.specs.Step.{Next}
use Rattle.machine_model.specs.Replay.{ReplaysFrom}
use Rattle.machine_model.specs.Answer.{refusal, most_events}
use Rattle.machine_model.specs.Claims.{count_h}
use Rattle.machine_model.specs.HeadEvent.{growth}
use Rattle.processor_steps.specs.Processors.{ProcessorView, Keeps, Steps, state_of}
use Rattle.sequencer.specs.Machines.{MachineView, IsMachine, state, units_of}
use Rattle.std.specs.List.{All}
use Rattle.sequencer.specs.Rings.{AreDistinct, EventFits}
use Rattle.sequencer.proofs.Machines.{applied, goes_on}
use Rattle.sequencer.proofs.machine.Machine.law_replay.Goals as goal

pub returns-clause-applied : goal.returns-clause-applied
returns-clause-applied c =
    let i = c.self.inside in
    let m : MachineView = record { accepted = i.accepted.now; processor = i.processor; history = i.history } in
    subst (λ (x : MachineView). (e : Event) (done : Unit {0}) (p : ProcessorView) → Steps x.accepted.program x.processor (length x.history) e (Ok done) p → IsMachine (record x { processor = p; history = x.history ++ e ∷ [] })) c.self.view_is
    (λ e done p steps. applied m e done p c.self.invariant steps c.accepted_replays.ensures.more)

pub returns-clause-allowed : goal.returns-clause-allowed
returns-clause-allowed c =
    let i = c.self.inside in
    subst (λ (x : MachineView). (e : Event) (s : State) → Next x.accepted.program (units_of x) (state x) e s → refusal x.accepted.program (units_of x) (state x) e ≡ None) c.self.view_is
    (λ e s next. c.accepted_replays.ensures.allowed i.processor.queue.capacity (state_of i.processor) s e next)

pub returns-clause-grows : goal.returns-clause-grows
returns-clause-grows c =
    let i = c.self.inside in
    subst (λ (x : MachineView). (e : Event) (s : State) → Next x.accepted.program (units_of x) (state x) e s → count_h s ≡ count_h (state x) + growth (state x) e) c.self.view_is
    (λ e s next. c.accepted_replays.ensures.grows i.processor.queue.capacity (state_of i.processor) s e next)

pub returns-clause-goes_on : goal.returns-clause-goes_on
returns-clause-goes_on c =
    let i = c.self.inside in
    let m : MachineView = record { accepted = i.accepted.now; processor = i.processor; history = i.history } in
    subst (λ (x : MachineView). (es : List Event) (p : ProcessorView) → ReplaysFrom x.accepted.program (units_of x) (state x) es (state_of p) → Keeps x.processor p → length x.history + length es ≤ most_events → IsMachine (record x { processor = p; history = x.history ++ es })) c.self.view_is
    (λ es p events kept room. goes_on m es p c.self.invariant events kept room c.accepted_replays.ensures.more)

pub returns-clause-fits : goal.returns-clause-fits
returns-clause-fits c =
    let i = c.self.inside in
    subst (λ (x : MachineView). length (state x).queue ≤ units_of x) c.self.view_is
    (c.accepted_replays.ensures.fits i.processor.queue.capacity i.history (state_of i.processor) c.self.invariant.replay)

pub returns-clause-distinct : goal.returns-clause-distinct
returns-clause-distinct c =
    let i = c.self.inside in
    subst (λ (x : MachineView). AreDistinct (state x).queue) c.self.view_is
    (c.accepted_replays.ensures.distinct i.processor.queue.capacity i.history (state_of i.processor) c.self.invariant.replay)

pub returns-clause-in_range : goal.returns-clause-in_range
returns-clause-in_range c =
    let i = c.self.inside in
    subst (λ (x : MachineView). All (EventFits (length x.accepted.program.tasks) (units_of x)) x.history) c.self.view_is
    (c.accepted_replays.ensures.in_range i.processor.queue.capacity i.history (state_of i.processor) c.self.invariant.some_unit c.self.invariant.replay)
