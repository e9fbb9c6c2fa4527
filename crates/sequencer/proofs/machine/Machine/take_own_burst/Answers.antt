-- The burst is fresh, so its unit takes it over, and the events after the history are those of its steps.
use Rattle.std.proofs.Common.{◌≡◌, ℕ, ◌<◌, length, ◌++◌, sym, ap, ◌∙◌, subst, arith}
use Rattle.std.specs.Prelude.{replicate}
use Rattle.machine_model.specs.declared.event.Event.TheVariants.{Exec}
use Rattle.machine_model.specs.declared.event.Standing.TheVariants.{Running}
use Rattle.unit_core.specs.Bursts.{BurstView}
use Rattle.processor_steps.specs.Processors.{Keeps}
use Rattle.sequencer.specs.Machines.{MachineView, IsMachine, state}
use Rattle.sequencer.specs.Rings.{AreDistinct}
use Rattle.sequencer.specs.Bursts.{Takes}
use Rattle.sequencer.proofs.TakenBursts.{Found, fresh_at, takes, is_machine}
use Rattle.sequencer.proofs.machine.Machine.take_own_burst.Goals as goal

pub returns-in-Ok-clause-taken : goal.returns-in-Ok-clause-taken
returns-in-Ok-clause-taken c = λ some.
    let i = c.self.inside in
    let m : MachineView = record { accepted = i.accepted.now; processor = i.processor; history = i.history } in
    let b : BurstView = c.args.burst.now in
    let k = c.in-Some.position in
    let there = c.in-Some.ensures.some in
    let found : Found m b k = subst (λ (x : MachineView). Found x b k) (sym c.self.view_is) (there.0, c.requires, there.1, there.2) in
    let fresh = fresh_at m b k found in
    let runs : (state m).outcome ≡ Running = ap (λ (x : MachineView). (state x).outcome) c.self.view_is ∙ c.is_running.ensures.0 c.if-not-is_running.false in
    let distinct = subst (λ (x : MachineView). AreDistinct (state x).queue) (sym c.self.view_is) c.law_replay.ensures.distinct in
    let same : c.steps-steps.result ≡ b.steps = c.steps-steps.ensures.value in
    let history : c.push_many.new.self ≡ m.history ++ replicate b.steps (Exec k) = c.push_many.ensures ∙ ap (λ (n : ℕ). m.history ++ replicate n (Exec k)) same in
    let long : length m.history ≡ c.len.result = sym c.len.ensures in
    let done = takes c.bursts_are_events.ensures m b fresh c.take_burst.new.self c.push_many.new.self runs c.steps-steps.ensures.made distinct
    (c.in-Ok.ensures.state fresh.unit fresh.is_unit) history (omega (arith, c.if-len-steps-gt-MOST_EVENTS.false)) in
    (same, subst (λ (x : MachineView). Takes x b (record m { processor = c.take_burst.new.self; history = c.push_many.new.self })) c.self.view_is done)

pub invariant_of-self : goal.invariant_of-self
invariant_of-self c =
    let m = c.args.self.now in
    let p' = c.take_burst.new.self in
    let h' = c.push_many.new.self in
    let some : 0 < c.steps-steps.result = subst (λ (n : ℕ). 0 < n) (sym c.steps-steps.ensures.value) c.in-Some.ensures.some.0 in
    let taken = (returns-in-Ok-clause-taken c some).1 in
    let kept = subst (λ (x : MachineView). Keeps x.processor p') c.self.view_is c.take_burst.ensures.kept in
    let same : (let x : MachineView = record { accepted = c.self.inside.accepted.now; processor = c.self.inside.processor; history = c.self.inside.history } in x) ≡ m = c.self.view_is in
    subst (λ (x : MachineView). IsMachine (record x { processor = p'; history = h' })) (sym same)
    (is_machine m c.args.burst.now p' h' (subst (λ (x : MachineView). Takes m c.args.burst.now (record x { processor = p'; history = h' })) same taken) kept c.law_replay.ensures.goes_on)
