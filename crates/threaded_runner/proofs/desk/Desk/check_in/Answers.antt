use Rattle.threaded_runner.proofs.Imports.{◌≡◌, ℕ, ◌+◌, ◌%◌, length, Option, sym, ap, ◌∙◌, subst, arith, length-replicate, replicate, slice_index, slice_set, unwrap_or, option_map, Exec, MachineView, state, Takes, DeskView, unit_for}
use Rattle.std.specs.Prelude.{vec_len}
use Rattle.unit_core.specs.Units.{UnitView}
use Rattle.processor_steps.specs.Processors.{position_with}
use Rattle.threaded_runner.proofs.Late.{execs_late}
use Rattle.threaded_runner.proofs.Locked.{execs_own, more, as_many}
use Rattle.threaded_runner.proofs.desk.Desk.check_in.Goals as goal

pub invariant_of-self-2 : goal.invariant_of-self-2
invariant_of-self-2 g c =
    let i = c.self.inside in
    let m = i.machine in
    let b = c.args.burst.now in
    let unit = c.unwrap_or-unit.result in
    let taken = c.in_ok-events.ensures.taken (omega (arith, c.if-events-eq0.false)) in
    let k = taken.1.fresh.position in
    let unit_at = λ (position : ℕ). unit_for m (Exec position) in
    let serial : c.serial.result ≡ b.before.serial = c.serial.ensures ∙ ap (λ (u : UnitView). u.serial) c.before-2.ensures.unit in
    let found : unit ≡ unit_at k =
    c.unwrap_or-unit.ensures
    ∙ ap (λ (o : Option ℕ). unwrap_or o 0) (c.unit_with.ensures ∙ ap (λ (s : ℕ). option_map unit_at (position_with (state m).queue s)) serial ∙ ap (λ (o : Option ℕ). option_map unit_at o) taken.1.owner) in
    let belongs : unit_for m (Exec k) ≡ unit = sym found in
    let worker = unit % vec_len i.counts in
    let counted = c.add.ensures ∙ ap (λ (n : ℕ). slice_set i.counts.items worker (slice_index i.counts.items worker + n)) taken.0 in (
      more m c.hand_in.new.machine i.counts.items c.add.new.counts.items (replicate b.steps (Exec k)) unit b.steps (vec_len i.counts) i.is_stopped i.asleep c.self.invariant.0
          (execs_own m (length i.counts.items) unit k b.steps c.law_replay.ensures.retired c.law_replay.ensures.active belongs)
          (length-replicate b.steps (Exec k)) taken.1.history c.in_ok-events.ensures.kept.units i.counts.ok.0
          counted,
      record {
        accepted = c.in_ok-events.ensures.kept.accepted ∙ c.self.invariant.1.accepted;
        units = c.in_ok-events.ensures.kept.units ∙ c.self.invariant.1.units;
        workers = as_many i.counts.items c.add.new.counts.items worker (slice_index i.counts.items worker + b.steps) counted ∙ c.self.invariant.1.workers;
        late = execs_late g.J.Naming.budget m.history c.hand_in.new.machine.history k b.steps taken.1.history c.self.invariant.1.late;
      },
    )

-- the machine within the desk is that of the desk as it was
pub returns-clause-taken : goal.returns-clause-taken
returns-clause-taken g c = λ some.
    let taken = c.in_ok-events.ensures.taken some in
    (taken.0, subst (λ (m : MachineView). Takes m c.args.burst.now c.hand_in.new.machine) (ap (λ (d : DeskView). d.machine) c.self.view_is) taken.1)
