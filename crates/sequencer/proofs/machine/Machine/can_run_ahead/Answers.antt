use Rattle.std.proofs.Common.{◌≡◌, false, None, sym, ap, ◌∙◌, subst}
use Rattle.task_descriptor.specs.Listing.{Listing}
use Rattle.machine_model.specs.Unit.{exec_refusal}
use Rattle.machine_model.specs.Answer.{refusal}
use Rattle.machine_model.specs.declared.event.Event.TheVariants.{Exec}
use Rattle.sequencer.specs.Machines.{MachineView, state, units_of}
use Rattle.sequencer.proofs.ReadyUnits.{ahead_allowed}
use Rattle.sequencer.proofs.machine.Machine.can_run_ahead.Goals as goal

pub returns-clause-allowed : goal.returns-clause-allowed
returns-clause-allowed c = λ yes.
    let i = c.self.inside in
    let m : MachineView = record { accepted = i.accepted.now; processor = i.processor; history = i.history } in
    let alone = c.can_run_ahead.ensures.0 yes in
    subst (λ (v : MachineView). refusal v.accepted.program (units_of v) (state v) (Exec c.args.position) ≡ None) c.self.view_is
    (ahead_allowed m.accepted.program (units_of m) (state m) c.args.position alone.0 alone.1 (ap (λ (p : Listing). exec_refusal p false alone.0) (sym c.program.ensures.value) ∙ alone.2))
