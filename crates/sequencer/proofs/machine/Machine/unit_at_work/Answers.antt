use Rattle.std.proofs.Common.{◌≡◌, Some, sym, ap, ◌∙◌}
use Rattle.std.specs.Prelude.{slice_get}
use Rattle.machine_model.specs.declared.event.Spot.TheVariants.{Stopped}
use Rattle.unit_core.specs.Units.{active_of}
use Rattle.sequencer.specs.Machines.{MachineView, state}
use Rattle.sequencer.proofs.LentUnits.{not_stopped}
use Rattle.sequencer.proofs.machine.Machine.unit_at_work.Goals as goal

pub returns-in-Inside-clause-some : goal.returns-in-Inside-clause-some
returns-in-Inside-clause-some c =
    let k = c.in-Some.position in
    let found = active_of c.in-Some-unit.found.now in
    let here : slice_get (state c.args.self.now).queue k ≡ Some found =
    ap (λ (m : MachineView). slice_get (state m).queue k) (sym c.self.view_is) ∙ sym c.in-Some-unit.ensures in
    record { position = k; is_number = c.in-Some.ensures.position.1; is_unit = here; index = c.in-Inside.field-0; is_inside = sym c.spot.ensures ∙ c.in-Inside.is }

pub returns-in-Stopped-clause-none : goal.returns-in-Stopped-clause-none
returns-in-Stopped-clause-none c = λ u work.
    let k = c.in-Some.position in
    let found = active_of c.in-Some-unit.found.now in
    let here : slice_get (state c.args.self.now).queue k ≡ Some found =
    ap (λ (m : MachineView). slice_get (state m).queue k) (sym c.self.view_is) ∙ sym c.in-Some-unit.ensures in
    let stopped : found.place ≡ Stopped c.in-Stopped.field-0 = sym c.spot.ensures ∙ c.in-Stopped.is in
    not_stopped c.args.self.now c.args.unit k c.in-Stopped.field-0 u found c.law_replay.ensures.fits c.in-Some.ensures.position.0 c.in-Some.ensures.position.1 here stopped work
