use Rattle.std.proofs.Common.{ap, ◌∙◌}
use Rattle.unit_core.specs.Units.{UnitView, active_of}
use Rattle.sequencer.specs.Machines.{MachineView}
use Rattle.sequencer.proofs.machine.Machine.lease.Goals as goal

pub returns-in-Some-clause-some : goal.returns-in-Some-clause-some
returns-in-Some-clause-some c = (
  c.lease.ensures.accepted ∙ ap (λ (m : MachineView). m.accepted) c.self.view_is,
  (active_of c.in-Some.found.now, c.in-Some.ensures.some, ap (λ (u : UnitView). active_of u) c.lease.ensures.unit, c.lease.ensures.reads),
)
