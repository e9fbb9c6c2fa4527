use Rattle.std.proofs.Common.{◌∙◌, sym, ap}
use Rattle.std.proofs.lemmas.Bool.{eqb-true, eq-eqb}
use Rattle.machine_model.specs.Machine.{Active}
use Rattle.unit_core.specs.Units.{active_of}
use Rattle.processor_steps.specs.Processors.{QueueView, actives}
use Rattle.processor_steps.proofs.Queues.{is_there, unit_is}
use Rattle.processor_steps.proofs.queue.Queue.has_serial.Goals as goal

pub returns-in-Some : goal.returns-in-Some
returns-in-Some c =
    let items = c.self.inside.ring.items in
    let same = ap (λ (q : QueueView). actives q) c.self.view_is in
    let x = c.in-Some.unit.now in (
      λ yes. (active_of x, is_there items c.args.self.now c.args.position x same c.in-Some.ensures, sym c.serial.ensures ∙ eqb-true c.serial.result c.args.serial yes),
      λ found. eq-eqb c.serial.result c.args.serial (c.serial.ensures ∙ ap (λ (v : Active). v.serial) (unit_is items c.args.self.now c.args.position x found.0 same c.in-Some.ensures found.1) ∙ found.2),
    )
