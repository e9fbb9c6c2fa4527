use Rattle.unit_turns.proofs.Imports.{length, state, units_of}
use Rattle.unit_turns.proofs.EventOrder.{allowed_by, room_by}
use Rattle.unit_turns.proofs.Waiting.{allowed_of_waiting, no_task_by}
use Rattle.unit_turns.proofs.laws.law_waits.Goals as goal

pub returns : goal.returns
returns c =
    let m = c.args.machine.now in
    λ unit e running waits names own.
    let room = room_by m.accepted.program (units_of m) (state m) (length m.history) e own.is_allowed in
    allowed_of_waiting m unit running room c.law_ring.ensures (c.law_goes_on.ensures running room)
    (no_task_by m c.choice.result c.choice.ensures.value c.choice.ensures.none running)
    waits e names (allowed_by m.accepted.program (units_of m) (state m) (length m.history) e own.is_allowed) own.belongs
