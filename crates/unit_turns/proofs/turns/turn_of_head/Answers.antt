use Rattle.unit_turns.proofs.Imports.{length, state}
use Rattle.unit_turns.specs.declared.predictor.Predictor.TheVariants.{First}
use Rattle.unit_turns.proofs.Going.{on_ok, one_more, runs_on}
use Rattle.unit_turns.proofs.turns.turn_of_head.Goals as goal

pub returns-clause-grows : goal.returns-clause-grows
returns-clause-grows c =
    let m = c.args.machine.now in
    on_ok c.apply.result
    (λ done on. one_more m.accepted.program m c.apply.new.machine First c.head_event-event.result (c.head_event-event.ensures.running.1 (runs_on c.args.budget (state m) (length m.history) on)) (done First))
    c.apply.ensures.done
