use Rattle.machine_model.specs.Answer.{refusal}
use Rattle.processor_steps.proofs.TriedSteps.{ok_where_running}
use Rattle.processor_steps.proofs.known.known.Goals as goal

pub returns : goal.returns
returns c = λ units s e runs none.
    let p = c.args.program.now in
    ((c.answer_is_next.ensures p units s 0 e c.start.ensures.well_formed).0 (ok_where_running s.outcome (refusal p units s e) runs none)).0
