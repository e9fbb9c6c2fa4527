use Rattle.unit_turns.proofs.Imports.{ℕ, sym, subst, ◌∙◌, StepsReport, IsStepsReportOf}
use Rattle.unit_turns.proofs.Reporting.{reported}
use Rattle.unit_turns.proofs.runner.run_steps_on.Goals as goal

pub returns : goal.returns
returns c =
    let checked = c.args.accepted.now in
    let size = c.get-size.result in
    let report : StepsReport = record { machine = c.run.new.machine; how = c.how_of-how.result; steps = c.in-Ok-run.steps } in
    let counted : IsStepsReportOf checked size c.get-most.result c.args.predictor report =
    reported c.in-Ok.machine checked size c.get-most.result c.args.predictor c.run.new.predictor report
    c.in-Ok.ensures.accepted (c.in-Ok.ensures.capacity ∙ sym c.get-size.ensures.value) c.in-Ok.ensures.opening c.in-Ok.ensures.history c.in-Ok-run.ensures.kept c.in-Ok-run.ensures.course c.in-Ok-run.ensures.steps c.history.ensures.replay
    c.how_of-how.ensures.ended c.how_of-how.ensures.running in
    subst (λ (n : ℕ). IsStepsReportOf checked n c.args.budget c.args.predictor report) c.get-size.ensures.value
    (subst (λ (n : ℕ). IsStepsReportOf checked size n c.args.predictor report) c.get-most.ensures.value counted)
