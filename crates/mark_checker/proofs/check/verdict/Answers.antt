use Rattle.std.proofs.Common.{◌∙◌}
use Rattle.mark_checker.proofs.PlaceLists.{one_task_more}
use Rattle.mark_checker.proofs.check.verdict.Goals as goal

pub loop-task-preserved : goal.loop-task-preserved
loop-task-preserved c =
    let appended = c.in_ok-append_task.ensures in
    let before = c.loop-task.invariant in
    let more = one_task_more c.args.program.now c.args.cert.now c.loop-task.task in
    let same = c.survey-survey.ensures ∙ c.in_ok-surveyed.ensures in
    cc (appended, before, more, same)
