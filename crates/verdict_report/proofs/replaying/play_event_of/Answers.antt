-- An event that is allowed leaves one state; one that is refused leaves the machine.
use Rattle.verdict_report.proofs.Plays.{takes, refuses}
use Rattle.verdict_report.proofs.replaying.play_event_of.Goals as goal

pub returns-in-Ok-clause-answer : goal.returns-in-Ok-clause-answer
returns-in-Ok-clause-answer c = λ answers. takes c.next_is_after.ensures c.args.machine.now c.apply.new.self c.args.event answers c.in-Ok.ensures.answer c.in-Ok.ensures.ok

pub returns-in_default-clause-answer : goal.returns-in_default-clause-answer
returns-in_default-clause-answer c = λ answers. refuses c.args.machine.now c.apply.new.self c.args.event _ answers c.in-Err.ensures.answer c.in_default.not-OutOfMemory c.in-Err.ensures.err
