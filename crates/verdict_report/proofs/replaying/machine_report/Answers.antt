-- The machine after the events, with what it answered, is the replay of the events.
use Rattle.std.proofs.Common.{rules, ◌≡◌, ◌∙◌, ap, List, Result, ◌++◌}
use Rattle.machine_model.specs.Answer.{Played, play}
use Rattle.machine_model.specs.declared.event.Refused.{Refused}
use Rattle.sequencer.specs.Machines.{units_of}
use Rattle.verdict_report.specs.MachineText.{machine_text, standing_status}
use Rattle.jobs.specs.declared.job.ReplayEmit.TheVariants as emit
use Rattle.verdict_report.specs.Playing.{machine_emit, played_so_far}
use Rattle.verdict_report.specs.ReplayText.{answers_report, answers_text}
use Rattle.verdict_report.proofs.replaying.machine_report.Goals as goal

pub returns : goal.returns
returns c =
    let p = c.args.accepted.now.program in
    let units = c.args.units in
    let events = c.args.events.now in
    let left = c.play_events.new.machine in
    let over : c.in_ok-machine.machine.accepted ≡ c.args.accepted.now = search rules in
    let ring : units_of c.in_ok-machine.machine ≡ units = search rules in
    let played : played_so_far left c.in_ok-answers.answers.items ≡ play p units events =
    c.in_ok-answers.ensures.answers ∙ (λ j. play (over j).program (ring j) events) in
    let written : machine_emit c.args.form ≡ emit.Answers → c.in_ok-bytes.bytes.items ≡ (answers_report units p events).bytes =
    λ is. c.in_ok-bytes.ensures is
    ∙ ap (λ (answers : List (Result (Unit {0}) Refused)). answers_text answers ++ machine_text (played_so_far left answers).state) c.deref.ensures.value
    ∙ ap (λ (x : Played). answers_text x.answers ++ machine_text x.state) played in
    let status = c.standing_status_of.ensures
    ∙ ap standing_status c.outcome.ensures.value
    ∙ ap (λ (x : Played). standing_status x.state.outcome) played in
    record { answered = search (c.new.ensures, status); written = search (c.new.ensures, written) }
