-- One more event is one step of the fold.
use Rattle.std.proofs.Common.{◌+◌, ◌<◌, ◌++◌, ◌∷◌, List, [], Result, ◌∙◌, sym, ap, take, length, arith}
use Rattle.machine_model.specs.declared.event.Event.{Event}
use Rattle.machine_model.specs.declared.event.Refused.{Refused}
use Rattle.machine_model.specs.Answer.{play, play_event}
use Rattle.sequencer.specs.Machines.{units_of}
use Rattle.verdict_report.specs.Playing.{played_so_far}
use Rattle.verdict_report.proofs.Plays.{play_more, steps_on}
use Rattle.verdict_report.proofs.replaying.play_events.Goals as goal

pub loop-event-preserved : goal.loop-event-preserved
loop-event-preserved c =
    let start = c.args.machine.now in
    let p = start.accepted.program in
    let units = units_of start in
    let events = c.args.events.now in
    let i = c.loop-event.event-index in
    let e = c.event-item.result in
    let answers = c.loop-event.answers.items in
    let there : i < length events = omega arith in
    let pushed = c.in_ok-push.ensures.items in
    let step = c.in_ok-play_event_of.ensures.answer answers
    ∙ steps_on start c.loop-event.machine answers (play p units (take i events)) e c.loop-event.invariant.1 c.loop-event.invariant.0
    ∙ ap (λ (x : Event). play_event p units (play p units (take i events)) x) c.event-item.is
    ∙ sym (play_more p units events i e there) in (
      ap (λ (told : List (Result (Unit {0}) Refused)). played_so_far c.play_event_of.new.machine told) pushed ∙ step,
      record { accepted = c.play_event_of.ensures.kept.accepted ∙ c.loop-event.invariant.1.accepted; units = c.play_event_of.ensures.kept.units ∙ c.loop-event.invariant.1.units },
    )
