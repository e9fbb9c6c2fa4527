-- There are no more steps than events.
use Rattle.std.proofs.Common.{◌≡◌, ◌≤◌, ◌∙◌, ap, arith, List, ℕ, length}
use Rattle.machine_model.specs.declared.event.Event.{Event}
use Rattle.machine_model.specs.Answer.{most_events}
use Rattle.step_picture.specs.Steps.{count_of, steps_of}
use Rattle.step_picture.proofs.InSteps.{no_more_steps}
use Rattle.step_picture.proofs.chart.chart_of_steps.Goals as goal

pub returns-clause-room : goal.returns-clause-room
returns-clause-room c =
    let events = c.in_ok-events.events.items in
    let steps = c.deref-5.ensures.value ∙ (c.in_ok-columns.ensures ∙ ap (λ (es : List Event). steps_of es) c.deref-2.ensures.value) in
    let same : c.count-count.result ≡ count_of (steps_of events) = c.count-count.ensures ∙ ap (λ (xs : List ℕ). count_of xs) steps in
    let bound = no_more_steps events in
    let same_long = ap (λ (es : List Event). length es) c.in_ok-events.ensures in
    let few : length c.in_ok-events.events.items ≤ most_events = omega (arith, same_long, c.requires.room) in
    record {
      units = c.requires.some;
      columns = omega (arith, same, bound, few);
      events = few;
      retired = omega arith;
      lives = c.in_ok-lives-2.ensures.few.0;
    }
