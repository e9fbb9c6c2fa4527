-- The events are those of the runs, and the times and lives those of these events.
use Rattle.std.proofs.Common.{◌∙◌, List, ap}
use Rattle.std.specs.Prelude.{map}
use Rattle.machine_model.specs.declared.event.Event.{Event}
use Rattle.event_trace.specs.Times.{times_of}
use Rattle.event_trace.specs.Timeline.{marks_of, slice_of}
use Rattle.event_trace.proofs.timeline.timeline_of.Goals as goal

pub returns : goal.returns
returns c =
    let times = c.in_ok-times.ensures ∙ ap (λ (es : List Event). times_of c.args.source es) (c.deref.ensures.value ∙ c.in_ok-events.ensures) in
    let first = c.deref-2.ensures.value ∙ times in
    let lives = c.deref-3.ensures.value ∙ c.in_ok-lives.ensures.exact in
    let again = c.deref-4.ensures.value ∙ times in
    let events = c.deref-5.ensures.value ∙ c.in_ok-events.ensures in
    record {
      slices = c.in_ok-slices.ensures ∙ (λ i. map (slice_of (first i)) (lives i));
      marks = c.in_ok-marks.ensures ∙ (λ i. marks_of c.args.units (again i) (events i));
    }
