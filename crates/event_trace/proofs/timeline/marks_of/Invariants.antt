-- The marks so far, and those of the events that come.
use Rattle.std.proofs.Common.{◌≡◌, ◌≤◌, ◌++◌, drop}
use Rattle.event_trace.specs.Timeline.{marks_from, marks_of}
use Rattle.event_trace.proofs.timeline.marks_of.Given as goal

abbrev pub invariant-loop-index : goal.invariant-loop-index
invariant-loop-index l = record {
  few : l.retired ≤ l.index;
  marks : l.marks.items ++ marks_from l.units l.times l.retired l.index (drop l.index l.events) ≡ marks_of l.units l.times l.events;
}
