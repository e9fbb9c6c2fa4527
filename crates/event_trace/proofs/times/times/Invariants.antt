-- The times so far, and those of the events that come.
use Rattle.std.proofs.Common.{◌≡◌, ◌≤◌, ◌+◌, ◌++◌, drop}
use Rattle.event_trace.specs.Times.{times_from, times_of}
use Rattle.event_trace.proofs.times.times.Given as goal

abbrev pub invariant-loop-event : goal.invariant-loop-event
invariant-loop-event l = record {
  few : l.time ≤ l.event-index;
  active : l.active ≤ l.event-index + 4294967296;
  times : l.times.items ++ times_from l.source l.active l.time (drop l.event-index l.events) ≡ times_of l.source l.events;
}
