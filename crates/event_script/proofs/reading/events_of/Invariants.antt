-- The events so far, before those of the lines that are left, are those of the text.
use Rattle.std.proofs.Common.{◌≡◌, ◌+◌, ◌≤◌, length}
use Rattle.event_script.specs.EventScript.{lines, events_from, script_parse}
use Rattle.event_script.proofs.EventsLoop.{with_front}
use Rattle.event_script.proofs.reading.events_of.Given as goal

abbrev pub invariant-loop-rest : goal.invariant-loop-rest
invariant-loop-rest l = record {
  events : with_front l.events.items (events_from (l.line + 1) l.names (lines l.rest)) ≡ script_parse l.text l.names;
  counted : l.line + length l.rest ≤ length l.text;
}

abbrev pub decreases-loop-rest : goal.decreases-loop-rest
decreases-loop-rest l = length l.rest
