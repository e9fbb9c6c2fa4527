-- The lines with a fault so far, before those of what is left, are those of the text.
use Rattle.std.proofs.Common.{◌≡◌, ◌+◌, ◌≤◌, ◌++◌, length, take}
use Rattle.event_script.specs.EventScript.{lines, bad_from}
use Rattle.event_script.proofs.bad_line.bad_among.Given as goal

abbrev pub invariant-loop-rest : goal.invariant-loop-rest
invariant-loop-rest l = record {
  first : take l.most (l.list.items ++ bad_from (l.line + 1) l.names (lines l.rest)) ≡ take l.most (bad_from 1 l.names (lines l.text));
  room : length l.list.items ≤ l.most;
  all : l.count + length (bad_from (l.line + 1) l.names (lines l.rest)) ≡ length (bad_from 1 l.names (lines l.text));
  few : l.count ≤ l.line;
  counted : l.line + length l.rest ≤ length l.text;
}

abbrev pub decreases-loop-rest : goal.decreases-loop-rest
decreases-loop-rest l = length l.rest
