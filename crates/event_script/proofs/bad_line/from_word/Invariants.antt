-- As many words are left as were counted.
use Rattle.std.proofs.Common.{◌≡◌, ◌≤◌, length}
use Rattle.event_script.specs.EventScript.{from_word}
use Rattle.event_script.proofs.bad_line.from_word.Given as goal

abbrev pub invariant-loop : goal.invariant-loop
invariant-loop l = record {
  value : l.rest ≡ from_word l.counter l.line;
  shorter : length l.rest ≤ length l.line;
}
