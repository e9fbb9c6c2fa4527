-- after none of the events so far the head has a wrong word
use Rattle.demonstration.proofs.Imports.{◌≡◌, ◌≤◌, ℕ, [], take, IsAfter, input, each_tried, state_after, WordsRight}
use Rattle.demonstration.proofs.search.until_held.Given as goal

abbrev pub invariant-loop-event : goal.invariant-loop-event
invariant-loop-event l = record {
  few : l.few ≡ record { program = l.program; units = 1; run = each_tried l.program 1 [] (take l.event-index l.events) };
  plain : IsAfter (input l.program) l.made l.plain;
  none : (count : ℕ) → count ≤ l.event-index → WordsRight l.program (state_after l.program (each_tried l.program 1 [] (take count l.events)));
}
