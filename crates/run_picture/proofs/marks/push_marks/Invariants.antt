-- The marks so far, and those of the events that come.
use Rattle.std.proofs.Common.{◌≡◌, ◌≤◌, ◌+◌, ◌++◌, drop}
use Rattle.run_picture.specs.Meanings.{marks_from, meanings}
use Rattle.run_picture.proofs.marks.push_marks.Given as goal

abbrev pub invariant-loop-index : goal.invariant-loop-index
invariant-loop-index l = record {
  few : l.retired ≤ l.initial.retired + l.index;
  marks : meanings l.shapes.items ++ marks_from l.axis l.columns l.retired l.index (drop l.index l.events) ≡ meanings l.initial.shapes.items ++ marks_from l.axis l.columns l.initial.retired 0 l.events;
}
