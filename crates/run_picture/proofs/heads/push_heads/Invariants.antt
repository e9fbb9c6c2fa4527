-- The heads so far, and those of the events that come.
use Rattle.std.proofs.Common.{◌≡◌, ◌≤◌, ◌+◌, ◌++◌, drop}
use Rattle.run_picture.specs.Meanings.{heads_from, heads_of, meanings}
use Rattle.run_picture.proofs.heads.push_heads.Given as goal

abbrev pub invariant-loop-index : goal.invariant-loop-index
invariant-loop-index l = record {
  few : l.retired ≤ l.initial.retired + l.index;
  heads : meanings l.shapes.items ++ heads_from l.axis l.columns l.retired l.after l.index (drop l.index l.events) ≡ meanings l.initial.shapes.items ++ heads_of l.axis l.columns l.initial.retired l.events;
}
