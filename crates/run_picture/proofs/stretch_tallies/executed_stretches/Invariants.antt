-- The stretches so far, and those of the events that come.
use Rattle.std.proofs.Common.{◌≡◌, ◌≤◌, ◌++◌, drop, length}
use Rattle.run_picture.specs.Stretches.{executed_from}
use Rattle.run_picture.proofs.stretch_tallies.executed_stretches.Given as goal

abbrev pub invariant-loop-index : goal.invariant-loop-index
invariant-loop-index l = record {
  few : length l.stretches.items ≤ l.index;
  within : l.index ≤ length l.events;
  places : l.stretches.items ++ executed_from l.span l.columns l.index (drop l.index l.events) ≡ executed_from l.span l.columns 0 l.events;
}
