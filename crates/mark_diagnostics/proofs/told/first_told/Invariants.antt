-- The list has the first of the findings to report so far, which are counted.
use Rattle.std.proofs.Common.{◌≡◌, ◌≤◌, ◌*◌, take, length}
use Rattle.std.specs.List.{flat_map, range_with_len}
use Rattle.mark_diagnostics.specs.Told.{told_of}
use Rattle.mark_diagnostics.proofs.told.first_told.Given as goal

abbrev pub invariant-loop-task : goal.invariant-loop-task
invariant-loop-task l = record {
  list : l.list.items ≡ take l.most (flat_map (told_of l.survey l.cert) (range_with_len 0 l.task));
  count : l.count ≡ length (flat_map (told_of l.survey l.cert) (range_with_len 0 l.task));
  few : l.count ≤ l.task * 860371;
}
