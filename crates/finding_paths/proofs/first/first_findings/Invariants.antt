-- The list has the first of the findings so far, which are counted.
use Rattle.std.proofs.Common.{◌≡◌, take, length}
use Rattle.std.specs.List.{flat_map, range_with_len}
use Rattle.mark_checker.specs.Rules.{rules}
use Rattle.finding_paths.proofs.first.first_findings.Given as goal

abbrev pub invariant-loop-task : goal.invariant-loop-task
invariant-loop-task l = record {
  list : l.list.items ≡ take l.most (flat_map (rules l.program l.cert) (range_with_len 0 l.task));
  count : l.count ≡ length (flat_map (rules l.program l.cert) (range_with_len 0 l.task));
}
