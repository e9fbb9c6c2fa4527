use Rattle.std.proofs.Common.{◌≡◌}
use Rattle.std.specs.List.{flat_map, range_with_len}
use Rattle.mark_checker.specs.Rules.{rules}
use Rattle.mark_checker.proofs.check.verdict.Given as goal

abbrev pub invariant-loop-task : goal.invariant-loop-task
invariant-loop-task l = l.list.items ≡ flat_map (rules l.program l.cert) (range_with_len 0 l.task)
