use Rattle.std.proofs.Common.{◌≡◌, ◌++◌}
use Rattle.mips_instructions.specs.Words.{has}
use Rattle.mark_checker.proofs.PlaceLists.{up_to}
use Rattle.mark_checker.proofs.append.append_each.Given as goal

abbrev pub invariant-loop-number : goal.invariant-loop-number
invariant-loop-number l = l.list.items ≡ l.initial.list.items ++ up_to l.task l.index l.rule (has l.set) l.number
