-- The registers so far, with those of what is left, are all.
use Rattle.std.proofs.Common.{◌≡◌, ◌++◌, length}
use Rattle.mark_diagnostics.specs.Together.{register_of, registers_behind}
use Rattle.mark_diagnostics.proofs.together.registers_of.Given as goal

abbrev pub invariant-loop-rest : goal.invariant-loop-rest
invariant-loop-rest l = l.list.items ++ registers_behind l.mark l.rest ≡ register_of l.mark ++ registers_behind l.mark l.behind

abbrev pub decreases-loop-rest : goal.decreases-loop-rest
decreases-loop-rest l = length l.rest
