-- The warnings so far.
use Rattle.std.specs.List.{All}
use Rattle.exit_diagnostics.specs.Jumps.{IsOfJump}
use Rattle.exit_diagnostics.proofs.jump.jump_warnings.Given as goal

abbrev pub invariant-loop-jump : goal.invariant-loop-jump
invariant-loop-jump l = All IsOfJump l.list.items
