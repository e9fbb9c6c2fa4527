use Rattle.std.specs.Prelude.{◌≡◌, ℕ, is_some}
use Rattle.mips_instructions.specs.Words.{has}
use Rattle.unit_core.specs.Units.{active_of}
use Rattle.unit_core.specs.Bursts.{Makes, SendsLast}
use Rattle.unit_core.proofs.burst.run_to_send.Given as goal

-- the unit is this many steps on, and has sent what it had sent
abbrev pub invariant-loop-steps : goal.invariant-loop-steps
invariant-loop-steps l = record {
  made : Makes l.program l.initial.unit l.steps l.unit;
  sent : (r : ℕ) → is_some ((active_of l.unit).sent r) ≡ has l.sent r;
  sends_last : SendsLast l.program l.initial.unit l.steps;
}
