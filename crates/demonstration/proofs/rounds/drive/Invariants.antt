-- the rounds that are left lead to the whole run; and on more units, if one was free each time
use Rattle.demonstration.proofs.Imports.{◌≡◌, ◌≤◌, ◌-◌, ℕ, IsTrue, rounds, run_of}
use Rattle.demonstration.proofs.rounds.drive.Given as goal

abbrev pub invariant-loop : goal.invariant-loop
invariant-loop l = record {
  driven : l.driven ≡ record { program = l.program; units = l.units; run = l.driven.run };
  rest : rounds l.program l.units l.guesses l.steps (l.steps - l.counter) l.driven.run ≡ run_of l.program l.units l.guesses l.steps;
  free : IsTrue l.is_free → (more : ℕ) → l.units ≤ more → rounds l.program more l.guesses l.steps (l.steps - l.counter) l.driven.run ≡ run_of l.program more l.guesses l.steps;
}
