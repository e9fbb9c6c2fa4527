-- the runs on fewer units are right
use Rattle.demonstration.proofs.Imports.{◌≤◌, ◌<◌, ℕ, min, run_of, state_after, ReadsRight}
use Rattle.demonstration.proofs.search.read_shown.Given as goal

abbrev pub invariant-loop-units : goal.invariant-loop-units
invariant-loop-units l = (units : ℕ) → min l.most_units 2 ≤ units → units < l.units → ReadsRight l.program (state_after l.program (run_of l.program units l.guesses l.steps))
