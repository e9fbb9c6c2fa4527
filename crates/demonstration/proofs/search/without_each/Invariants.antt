-- what is left is shown, on as many units
use Rattle.demonstration.proofs.Imports.{◌≡◌, IsDemonstration}
use Rattle.demonstration.proofs.search.without_each.Given as goal

abbrev pub invariant-loop-done : goal.invariant-loop-done
invariant-loop-done l = record {
  units : l.found.units ≡ l.initial.found.units;
  shown : IsDemonstration l.program l.found;
}
