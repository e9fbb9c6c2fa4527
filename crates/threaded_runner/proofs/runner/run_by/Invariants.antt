-- The run is over the program and certificate that it is given, with this many units and workers and this budget.
use Rattle.threaded_runner.proofs.runner.run_by.Given as goal

abbrev pub ghosts-run_named : goal.ghosts-run_named
ghosts-run_named g a = record { accepted = a.accepted.now; units = a.units; workers = a.workers; budget = a.budget }
