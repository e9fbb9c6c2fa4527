use Rattle.threaded_runner.proofs.Imports.{WaitBetween}
use Rattle.threaded_runner.proofs.share.Share.first_between.Given as goal

-- those below this one wait
abbrev pub invariant-loop-unit : goal.invariant-loop-unit
invariant-loop-unit l = WaitBetween l.machine l.self l.from l.unit
