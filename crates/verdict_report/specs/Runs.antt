-- A run as the runners report it. No public contract cites it.
use Rattle.sequencer.specs.Machines.{state}
use Rattle.threaded_runner.specs.declared.report.How.{How}
use Rattle.threaded_runner.specs.declared.report.How.TheVariants.{Ended, OutOfBudget}
use Rattle.unit_turns.specs.declared.report.StepsEnd.{StepsEnd}
use Rattle.unit_turns.specs.declared.report.StepsEnd.TheVariants as steps
use Rattle.std.specs.Prelude.{None}
use Rattle.threaded_runner.specs.declared.report.Report.{Report}
use Rattle.verdict_report.specs.declared.ran.Ran.{Ran}
use Rattle.verdict_report.specs.RunText.{Run}

-- the history of its machine, what that left, how it ended, and its steps
abbrev pub run_of : Ran → Run
run_of ran = record { history = ran.machine.history; state = state ran.machine; how = ran.how; steps = ran.steps }

-- a run by threads, which has no steps
abbrev pub run_by_threads : Report → Run
run_by_threads report = record { history = report.machine.history; state = state report.machine; how = report.how; steps = None }

-- how a run in steps ended
abbrev pub ended_as : StepsEnd → How
ended_as steps.Ended = Ended
ended_as steps.OutOfBudget = OutOfBudget
