-- no task so far may begin, so that the first that may is among the others
use Rattle.demonstration.proofs.Imports.{◌≡◌, ◌-◌, length, first_begins}
use Rattle.demonstration.proofs.rounds.begin_first.Given as goal

abbrev pub invariant-loop-task : goal.invariant-loop-task
invariant-loop-task l = record {
  same : l.driven ≡ l.initial.driven;
  rest :
      first_begins l.initial.driven.program l.initial.driven.units l.initial.driven.run l.task (length l.initial.driven.program.tasks - l.task)
      ≡ first_begins l.initial.driven.program l.initial.driven.units l.initial.driven.run 0 (length l.initial.driven.program.tasks);
}
