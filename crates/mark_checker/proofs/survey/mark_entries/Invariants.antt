-- What is marked so far, or begins among the tasks that are left, is what begins in the program.
use Rattle.std.proofs.Common.{◌≡◌, length}
use Rattle.mark_checker.proofs.Entries.{EntriesBelow}
use Rattle.mark_checker.proofs.survey.mark_entries.Given as goal

abbrev pub invariant-loop-descriptor : goal.invariant-loop-descriptor
invariant-loop-descriptor l = record {
  sized : length l.begins ≡ 4097;
  so_far : EntriesBelow l.program l.begins l.descriptor-index;
}
