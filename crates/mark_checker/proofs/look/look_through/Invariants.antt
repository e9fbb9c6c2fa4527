-- What is looked at in the instructions so far.
use Rattle.std.proofs.Common.{◌≡◌, length}
use Rattle.mark_checker.proofs.QuietEntries.{LooksBelow}
use Rattle.mark_checker.proofs.look.look_through.Given as goal

abbrev pub invariant-loop-index : goal.invariant-loop-index
invariant-loop-index l = record {
  sized : length l.looks ≡ 4096;
  so_far : LooksBelow l.program l.looks l.index;
}
