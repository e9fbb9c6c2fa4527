use Rattle.annotator.proofs.Imports.{◌≡◌, take}
use Rattle.annotator.proofs.LeastMasks.{entries_at}
use Rattle.annotator.proofs.certify.list_of_task.Given as goal

abbrev pub invariant-loop-i : goal.invariant-loop-i
invariant-loop-i l = l.list.items ≡ entries_at l.masks (take l.i-index l.i-items)
