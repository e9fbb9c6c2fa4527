-- The lists so far are the same.
use Rattle.std.proofs.Common.{◌≡◌, take}
use Rattle.mask_certificate.specs.Lists.{entries_of}
use Rattle.mask_certificate.proofs.certificate.same_lists.Given as goal

abbrev pub invariant-loop-task : goal.invariant-loop-task
invariant-loop-task l = entries_of (take l.task l.lists) ≡ entries_of (take l.task l.others)
