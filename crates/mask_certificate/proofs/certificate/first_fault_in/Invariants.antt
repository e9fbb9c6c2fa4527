-- What is left of the lists has the fault of all lists, and what was passed has masks of registers.
use Rattle.std.proofs.Common.{◌≡◌, ◌^◌, ◌<◌, drop, take}
use Rattle.std.specs.List.{All}
use Rattle.mask_certificate.specs.Lists.{entries_of, first_fault}
use Rattle.mask_certificate.proofs.certificate.first_fault_in.Given as goal

abbrev pub invariant-loop-list : goal.invariant-loop-list
invariant-loop-list l = record {
  counted : l.task ≡ l.list-index;
  left : first_fault l.task (entries_of (drop l.list-index l.lists)) ≡ first_fault 0 (entries_of l.lists);
  masks : All (All (λ entry. entry.1 < 2 ^ 34)) (entries_of (take l.list-index l.lists));
}
