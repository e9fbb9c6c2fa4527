-- What is left of the list has the fault of the whole list, and what was passed has masks of registers.
use Rattle.std.proofs.Common.{◌≡◌, ◌^◌, ◌<◌, drop, take}
use Rattle.std.specs.List.{All}
use Rattle.mask_certificate.specs.Lists.{fault_in}
use Rattle.mask_certificate.proofs.certificate.fault_of.Given as goal

abbrev pub invariant-loop-place : goal.invariant-loop-place
invariant-loop-place l = record {
  left : fault_in l.task l.place l.least (drop l.place l.list) ≡ fault_in l.task 0 0 l.list;
  masks : All (λ entry. entry.1 < 2 ^ 34) (take l.place l.list);
}
