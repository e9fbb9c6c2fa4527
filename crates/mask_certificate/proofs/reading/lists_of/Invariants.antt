-- The lists read and those that the rest spells for the tasks to come are those of the text.
use Rattle.std.proofs.Common.{◌+◌, ◌*◌, ◌≡◌, ◌≤◌, drop, vec_len}
use Rattle.mask_certificate.specs.Lists.{entries_of}
use Rattle.mask_certificate.specs.CertificateReading.{lines_in, lists_at, names_in}
use Rattle.mask_certificate.specs.Left.{left_of}
use Rattle.mask_certificate.proofs.ListsLoop.{HasRead}
use Rattle.mask_certificate.proofs.reading.lists_of.Given as goal

abbrev pub invariant-loop-task : goal.invariant-loop-task
invariant-loop-task l = record {
  read : HasRead l.line (names_in (drop l.task-index l.tasks)) (lines_in l.spelling (left_of l.rest)) (lists_at 2 (names_in l.tasks) (lines_in l.spelling (left_of l.fn.body))) (entries_of l.lists.items) l.right;
  counted : vec_len l.lists ≡ l.task-index;
  few : l.line ≤ 2 + 4097 * l.task-index + vec_len l.wrong;
}
