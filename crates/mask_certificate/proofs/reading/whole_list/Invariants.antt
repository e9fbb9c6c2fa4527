-- The entries read and those that are left are those of the text.
use Rattle.std.proofs.Common.{◌≡◌, suc, cond, ◌++◌, [], false, length, drop}
use Rattle.mask_certificate.specs.CertificateReading.{lines_in, entries_in}
use Rattle.mask_certificate.specs.Blocks.{TellsOf}
use Rattle.mask_certificate.specs.Left.{left_of}
use Rattle.mask_certificate.proofs.reading.whole_list.Given as goal

abbrev pub invariant-loop-goes_on : goal.invariant-loop-goes_on
invariant-loop-goes_on l = record {
  entries : l.list.items ++ entries_in (lines_in l.spelling (left_of l.left)) ≡ entries_in (lines_in l.spelling (left_of l.fn.left));
  left : lines_in l.spelling (left_of l.left) ≡ drop (length l.list.items) (lines_in l.spelling (left_of l.fn.left));
  told : TellsOf l.list.items l.right;
  stays : l.goes_on ≡ false → entries_in (lines_in l.spelling (left_of l.left)) ≡ [];
}

abbrev pub decreases-loop-goes_on : goal.decreases-loop-goes_on
decreases-loop-goes_on l = cond l.goes_on (suc (length (left_of l.left))) 0
