-- The entries read and those that are left are those of the text.
use Rattle.std.proofs.Common.{◌≡◌, ◌++◌, ◌+◌, ◌≤◌, length, drop}
use Rattle.mask_certificate.specs.CertificateReading.{lines_in, entries_in}
use Rattle.mask_certificate.specs.Blocks.{IsEnd}
use Rattle.mask_certificate.proofs.reading.list_of.Given as goal

abbrev pub invariant-loop-entry : goal.invariant-loop-entry
invariant-loop-entry l = record {
  entries : l.list.items ++ entries_in (lines_in l.spelling l.rest) ≡ entries_in (lines_in l.spelling l.text);
  left : lines_in l.spelling l.rest ≡ drop (length l.list.items) (lines_in l.spelling l.text);
  shorter : length l.list.items + length l.rest ≤ length l.text;
  end : IsEnd l.text l.rest;
}

abbrev pub decreases-loop-entry : goal.decreases-loop-entry
decreases-loop-entry l = length l.rest
