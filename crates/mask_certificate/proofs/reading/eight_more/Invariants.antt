-- The number of the digits read, or more than any mask, and room for those that are left.
use Rattle.std.proofs.Common.{◌≡◌, ◌+◌, ◌*◌, ◌^◌, ◌≤◌, true, false, take}
use Rattle.std.specs.List.{list_all}
use Rattle.std.specs.Str.Parse.{digits_value_after}
use Rattle.mask_certificate.specs.CertificateReading.{is_mask_digit}
use Rattle.mask_certificate.proofs.reading.eight_more.Given as goal

abbrev pub invariant-loop-place : goal.invariant-loop-place
invariant-loop-place l = record {
  digits : list_all is_mask_digit (take l.place l.digits) ≡ true → l.number ≡ digits_value_after 16 l.fn.number (take l.place l.digits);
  other : list_all is_mask_digit (take l.place l.digits) ≡ false → 2 ^ 34 ≤ l.number;
  room : 15 * l.number + 2 ^ 34 ≤ (2 ^ 34 + 60) * 16 ^ l.place;
}
