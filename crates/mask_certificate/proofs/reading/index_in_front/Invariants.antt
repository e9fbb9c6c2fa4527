-- All before the place are digits, at most five, and write the index.
use Rattle.std.proofs.Common.{◌≡◌, ◌^◌, ◌<◌, ◌≤◌, true, take}
use Rattle.std.specs.Char.{is_ascii_digit}
use Rattle.std.specs.List.{list_all}
use Rattle.std.specs.Str.Parse.{digits_value}
use Rattle.mask_certificate.proofs.reading.index_in_front.Given as goal

abbrev pub invariant-loop-place : goal.invariant-loop-place
invariant-loop-place l = record {
  digits : list_all is_ascii_digit (take l.place l.text) ≡ true;
  value : l.index ≡ digits_value 10 (take l.place l.text);
  few : l.place ≤ 5;
  small : l.index < 10 ^ l.place;
}
