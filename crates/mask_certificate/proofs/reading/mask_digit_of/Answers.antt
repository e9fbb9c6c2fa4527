-- The table is right at each byte.
use Rattle.std.proofs.Common.{arith}
use Rattle.mask_certificate.proofs.Digits.{table_right}
use Rattle.mask_certificate.proofs.reading.mask_digit_of.Goals as goal

pub returns : goal.returns
returns c = table_right c.args.byte (omega arith)
