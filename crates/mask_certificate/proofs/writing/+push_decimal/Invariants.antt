-- Each call has fewer digits to write.
use Rattle.mask_certificate.proofs.writing.+push_decimal.Given as goal

abbrev pub decreases-push_decimal : goal.decreases-push_decimal
decreases-push_decimal l = l.number
