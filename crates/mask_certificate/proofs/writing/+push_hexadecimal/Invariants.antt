-- Each call has fewer digits to write.
use Rattle.mask_certificate.proofs.writing.+push_hexadecimal.Given as goal

abbrev pub decreases-push_hexadecimal : goal.decreases-push_hexadecimal
decreases-push_hexadecimal l = l.digits
