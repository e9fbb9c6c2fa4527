-- The last digit stands after those of the tens.
use Rattle.std.proofs.Common.{◌∙◌, ap, arith, refl}
use Rattle.mask_certificate.proofs.WriteLemmas.{decimal_more, decimal_one}
use Rattle.mask_certificate.proofs.writing.+push_decimal.Goals as goal
use Rattle.mask_certificate.proofs.writing.+push_decimal.Goals.{then-number-ge10+in_ok-push_decimal, else-number-ge10}

pub returns : goal.returns
returns t c =
    let old = c.args.text.now.items in
    let n = c.args.number in
    c.in_ok-push.ensures.items
    ∙ elim c.if-number-ge10.branch [
      | then-number-ge10+in_ok-push_decimal w ↦ decimal_more old c.if-number-ge10.text.items n _ (omega arith) (omega arith) (ap (λ v. v.items) w.text-is ∙ w.in_ok-push_decimal.ensures) refl
      | else-number-ge10 w ↦ decimal_one old c.if-number-ge10.text.items n _ (omega arith) (ap (λ v. v.items) w.text-is) refl
    ]
