-- The last digit stands after those of the front.
use Rattle.std.proofs.Common.{◌∙◌}
use Rattle.mask_certificate.proofs.WriteLemmas.{hexadecimal_more}
use Rattle.mask_certificate.proofs.writing.+push_hexadecimal.Goals as goal

pub returns-in_ok-push : goal.returns-in_ok-push
returns-in_ok-push t c =
    c.in_ok-push.ensures.items
    ∙ hexadecimal_more c.args.text.now.items c.push_hexadecimal.new.text.items c.args.digits c.args.number c.digit_text.result c.if-digits-gt0.true c.in_ok-push_hexadecimal.ensures c.digit_text.ensures
