-- After the `$` stands one digit, or two.
use Rattle.canonical_text.proofs.Imports.{arith, on_ok_weaker}
use Rattle.canonical_text.proofs.Digits.{one_written, two_written}
use Rattle.canonical_text.proofs.pieces.write_register.Goals as goal

pub returns-then-number-lt10 : goal.returns-then-number-lt10
unfolding lib.Utf8.encode
returns-then-number-lt10 c =
    on_ok_weaker c.write_digit.result
    (one_written c.args.number _ _ _ (omega (arith, c.if-number-lt10.true)) c.in_ok-push.ensures.bytes)
    c.write_digit.ensures

pub returns : goal.returns
unfolding lib.Utf8.encode
returns c =
    on_ok_weaker c.write_digit-3.result
    (two_written c.args.number _ _ _ _ (omega (arith, c.if-number-lt10.false)) (omega arith) c.in_ok-push.ensures.bytes
    c.in_ok-write_digit.ensures)
    c.write_digit-3.ensures
