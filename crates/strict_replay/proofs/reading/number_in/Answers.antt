-- One digit more: the number so far is taken times the radix, and the limit is kept.
use Rattle.std.proofs.Common.{arith, ◌≡◌, ◌^◌, ◌∙◌, ap, get_or, take, lt-ltb}
use Rattle.std.proofs.lemmas.Int.Digits.{digits_value_more}
use Rattle.std.proofs.lemmas.List.Folds.{list_all_more}
use Rattle.std.specs.Char.{is_digit, digit_value}
use Rattle.std.specs.Str.Parse.{digits_value}
use Rattle.strict_replay.proofs.Capped.{capped}
use Rattle.strict_replay.proofs.reading.number_in.Goals as goal

pub loop-byte-preserved : goal.loop-byte-preserved
loop-byte-preserved c =
    let byte = get_or c.args.text.now c.loop-byte.byte-index 0 in
    let digit : c.in_ok-digit.digit ≡ digit_value byte = c.in_ok-digit.ensures.value.1 ∙ ap digit_value c.from.ensures in
    let below = c.in_ok-digit.ensures.value.0 in
    let kept = capped (2 ^ 32) (digits_value c.args.radix (take c.loop-byte.byte-index c.args.text.now)) c.loop-byte.value c.args.radix (digit_value byte) c.loop-byte.invariant.value (omega arith) in
    record {
      value = rw (digits_value_more c.args.radix c.args.text.now c.loop-byte.byte-index c.loop-byte-test.true) (cc);
      digits = rw (list_all_more (λ d. is_digit d c.args.radix) c.args.text.now c.loop-byte.byte-index 0 c.loop-byte-test.true)
          (rw c.loop-byte.invariant.digits (rw (← c.from.ensures) (lt-ltb _ _ below)));
    }
