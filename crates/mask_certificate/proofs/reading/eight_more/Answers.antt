-- Each digit adds to the number, or makes it more than any mask.
use Rattle.std.proofs.Common.{◌≡◌, ◌^◌, ◌≤◌, ◌<◌, true, get_or, take, length, arith, subst}
use Rattle.std.specs.List.{list_all}
use Rattle.std.specs.Str.Parse.{digits_value_after}
use Rattle.mask_certificate.specs.CertificateReading.{is_mask_digit, mask_digit}
use Rattle.mask_certificate.proofs.Digits.{digit_most, digits_more, other_more, room_more, number_fits}
use Rattle.mask_certificate.proofs.reading.eight_more.Goals as goal

pub overflow_mul-number : goal.overflow_mul-number
overflow_mul-number c = omega (arith, number_fits c.loop-place.number 0 c.loop-place.place c.loop-place.invariant.room (omega arith) (omega arith))

pub overflow_add-number : goal.overflow_add-number
overflow_add-number c =
    let byte = get_or c.args.digits.now c.loop-place.place 0 in
    let most : mask_digit byte ≤ 2 ^ 34 = digit_most byte (omega (arith, c.type_inv.digits c.loop-place.place)) in
    let room = number_fits c.loop-place.number (mask_digit byte) c.loop-place.place c.loop-place.invariant.room most c.loop-place-test.true in
    omega (arith, room, c.mask_digit_of.ensures)

pub loop-place-preserved : goal.loop-place-preserved
loop-place-preserved c =
    let ds = c.args.digits.now in
    let k = c.loop-place.place in
    let within : k < length ds = omega (arith, c.requires.eight, c.loop-place-test.true) in
    let byte = get_or ds k 0 in
    let most : mask_digit byte ≤ 2 ^ 34 = digit_most byte (omega (arith, c.type_inv.digits k)) in
    rw c.mask_digit_of.ensures (record {
      digits = digits_more ds c.args.number c.loop-place.number k within c.loop-place.invariant.digits;
      other = other_more ds c.args.number c.loop-place.number k within c.loop-place.invariant.other;
      room = room_more c.loop-place.number (mask_digit byte) k c.loop-place.invariant.room most;
    })

pub returns-clause-digits : goal.returns-clause-digits
returns-clause-digits c =
    let all : c.loop-place.place ≡ 8 = omega arith in
    subst (λ k. list_all is_mask_digit (take k c.args.digits.now) ≡ true → c.loop-place.number ≡ digits_value_after 16 c.args.number (take k c.args.digits.now)) all c.loop-place.invariant.digits
