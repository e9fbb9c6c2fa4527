-- Eight digits make up a mask of the narrow spelling, sixteen one of the wide.
use Rattle.std.proofs.Common.{◌≡◌, ◌^◌, ◌≤◌, ℕ, List, false, true, length, take, arith, sym, ◌∙◌, ap, subst}
use Rattle.std.specs.List.{list_all}
use Rattle.std.specs.Str.Parse.{digits_value_after}
use Rattle.std.proofs.lemmas.List.{take_all}
use Rattle.mask_certificate.specs.declared.fault.MaskSpelling.TheVariants.{Narrow}
use Rattle.mask_certificate.specs.CertificateText.{mask_digits}
use Rattle.mask_certificate.specs.CertificateReading.{is_mask_digit}
use Rattle.mask_certificate.proofs.Digits.{mask_done, from_bits_is}
use Rattle.mask_certificate.proofs.reading.mask_of.Goals as goal

pub returns-in-Narrow : goal.returns-in-Narrow
returns-in-Narrow c =
    let ds = c.args.digits.now in
    let low = c.eight_more.result in
    let long : length ds ≡ 8 = c.if-digits-mask_digits.false ∙ c.mask_digits.ensures.digits ∙ ap (λ s. mask_digits s) c.in-Narrow.is in
    let all : take 8 ds ≡ ds = take_all 8 ds (omega (arith, long)) in
    let value = subst (λ (xs : List ℕ). list_all is_mask_digit xs ≡ true → low ≡ digits_value_after 16 0 xs) all c.eight_more.ensures.digits in
    let other = subst (λ (xs : List ℕ). list_all is_mask_digit xs ≡ false → 2 ^ 34 ≤ low) all c.eight_more.ensures.other in
    rw c.in-Narrow.is (from_bits_is _ low c.from_bits.ensures.some c.from_bits.ensures.value ∙ sym (mask_done Narrow ds low long value other))
