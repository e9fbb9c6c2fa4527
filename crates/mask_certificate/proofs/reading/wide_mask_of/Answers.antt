-- The two halves are the digits, and what is none in either makes no mask.
use Rattle.std.proofs.Common.{◌≡◌, ◌-◌, ◌^◌, ◌≤◌, ℕ, List, false, true, length, take, drop, arith, sym, ◌∙◌, ap, subst}
use Rattle.std.specs.List.{list_all}
use Rattle.std.specs.Str.Parse.{digits_value, digits_value_after}
use Rattle.std.proofs.lemmas.List.{take_all, take_rest, length-drop}
use Rattle.mask_certificate.specs.declared.fault.MaskSpelling.TheVariants.{Wide}
use Rattle.mask_certificate.specs.CertificateReading.{is_mask_digit}
use Rattle.mask_certificate.proofs.Digits.{mask_done, from_bits_is, wide_value, wide_none, wide_other}
use Rattle.mask_certificate.proofs.reading.wide_mask_of.Goals as goal

pub returns-then-high-ge4 : goal.returns-then-high-ge4
returns-then-high-ge4 c =
    sym (wide_none c.args.digits.now c.eight_more-high.result c.requires c.eight_more-high.ensures.digits c.eight_more-high.ensures.other c.if-high-ge4.true)

pub returns : goal.returns
returns c =
    let ds = c.args.digits.now in
    let high = c.eight_more-high.result in
    let low = c.eight_more.result in
    let all : take 8 (take (length ds - 8) (drop 8 ds)) ≡ drop 8 ds =
    ap (λ (xs : List ℕ). take 8 xs) (take_rest ds 8) ∙ take_all 8 (drop 8 ds) (omega (arith, length-drop 8 ds, c.requires)) in
    let digits : list_all is_mask_digit (drop 8 ds) ≡ true → low ≡ digits_value_after 16 high (drop 8 ds) =
    subst (λ (xs : List ℕ). list_all is_mask_digit xs ≡ true → low ≡ digits_value_after 16 high xs) all c.eight_more.ensures.digits in
    let none : list_all is_mask_digit (drop 8 ds) ≡ false → 2 ^ 34 ≤ low =
    subst (λ (xs : List ℕ). list_all is_mask_digit xs ≡ false → 2 ^ 34 ≤ low) all c.eight_more.ensures.other in
    let first = c.eight_more-high.ensures.digits in
    let value : list_all is_mask_digit ds ≡ true → low ≡ digits_value 16 ds = wide_value ds high c.requires first c.eight_more-high.ensures.other low digits in
    let other : list_all is_mask_digit ds ≡ false → 2 ^ 34 ≤ low = wide_other ds high c.requires first c.eight_more-high.ensures.other low c.if-high-ge4.false none in
    from_bits_is _ low c.from_bits.ensures.some c.from_bits.ensures.value ∙ sym (mask_done Wide ds low c.requires value other)
