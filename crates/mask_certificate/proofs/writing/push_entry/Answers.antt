-- The four pieces of an entry, joined.
use Rattle.std.proofs.Common.{ℕ, List, [], ◌∷◌, ◌++◌, ap, ◌∙◌}
use Rattle.std.specs.Fmt.{decimal}
use Rattle.mask_certificate.specs.CertificateText.{hexadecimal}
use Rattle.mask_certificate.proofs.WriteLemmas.{entry_joined}
use Rattle.mask_certificate.proofs.writing.push_entry.Goals as goal

pub returns : goal.returns
returns c =
    let old = c.args.text.now.items in
    let index = old ++ decimal c.args.index in
    let line = λ (t : List ℕ). t ++ 10 ∷ [] in
    c.in_ok-push-2.ensures.items
    ∙ ap line c.in_ok-push_hexadecimal.ensures
    ∙ ap (λ (t : List ℕ). line (t ++ hexadecimal c.mask_digits.result c.bits.result)) (c.in_ok-push.ensures.items ∙ ap (λ (t : List ℕ). t ++ 32 ∷ []) c.in_ok-push_decimal.ensures)
    ∙ ap (λ k. line ((index ++ 32 ∷ []) ++ hexadecimal k c.bits.result)) c.mask_digits.ensures.digits
    ∙ ap (λ m. line ((index ++ 32 ∷ []) ++ hexadecimal 16 m)) c.bits.ensures.value
    ∙ entry_joined old (decimal c.args.index) (hexadecimal 16 c.args.mask)
