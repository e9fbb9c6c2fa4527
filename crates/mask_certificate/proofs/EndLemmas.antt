-- The end of an end of a text is an end of that text.
use Rattle.std.proofs.Common.{◌≡◌, ℕ, ◌+◌, ◌-◌, List, length, drop, ◌∙◌, ap, arith}
use Rattle.std.proofs.lemmas.List.{drop-drop}
use Rattle.mask_certificate.specs.Blocks.{IsEnd}

pub end_again : (text end last : List ℕ) → IsEnd text end → IsEnd end last → IsEnd text last
end_again text end last first second =
    let short = first.0 in
    let shorter = second.0 in
    let place : (length text - length end) + (length end - length last) ≡ length text - length last = omega (arith, short, shorter) in (
      omega (arith, short, shorter),
      second.1
          ∙ ap (λ (t : List ℕ). drop (length end - length last) t) first.1
          ∙ drop-drop (length end - length last) (length text - length end) text
          ∙ ap (λ (n : ℕ). drop n text) place,
    )
