-- An address as the format writes it: with zeros before its digits, up to eight.
use Rattle.std.proofs.Common.{◌≡◌, ℕ, ◌-◌, ◌^◌, ◌++◌, List, [], false, length, ap, ◌∙◌, arith, append-nil}
use Rattle.std.specs.Prelude.{replicate}
use Rattle.std.specs.Fmt.{digits, padded_integral, char_count, format_spec}
use Rattle.verdict_report.specs.MachineText.{address_text}

pub address_padded : (n : ℕ) → padded_integral (format_spec 32 0 4 8 (2 ^ 64 - 1)) false [] (digits 16 false n) ≡ address_text n
unfolding padded_integral char_count
address_padded n =
    ap (λ (zeros : ℕ). replicate zeros 48 ++ (digits 16 false n ++ [])) (omega arith)
    ∙ ap (λ (shown : List ℕ). replicate (8 - length (digits 16 false n)) 48 ++ shown) (append-nil (digits 16 false n))
