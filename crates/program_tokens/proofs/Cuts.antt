-- The first line of a text ends at its first LF, and the lines after it are those of what is left.
use Rattle.std.proofs.Common.{◌≡◌, ℕ, ◌+◌, ◌-◌, ◌<◌, ◌≤◌, List, [], ◌∷◌, false, cond, Some, None, length, take, drop, arith, sym, ap, ◌∙◌}
use Rattle.std.specs.Prelude.{◌==◌, nat_lt}
use Rattle.std.specs.List.{position, position_or_len, slice_split}
use Rattle.std.proofs.lemmas.Bool.Decides.{nat_tests}
use Rattle.std.proofs.lemmas.List.{take_rest}
use Rattle.std.proofs.lemmas.List.Elements.{All-from_get_or}
use Rattle.std.proofs.lemmas.List.Splits.{slice_split_first, slice_split_none}
use Rattle.std.proofs.lemmas.List.Sums.{fails_before_first}
use Rattle.program_tokens.specs.Lines.{lines}

at_some : (n len i : ℕ) → Some i ≡ cond (nat_lt n len) (Some n) None → (n ≡ i) × (n < len)
at_some n len i found = (grind (arith, nat_tests, found), grind (arith, nat_tests, found))

at_none : (n len : ℕ) → None ≡ cond (nat_lt n len) (Some n) None → len ≤ n
at_none n len found = grind (arith, nat_tests, found)

pub cut_more : (text : List ℕ) (end : ℕ) → Some end ≡ position (λ b. b == 10) text
    → lines text ≡ take end text ∷ lines (take (length text - (end + 1)) (drop (end + 1) text))
cut_more text end found =
    let n = position_or_len (λ (b : ℕ). b == 10) text in
    let at = at_some n (length text) end found in
    slice_split_first (λ b. b == 10) text 0 at.1
    ∙ ap (λ (m : ℕ). take m text ∷ slice_split (λ b. b == 10) (drop (m + 1) text)) at.0
    ∙ ap (λ (rest : List ℕ). take end text ∷ slice_split (λ b. b == 10) rest) (sym (take_rest text (end + 1)))

pub cut_last : (text : List ℕ) → None ≡ position (λ b. b == 10) text → lines text ≡ text ∷ []
cut_last text found =
    let past : length text ≤ position_or_len (λ (b : ℕ). b == 10) text = at_none (position_or_len (λ (b : ℕ). b == 10) text) (length text) found in
    slice_split_none (λ b. b == 10) text
    (All-from_get_or (λ (b : ℕ). (b == 10) ≡ false) text 0 (λ k below. fails_before_first (λ (b : ℕ). b == 10) text k 0 (omega arith)))
