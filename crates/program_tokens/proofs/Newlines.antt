-- The first place of an LF, as a search for a byte finds it.
use Rattle.std.proofs.Common.{◌≡◌, ℕ, ◌<◌, cond, List, Option, Some, None, length, arith}
use Rattle.std.specs.Prelude.{◌==◌, nat_lt}
use Rattle.std.specs.List.{position, position_or_len}
use Rattle.std.proofs.lemmas.Bool.{false_from_ne_true}
use Rattle.std.proofs.lemmas.Bool.Decides.{nat_tests}
use Rattle.std.proofs.lemmas.List.Sums.{position_or_len_is}
use Rattle.memchr.specs.Find.{IsFirstByte, is_byte}

found_at : (n len k : ℕ) → n ≡ k → k < len → Some k ≡ cond (nat_lt n len) (Some n) None
found_at n len k same within = grind (arith, nat_tests)

found_nowhere : (n len : ℕ) → n ≡ len → None ≡ cond (nat_lt n len) (Some n) None
found_nowhere n len same = grind (arith, nat_tests)

pub first_newline : (text : List ℕ) (found : Option ℕ) → IsFirstByte (is_byte 10) text found → found ≡ position (λ b. b == 10) text
first_newline text None nowhere =
    found_nowhere (position_or_len (λ b. b == 10) text) (length text)
    (position_or_len_is (λ b. b == 10) text (length text) 0 (omega arith) (λ k below. false_from_ne_true _ (nowhere k (omega arith) below)) (λ past. absurd (omega arith)))
first_newline text (Some k) first =
    let within : k < length text = first.0.high in
    found_at (position_or_len (λ b. b == 10) text) (length text) k
    (position_or_len_is (λ b. b == 10) text k 0 (omega arith) (λ j below. false_from_ne_true _ (first.0.before j (omega arith) below)) (λ past. first.1))
    within
