-- A register put into a set, as a number.
use Rattle.std.proofs.Common.{◌≡◌, ℕ, ◌*◌, ◌%◌, ◌^◌, ◌<◌, ◌==◌, ◌||◌, sym, subst, ◌∙◌, arith}
use Rattle.std.specs.Prelude.{bit_or}
use Rattle.std.proofs.Math.Pow.{pow-lt}
use Rattle.mips_instructions.specs.Words.{has}
use Rattle.mips_instructions.proofs.SetLemmas.{has-insert, same_set}

one_bit : (k : ℕ) → k < 34 → 1 * 2 ^ k % 2 ^ 64 ≡ 2 ^ k
one_bit k below = let h : 2 ^ k < 2 ^ 34 = pow-lt below in omega arith

pub inserted : (set k new : ℕ) → k < 34 → ((r : ℕ) → has new r ≡ (has set r || k == r)) → new ≡ bit_or set (2 ^ k)
inserted set k new below members =
    same_set new (bit_or set (2 ^ k)) (λ r. members r ∙ sym (subst (λ (x : ℕ). has (bit_or set x) r ≡ (has set r || k == r)) (one_bit k below) (has-insert set k r (omega arith))))
