-- Two numbers closer to one another than the modulus, with the same rest, are one; and the rest of a number that
-- reaches as far as another, once round or not.
use Rattle.std.proofs.Common.{◌≡◌, ℕ, ◌+◌, ◌*◌, ◌/◌, ◌%◌, ◌<◌, ◌≤◌, ◌⊎◌, inl, inr, sym, ap, ◌∙◌, arith}
use Rattle.std.proofs.lemmas.Bool.{cases_lt}
use Rattle.std.proofs.lemmas.Nat.{div-add-mod', mod-mul-add}
use Rattle.std.proofs.Math.Nat.{mul-le-mul_right, add-mul}

one_below : (a b m : ℕ) → a ≤ b → b < a + m → a % m ≡ b % m → a ≡ b
one_below a b m le close same =
    let whole : a / m * m + a % m ≡ a = div-add-mod' a m in
    let other : b / m * m + b % m ≡ b = div-add-mod' b m in
    elim (cases_lt (a / m) (b / m)) [
      | inl less ↦ absurd (
          let more : (a / m + 1) * m ≤ b / m * m = mul-le-mul_right m (let step : a / m + 1 ≤ b / m = omega arith in step) in
          let split : (a / m + 1) * m ≡ a / m * m + 1 * m = add-mul (a / m) 1 m in
          omega arith
          )
      | inr most ↦ (
          let less : b / m * m ≤ a / m * m = mul-le-mul_right m most in
          omega arith
          )
    ]

pub one_place : (c i j m : ℕ) → i < m → j < m → (c + i) % m ≡ (c + j) % m → i ≡ j
one_place c i j m first second same = elim (cases_lt i j) [
  | inl less ↦ (let e : c + i ≡ c + j = one_below (c + i) (c + j) m (omega arith) (omega arith) same in omega arith)
  | inr most ↦ (let e : c + j ≡ c + i = one_below (c + j) (c + i) m (omega arith) (omega arith) (sym same) in omega arith)
]

-- after a head at h, the number u is p places on
pub around : (c h u n p : ℕ) → h ≡ (c + 0) % n → u < n → (h + p ≡ u) ⊎ (h + p ≡ u + n) → (c + p) % n ≡ u
around c h u n p head small reached =
    let whole : (c + 0) / n * n + (c + 0) % n ≡ c + 0 = div-add-mod' (c + 0) n in
    elim reached [
      | inl before ↦ (
          let sum : c + p ≡ (c + 0) / n * n + u = omega arith in
          ap (λ (x : ℕ). x % n) sum ∙ mod-mul-add ((c + 0) / n) n u small
          )
      | inr beyond ↦ (
          let split : ((c + 0) / n + 1) * n ≡ (c + 0) / n * n + 1 * n = add-mul ((c + 0) / n) 1 n in
          let sum : c + p ≡ ((c + 0) / n + 1) * n + u = omega arith in
          ap (λ (x : ℕ). x % n) sum ∙ mod-mul-add ((c + 0) / n + 1) n u small
          )
    ]
