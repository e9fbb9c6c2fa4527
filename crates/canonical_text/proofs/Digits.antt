-- A number below 10 has one digit, and one below 100 has two.
use Rattle.canonical_text.proofs.Imports.{◌≡◌, ◌++◌, ◌∷◌, [], List, ℕ, ◌<◌, ◌≤◌, ◌+◌, ◌/◌, ◌%◌, sym, ap, ◌∙◌, append_assoc, arith, decimal_digit, decimal_step, register_text}

one_digit : (n : ℕ) → n < 10 → register_text n ≡ 36 ∷ (48 + n) ∷ []
one_digit n low = ap (λ (ds : List ℕ). 36 ∷ ds) (decimal_digit n low)

two_digits : (n : ℕ) → 10 ≤ n → n < 100 → register_text n ≡ 36 ∷ (48 + n / 10) ∷ (48 + n % 10) ∷ []
two_digits n high low =
    ap (λ (ds : List ℕ). 36 ∷ ds) (decimal_step n high (omega arith))
    ∙ ap (λ (ds : List ℕ). 36 ∷ (ds ++ (48 + n % 10) ∷ [])) (decimal_digit (n / 10) (omega arith))

pub one_written : (n : ℕ) (before dollar after : List ℕ) → n < 10 → dollar ≡ before ++ 36 ∷ [] → after ≡ dollar ++ (48 + n) ∷ []
    → after ≡ before ++ register_text n
one_written n before dollar after low is_dollar is_after =
    is_after ∙ ap (λ (t : List ℕ). t ++ (48 + n) ∷ []) is_dollar
    ∙ append_assoc before (36 ∷ []) ((48 + n) ∷ [])
    ∙ ap (λ (t : List ℕ). before ++ t) (sym (one_digit n low))

pub two_written : (n : ℕ) (before dollar tens after : List ℕ) → 10 ≤ n → n < 100 → dollar ≡ before ++ 36 ∷ []
    → tens ≡ dollar ++ (48 + n / 10) ∷ [] → after ≡ tens ++ (48 + n % 10) ∷ [] → after ≡ before ++ register_text n
two_written n before dollar tens after high low is_dollar is_tens is_after =
    is_after ∙ ap (λ (t : List ℕ). t ++ (48 + n % 10) ∷ []) (is_tens ∙ ap (λ (t : List ℕ). t ++ (48 + n / 10) ∷ []) is_dollar)
    ∙ append_assoc (before ++ 36 ∷ []) ((48 + n / 10) ∷ []) ((48 + n % 10) ∷ [])
    ∙ append_assoc before (36 ∷ []) ((48 + n / 10) ∷ (48 + n % 10) ∷ [])
    ∙ ap (λ (t : List ℕ). before ++ t) (sym (two_digits n high low))
