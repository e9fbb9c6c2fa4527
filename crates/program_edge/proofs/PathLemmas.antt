-- What stands after the last slash of a path, as `rsplit_once` cuts it off.
use Rattle.std.proofs.Common.{◌≡◌, ◌∙◌, ℕ, ◌+◌, ◌-◌, ◌≤◌, ◌<◌, not, eqb, List, length, get_or, drop, take, Option, Some, None, MatchOption, ap, Bor, arith, ne_eqb, eq-eqb, length-drop, get_or-drop}
use Rattle.std.specs.Prelude.{unwrap_or}
use Rattle.std.specs.List.{after_last}
use Rattle.std.specs.Option.{option_map}
use Rattle.std.specs.Str.Pattern.{RFindsChar}
use Rattle.std.proofs.lemmas.List.Sums.{suffix_len_is}
use Rattle.std.proofs.lemmas.Str.{len_utf8_ascii}
use Rattle.std.proofs.lemmas.Str.Pattern.{NoCharPasses-char}

-- where no c stands from n on, and one before, what stands there is what stands after the last one
after_place : (c : ℕ) (bs : List ℕ) (n : ℕ) → n ≤ length bs
    → ((k : ℕ) → n ≤ k → k < length bs → get_or bs k 0 ≡ c → ⊥) → (0 < n → get_or bs (n - 1) 0 ≡ c)
    → drop n bs ≡ after_last (λ b. eqb b c) bs
after_place c bs n within later here =
    let end = suffix_len_is (λ b. not (eqb b c)) bs n 0 within
    (λ k a l. ap not (ne_eqb (get_or bs k 0) c (later k a l)))
    (λ some. ap not (eq-eqb (get_or bs (n - 1) 0) c (here some))) in
    ap (λ k. drop k bs) (omega (arith, within, end))

-- takes the clause of `rsplit_once` at an ASCII character
pub rsplit_once_last : (c : ℕ) (bs : List ℕ) (r : Option (Bor (List ℕ) × Bor (List ℕ)))
    → MatchOption r (RFindsChar c bs None) (λ x. (i : ℕ) × (j : ℕ) × RFindsChar c bs (Some (i, j)) × (x.0.now ≡ take i bs) × (x.1.now ≡ drop j bs) × (i ≤ j) × (length x.0.now ≡ i) × (length x.1.now + j ≡ length bs))
    → c < 128 → unwrap_or (option_map (λ x. x.1.now) r) bs ≡ after_last (λ b. eqb b c) bs
rsplit_once_last c bs None h low =
    after_place c bs 0 (omega arith) (λ k _ l. NoCharPasses-char c bs k h low l) (λ some. absurd (omega arith))
rsplit_once_last c bs (Some x) h low =
    let i = h.0 in
    let j = h.1 in
    let next : j ≡ i + 1 = omega (arith, h.2.1.ends, len_utf8_ascii c low) in
    let later : (k : ℕ) → j ≤ k → k < length bs → get_or bs k 0 ≡ c → ⊥ = λ k a l e.
    let back : j + (k - j) ≡ k = omega arith in
    NoCharPasses-char c (drop j bs) (k - j) h.2.0 low (omega (arith, length-drop j bs)) (get_or-drop j bs (k - j) 0 ∙ ap (λ n. get_or bs n 0) back ∙ e) in
    let before : j - 1 ≡ i = omega arith in
    let here : 0 < j → get_or bs (j - 1) 0 ≡ c = λ _. ap (λ n. get_or bs n 0) before ∙ h.2.1.byte low in
    h.4 ∙ after_place c bs j (omega (arith, h.7)) later here
