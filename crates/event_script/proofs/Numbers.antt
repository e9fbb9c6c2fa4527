-- A loop over digits, which keeps the number so far and stops at a byte that is no digit.
use Rattle.std.proofs.Common.{◌≡◌, ℕ, ◌+◌, ◌*◌, ◌<◌, ◌≤◌, Bool, true, false, cond, ◌&&◌, List, [], ◌∷◌, length, get_or, drop, Option, Some, None, refl, sym, ◌∙◌, ap, arith}
use Rattle.std.specs.Char.{is_ascii_digit, digit_value}
use Rattle.std.specs.List.{list_all}
use Rattle.std.specs.Str.Parse.{digits_value, digits_value_after}
use Rattle.std.proofs.lemmas.Bool.{cond-true, le-leb, ne_eqb, and_from, not_from_false}
use Rattle.std.proofs.lemmas.List.{at_drop_all}
use Rattle.std.proofs.lemmas.Option.{cond_some}
use Rattle.event_script.specs.EventScript.{has_leading_zero, is_number, number_in}

-- the number that digits write after those of n, where each is one
abbrev pub number_after : ℕ → List ℕ → Option ℕ
number_after n [] = Some n
number_after n (c ∷ cs) = cond (is_ascii_digit c) (number_after (n * 10 + digit_value c) cs) None

tested : (first more : Bool) (read number : Option ℕ) → read ≡ cond more number None → cond first read None ≡ cond (first && more) number None
tested true more read number e = e
tested false more read number e = refl

pub number_after_is : (n : ℕ) (ds : List ℕ) → number_after n ds ≡ cond (list_all is_ascii_digit ds) (Some (digits_value_after 10 n ds)) None
number_after_is n [] = refl
number_after_is n (c ∷ cs) = tested (is_ascii_digit c) (list_all is_ascii_digit cs) _ _ (number_after_is (n * 10 + digit_value c) cs)

-- the end of the digits
pub digit_all : (ds : List ℕ) (n k : ℕ) → length ds ≤ k → number_after n (drop k ds) ≡ Some n
digit_all ds n k le = at_drop_all (number_after n) ds k le

pub no_leading_zero : (ds : List ℕ) → (get_or ds 0 0 ≡ 48 → 1 < length ds → ⊥) → has_leading_zero ds ≡ false
no_leading_zero [] no_zero = refl
no_leading_zero (d ∷ []) no_zero = refl
no_leading_zero (d ∷ e ∷ ds) no_zero = ne_eqb d 48 (λ zero. no_zero zero (omega arith))

-- the number of digits that a loop went over
pub number_done : (ds : List ℕ) (n : ℕ) → 0 < length ds → length ds ≤ 3 → (get_or ds 0 0 ≡ 48 → 1 < length ds → ⊥) → number_after 0 ds ≡ Some n → Some n ≡ number_in ds
number_done ds n some few no_zero read =
    let number = cond_some (list_all is_ascii_digit ds) (digits_value 10 ds) n (sym (number_after_is 0 ds) ∙ read) in
    let right : is_number ds ≡ true =
    and_from _ _ (le-leb 1 (length ds) some) (and_from _ _ (le-leb (length ds) 3 few) (and_from _ _ (not_from_false _ (no_leading_zero ds no_zero)) number.0)) in
    ap (λ (m : ℕ). Some m) (sym number.1) ∙ sym (cond-true (is_number ds) (Some (digits_value 10 ds)) None right)
