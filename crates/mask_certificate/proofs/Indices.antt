-- The digits in front of the first space: what they write, and what shows that they write no index.
use Rattle.std.proofs.Common.{◌≡◌, ℕ, ◌<◌, ◌≤◌, true, false, not, ◌&&◌, eqb, ltb, leb, List, length, get_or, take, Some, None, sym, ◌∙◌, ap, arith, ⊎_elim, inl, inr}
use Rattle.std.specs.Char.{is_ascii_digit}
use Rattle.std.specs.List.{list_all, position, position_or_len}
use Rattle.std.specs.Str.Parse.{digits_value}
use Rattle.std.proofs.lemmas.Bool.{eqb-true, cond-true, cond-false, le-leb, lt-leb, lt-ltb, le-ltb, eq-eqb, ne_eqb, and_left, and_right, and_from, not_from_false, cases_lt, true_from_ne_false, true≢false}
use Rattle.std.proofs.lemmas.List.{get_or-take, length-take-le}
use Rattle.std.proofs.lemmas.List.Folds.{list_all_at}
use Rattle.std.proofs.lemmas.List.Sums.{position_or_len_is}
use Rattle.std.proofs.lemmas.List.Quantifiers.{position-Some}
use Rattle.mask_certificate.specs.CertificateReading.{is_space, is_index, index_in}

-- digits that write an index
pub index_done : (ds : List ℕ) → 0 < length ds → length ds ≤ 5 → (get_or ds 0 0 ≡ 48 → 1 < length ds → ⊥) → list_all is_ascii_digit ds ≡ true → index_in ds ≡ Some (digits_value 10 ds)
index_done ds some few no_zero digits =
    let zero_alone : (eqb (get_or ds 0 0) 48 && ltb 1 (length ds)) ≡ false =
    ⊎_elim (λ more. and_left _ _ (ne_eqb _ _ (λ zero. no_zero zero more))) (λ one. and_right _ _ (le-ltb 1 (length ds) one)) (cases_lt 1 (length ds)) in
    let right : is_index ds ≡ true =
    and_from _ _ (le-leb 1 (length ds) some) (and_from _ _ (le-leb (length ds) 5 few) (and_from _ _ (not_from_false _ zero_alone) digits)) in
    cond-true (is_index ds) (Some (digits_value 10 ds)) None right

no_index : (ds : List ℕ) → is_index ds ≡ false → index_in ds ≡ None
no_index ds wrong = cond-false (is_index ds) (Some (digits_value 10 ds)) None wrong

pub long_is_none : (ds : List ℕ) → 5 < length ds → index_in ds ≡ None
long_is_none ds long = no_index ds (and_right _ _ (and_left _ _ (lt-leb (length ds) 5 long)))

pub other_is_none : (ds : List ℕ) → list_all is_ascii_digit ds ≡ false → index_in ds ≡ None
other_is_none ds other =
    no_index ds (and_right (leb 1 (length ds)) _ (and_right (leb (length ds) 5) _ (and_right (not (eqb (get_or ds 0 0) 48 && ltb 1 (length ds))) _ other)))

-- the first k bytes of a text are digits
module _ (text : List ℕ) (k : ℕ) (within : k ≤ length text) (digits : list_all is_ascii_digit (take k text) ≡ true) where
  digit_before : (i : ℕ) → i < k → is_ascii_digit (get_or text i 0) ≡ true
  digit_before i less = true_from_ne_false (is_ascii_digit (get_or text i 0)) (λ fails.
      let long = length-take-le k text within in
      true≢false (sym digits ∙ list_all_at is_ascii_digit (take k text) i 0 (omega arith) (ap is_ascii_digit (get_or-take k text i 0 less) ∙ fails)))

  no_space_before : (i : ℕ) → i < k → is_space (get_or text i 0) ≡ false
  no_space_before i less = ne_eqb (get_or text i 0) 32 (λ space. true≢false (sym (digit_before i less) ∙ ap is_ascii_digit space))

  pub space_here : k < length text → get_or text k 0 ≡ 32 → position is_space text ≡ Some k
  space_here less space =
      let place = position_or_len_is is_space text k 0 within no_space_before (λ _. eq-eqb (get_or text k 0) 32 space) in
      cond-true (ltb (position_or_len is_space text) (length text)) (Some (position_or_len is_space text)) None (lt-ltb _ _ (omega arith))
      ∙ ap (λ (n : ℕ). Some n) place

  pub space_behind : (space : ℕ) → position is_space text ≡ Some space → (k ≤ space) × (space < length text) × (get_or text space 0 ≡ 32)
  space_behind space at =
      let first = position-Some is_space text space 0 at in
      let behind : k ≤ space = elim (cases_lt space k) [
        | inl less ↦ absurd (true≢false (sym first.1 ∙ no_space_before space less))
        | inr le ↦ le
      ] in
      (behind, first.0, eqb-true (get_or text space 0) 32 first.1)

  -- the next byte is no digit and no space
  pub index_ends : k < length text → is_ascii_digit (get_or text k 0) ≡ false → (get_or text k 0 ≡ 32 → ⊥) → (space : ℕ) → position is_space text ≡ Some space → index_in (take space text) ≡ None
  index_ends less fails other space at =
      let behind = space_behind space at in
      let more : k < space = elim (cases_lt k space) [
        | inl more ↦ more
        | inr le ↦ (let same : k ≡ space = omega arith in absurd (other (ap (λ n. get_or text n 0) same ∙ behind.2)))
      ] in
      let long = length-take-le space text (omega arith) in
      other_is_none (take space text) (list_all_at is_ascii_digit (take space text) k 0 (omega arith) (ap is_ascii_digit (get_or-take space text k 0 more) ∙ fails))

  -- there are five digits, and the next byte is no space
  pub index_is_long : k ≡ 5 → (get_or text k 0 ≡ 32 → ⊥) → (space : ℕ) → position is_space text ≡ Some space → index_in (take space text) ≡ None
  index_is_long five other space at =
      let behind = space_behind space at in
      let more : k < space = elim (cases_lt k space) [
        | inl more ↦ more
        | inr le ↦ (let same : k ≡ space = omega arith in absurd (other (ap (λ n. get_or text n 0) same ∙ behind.2)))
      ] in
      let long = length-take-le space text (omega arith) in
      long_is_none (take space text) (omega arith)
