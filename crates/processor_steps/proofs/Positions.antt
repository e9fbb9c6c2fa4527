-- The first unit with a serial number, by the units before it.
use Rattle.std.proofs.Common.{◌≡◌, ℕ, zero, suc, ◌+◌, ◌<◌, Bool, cond, List, [], ◌∷◌, length, Some, None, refl, ap, ◌∙◌, arith}
use Rattle.std.specs.Prelude.{nat_eq, not, slice_get}
use Rattle.std.specs.List.{position_or_len}
use Rattle.std.proofs.lemmas.Bool.{cond-true, cond-false, eq-eqb, ne_eqb, lt-ltb, le-ltb}
use Rattle.std.proofs.lemmas.Option.{slice_get_within}
use Rattle.machine_model.specs.Machine.{Active}
use Rattle.processor_steps.specs.Processors.{position_with}

abbrev pub IsFirst : List Active → (serial k : ℕ) → Type 0
IsFirst us serial k = (j : ℕ) (u : Active) → j < k → slice_get us j ≡ Some u → u.serial ≡ serial → ⊥

abbrev has : ℕ → Active → Bool
has serial u = nat_eq u.serial serial

len_at : (us : List Active) (serial k : ℕ) (u : Active) → slice_get us k ≡ Some u → u.serial ≡ serial → IsFirst us serial k → position_or_len (has serial) us ≡ k
len_at [] serial k u at is none = absurd (cc)
len_at (x ∷ xs) serial zero u at is none =
    let same : x ≡ u = cc in
    ap (λ b. cond (not b) (1 + position_or_len (has serial) xs) 0) (eq-eqb x.serial serial (ap (λ (v : Active). v.serial) same ∙ is))
len_at (x ∷ xs) serial (suc k) u at is none =
    let rest = len_at xs serial k u at is (λ j v less. none (suc j) v (omega arith)) in
    let first : 0 < suc k = omega arith in
    let one : 1 + k ≡ suc k = omega arith in
    ap (λ b. cond (not b) (1 + position_or_len (has serial) xs) 0) (ne_eqb x.serial serial (none 0 x first refl))
    ∙ (ap (λ (n : ℕ). 1 + n) rest ∙ one)

len_none : (us : List Active) (serial : ℕ) → IsFirst us serial (length us) → position_or_len (has serial) us ≡ length us
len_none [] serial none = refl
len_none (x ∷ xs) serial none =
    let rest = len_none xs serial (λ j v less. none (suc j) v (omega arith)) in
    let first : 0 < length (x ∷ xs) = omega arith in
    let one : 1 + length xs ≡ suc (length xs) = omega arith in
    ap (λ b. cond (not b) (1 + position_or_len (has serial) xs) 0) (ne_eqb x.serial serial (none 0 x first refl))
    ∙ (ap (λ (n : ℕ). 1 + n) rest ∙ one)

pub first_with : (us : List Active) (serial k : ℕ) (u : Active) → slice_get us k ≡ Some u → u.serial ≡ serial → IsFirst us serial k → position_with us serial ≡ Some k
first_with us serial k u at is none =
    let len = len_at us serial k u at is none in
    let within : k < length us = slice_get_within us k u at in
    cond-true _ _ _ (lt-ltb (position_or_len (has serial) us) (length us) (omega (arith, len))) ∙ ap Some len

pub none_with : (us : List Active) (serial : ℕ) → IsFirst us serial (length us) → position_with us serial ≡ None
none_with us serial none =
    let len = len_none us serial none in
    cond-false _ _ _ (le-ltb (position_or_len (has serial) us) (length us) (omega (arith, len)))
