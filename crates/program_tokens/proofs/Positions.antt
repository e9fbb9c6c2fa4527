-- The first place in a list is the first element or one more than in the others.
use Rattle.std.proofs.Common.{◌≡◌, ℕ, suc, ◌+◌, List, ◌∷◌, Bool, true, false, cond, Option, Some, None, length, arith, ap, sym, ◌∙◌}
use Rattle.std.specs.Prelude.{nat_lt, not, codes, drop}
use Rattle.std.specs.List.{position, position_or_len}
use Rattle.std.specs.Option.{option_map}
use Rattle.std.specs.Str.{bytes_eq}
use Rattle.std.proofs.lemmas.Bool.Decides.{nat_tests}
use Rattle.program_tokens.specs.Registers.{register_names, register_named}

one_more : (n len : ℕ) → cond (nat_lt (1 + n) (suc len)) (Some (1 + n)) None ≡ option_map (λ n. n + 1) (cond (nat_lt n len) (Some n) None)
one_more n len = grind (arith, nat_tests)

pub position-cons : {X : Type 0} (p : X → Bool) (x : X) (xs : List X)
    → position p (x ∷ xs) ≡ cond (p x) (Some 0) (option_map (λ n. n + 1) (position p xs))
position-cons p x xs =
    elim (p x) as (λ b. cond (nat_lt (cond (not b) (1 + position_or_len p xs) 0) (length (x ∷ xs))) (Some (cond (not b) (1 + position_or_len p xs) 0)) None ≡ cond b (Some 0) (option_map (λ n. n + 1) (position p xs)))
    [ true ↦ grind (arith, nat_tests) | false ↦ one_more (position_or_len p xs) (length xs) ]

-- register 0
pub named_zero : (word : List ℕ) → bytes_eq word (codes "zero") ≡ true → Some 0 ≡ register_named word
unfolding register_named
named_zero word is_zero =
    sym (position-cons (λ name. bytes_eq word name) (codes "zero") (drop 1 register_names) ∙ ap (λ b. cond b (Some 0) (option_map (λ n. n + 1) (position (λ name. bytes_eq word name) (drop 1 register_names)))) is_zero)

-- the registers after it
pub named_later : (word : List ℕ) (place : Option ℕ) → bytes_eq word (codes "zero") ≡ false
    → place ≡ position (λ name. bytes_eq word name) (drop 1 register_names) → option_map (λ n. n + 1) place ≡ register_named word
unfolding register_named
named_later word place not_zero is_place =
    ap (option_map (λ n. n + 1)) is_place
    ∙ sym (position-cons (λ name. bytes_eq word name) (codes "zero") (drop 1 register_names) ∙ ap (λ b. cond b (Some 0) (option_map (λ n. n + 1) (position (λ name. bytes_eq word name) (drop 1 register_names)))) not_zero)
