-- A set is read back from the list of its members.
use Rattle.canonical_text.proofs.Imports.{◌≡◌, ℕ, ◌*◌, ◌%◌, ◌<◌, ◌^◌, List, [], ◌∷◌, ◌++◌, Bool, true, false, cond, Ok, arith, refl, ap, sym, subst, ◌∙◌, inl, inr, ◌==◌, ◌||◌, ◌&&◌, bit_or, filter, list_any, cases_lt, and_right, false≢true, agree_below_at, eqb-true, has, registers, members, ◌>>=◌, registers_of, with_registers, Token}
use Rattle.std.specs.List.{AllByRecursion as All}
use Rattle.std.proofs.Math.Pow.{pow-lt}
use Rattle.std.proofs.Math.Bool.{and-true}
use Rattle.mips_instructions.proofs.SetLemmas.{has-insert, has-empty, has-above, same_set}
use Rattle.program_tokens.specs.declared.token.Token.TheVariants as token
use Rattle.canonical_text.proofs.Operations.{comma_tokens, register_tokens, members_below}

one_bit : (k : ℕ) → k < 34 → 1 * 2 ^ k % 2 ^ 64 ≡ 2 ^ k
one_bit k below = let h : 2 ^ k < 2 ^ 34 = pow-lt below in omega arith

has-more : (set k r : ℕ) → k < 34 → has (bit_or set (2 ^ k)) r ≡ (has set r || k == r)
has-more set k r below = subst (λ (x : ℕ). has (bit_or set x) r ≡ (has set r || k == r)) (one_bit k below) (has-insert set k r (omega arith))

or_assoc : (a b c : Bool) → ((a || b) || c) ≡ (a || (b || c))
or_assoc true b c = refl
or_assoc false b c = refl

or_false : (a : Bool) → a ≡ (a || false)
or_false true = refl
or_false false = refl

has-all : (rs : List ℕ) (set r : ℕ) → All (λ k. k < 34) rs → has (with_registers set rs) r ≡ (has set r || list_any (λ k. k == r) rs)
has-all [] set r h = or_false (has set r)
has-all (k ∷ rs) set r h =
    has-all rs (bit_or set (2 ^ k)) r h.1
    ∙ ap (λ (b : Bool). b || list_any (λ k. k == r) rs) (has-more set k r h.0)
    ∙ or_assoc (has set r) (k == r) (list_any (λ k. k == r) rs)

any_kept : (kept : Bool) (x : ℕ) (rest : List ℕ) (r : ℕ)
    → list_any (λ k. k == r) (cond kept (x ∷ rest) rest) ≡ cond kept (x == r || list_any (λ k. k == r) rest) (list_any (λ k. k == r) rest)
any_kept true x rest r = refl
any_kept false x rest r = refl

both_ways : (kept same passes behind : Bool) → (same ≡ true → kept ≡ passes)
    → cond kept (same || (passes && behind)) (passes && behind) ≡ (passes && (same || behind))
both_ways true true true behind agree = refl
both_ways true true false behind agree = absurd (false≢true (sym (agree refl)))
both_ways false true true behind agree = absurd (false≢true (agree refl))
both_ways false true false behind agree = refl
both_ways true false passes behind agree = refl
both_ways false false passes behind agree = refl

-- a number passes a filter if it stands in the list and passes the test
filtered : (test : ℕ → Bool) (xs : List ℕ) (r : ℕ) → list_any (λ k. k == r) (filter test xs) ≡ (test r && list_any (λ k. k == r) xs)
filtered test [] r = sym (and_right (test r) false refl)
filtered test (x ∷ xs) r =
    any_kept (test x) x (filter test xs) r
    ∙ ap (λ (b : Bool). cond (test x) (x == r || b) b) (filtered test xs r)
    ∙ both_ways (test x) (x == r) (test r) (list_any (λ k. k == r) xs) (λ e. ap test (eqb-true x r e))

is_register : (r : ℕ) → r < 34 → list_any (λ k. k == r) registers ≡ true
is_register r below = agree_below_at (λ r. list_any (λ k. k == r) registers) (λ _. true) 34 r refl below

-- each register stands in the list of the registers
listed : (set r : ℕ) → set < 2 ^ 34 → (has set r && list_any (λ k. k == r) registers) ≡ has set r
listed set r small = elim (cases_lt r 34) [
  | inl below ↦ ap (λ (b : Bool). has set r && b) (is_register r below) ∙ and-true (has set r)
  | inr above ↦ ap (λ (b : Bool). b && list_any (λ k. k == r) registers) (has-above set r small above) ∙ sym (has-above set r small above)
]

pub members_back : (set : ℕ) → set < 2 ^ 34 → with_registers 0 (members set) ≡ set
unfolding members
members_back set small = same_set (with_registers 0 (members set)) set (λ r.
    has-all (members set) 0 r (members_below set)
    ∙ ap (λ (b : Bool). b || list_any (λ k. k == r) (members set)) (has-empty r)
    ∙ filtered (has set) registers r
    ∙ listed set r small)

-- the tokens of the members are read as those registers
abbrev pub no_comma : List Token → Bool
no_comma [] = true
no_comma (token.Comma ∷ ts) = false
no_comma (t ∷ ts) = true

one_register : (r : ℕ) (rest : List Token) → no_comma rest ≡ true → registers_of (token.Register r ∷ rest) ≡ Ok (r ∷ [], rest)
unfolding registers_of
one_register r [] h = refl
one_register r (token.Comma ∷ ts) h = absurd cc
one_register r (t ∷ ts) h = refl

pub registers_back : (r : ℕ) (rs : List ℕ) (rest : List Token) → no_comma rest ≡ true
    → registers_of (comma_tokens (register_tokens (r ∷ rs)) ++ rest) ≡ Ok (r ∷ rs, rest)
unfolding registers_of
registers_back r [] rest h = one_register r rest h
registers_back r (q ∷ rs) rest h = ap (λ x. x >>= λ others. Ok (r ∷ others.0, others.1)) (registers_back q rs rest h)
