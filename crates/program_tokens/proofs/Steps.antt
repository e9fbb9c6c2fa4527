-- The definition of a text's tokens, taken one token at a time from the front.
use Rattle.std.proofs.Common.{◌≡◌, ℕ, zero, suc, ◌+◌, ◌≤◌, List, [], ◌∷◌, ◌++◌, Bool, true, false, cond, Option, Some, Result, Ok, Err, length, take, drop, arith, refl, ap, sym, ◌∙◌, append_assoc, ne_eqb}
use Rattle.std.specs.Prelude.{◌==◌, ◌≢◌, ◌&&◌, take_while}
use Rattle.std.specs.List.{prefix_len, list_all}
use Rattle.std.proofs.Math.Seq.{drop-append_seam}
use Rattle.std.specs.Str.{byte}
use Rattle.std.proofs.lemmas.List.Sums.{prefix_len-le-length, take_while-cons}
use Rattle.std.proofs.lemmas.List.{length-take-le}
use Rattle.program_tokens.specs.Grammar.{is_blank, kind_of, goes_on, token_of, with_token, tokens_after}
use Rattle.program_tokens.specs.declared.token.Token.{Token}
use Rattle.program_tokens.specs.declared.kind.Kind.{Kind}
use Rattle.program_tokens.specs.declared.token.LineFault.{LineFault}

-- tokens before those of a reading
abbrev pub with_tokens : List Token → Result (List Token) LineFault → Result (List Token) LineFault
with_tokens front (Ok others) = Ok (front ++ others)
with_tokens front (Err fault) = Err fault

pub with_tokens_push : (front : List Token) (t : Token) (reading : Result (List Token) LineFault)
    → with_tokens (front ++ t ∷ []) reading ≡ with_tokens front (with_token (Some t) reading)
with_tokens_push front t (Ok others) = ap (λ (ts : List Token). Ok ts) (append_assoc front (t ∷ []) others)
with_tokens_push front t (Err fault) = refl

-- bytes that belong to a token are passed over
skipped : (n : ℕ) (bs : List ℕ) → tokens_after n bs ≡ tokens_after 0 (drop n bs)
unfolding tokens_after
skipped zero bs = refl
skipped (suc n) [] = refl
skipped (suc n) (b ∷ bs) = skipped n bs

front_step : (b : ℕ) (bs : List ℕ) → is_blank b ≡ false → (b == byte "#") ≡ false
    → tokens_after 0 (b ∷ bs) ≡ with_token (token_of (kind_of b bs) (b ∷ take_while (goes_on (kind_of b bs)) bs)) (tokens_after (length (take_while (goes_on (kind_of b bs)) bs)) bs)
unfolding tokens_after
front_step b bs not_blank not_comment = rw (not_blank, not_comment) refl

pub blank_step : (b : ℕ) (bs : List ℕ) → is_blank b ≡ true → tokens_after 0 (b ∷ bs) ≡ tokens_after 0 bs
unfolding tokens_after
blank_step b bs blank = rw blank refl

pub comment_step : (b : ℕ) (bs : List ℕ) → is_blank b ≡ false → (b == byte "#") ≡ true → tokens_after 0 (b ∷ bs) ≡ Ok []
unfolding tokens_after
comment_step b bs not_blank comment = rw (not_blank, comment) refl

-- a run is no longer than what it is taken from, and is its front
pub run-le : (kind : Kind) (bs : List ℕ) → length (take_while (goes_on kind) bs) ≤ length bs
run-le kind bs = omega (arith, length-take-le (prefix_len (goes_on kind) bs) bs (prefix_len-le-length (goes_on kind) bs), prefix_len-le-length (goes_on kind) bs)

run_is : (kind : Kind) (bs : List ℕ) → take (length (take_while (goes_on kind) bs)) bs ≡ take_while (goes_on kind) bs
run_is kind bs = ap (λ n. take n bs) (length-take-le (prefix_len (goes_on kind) bs) bs (prefix_len-le-length (goes_on kind) bs))

-- a token and what is after it, as the code cuts them
pub token_step : (rest : List ℕ) (b : ℕ) (bs : List ℕ) (n : ℕ) → rest ≡ b ∷ bs → is_blank b ≡ false → (b == byte "#") ≡ false
    → n ≡ length (take_while (goes_on (kind_of b bs)) bs)
    → tokens_after 0 rest ≡ with_token (token_of (kind_of b bs) (take (1 + n) rest)) (tokens_after 0 (drop (1 + n) rest))
token_step rest b bs n is_rest not_blank not_comment is_run =
    let kind = kind_of b bs in
    let grown : 1 + n ≡ suc n = omega arith in
    let bytes : take (1 + n) rest ≡ b ∷ take_while (goes_on (kind_of b bs)) bs =
    ap (λ m. take m rest) grown ∙ ap (take (suc n)) is_rest ∙ ap (λ (xs : List ℕ). b ∷ xs) (ap (λ m. take m bs) is_run ∙ run_is (kind_of b bs) bs) in
    let behind : drop (1 + n) rest ≡ drop n bs = ap (λ m. drop m rest) grown ∙ ap (drop (suc n)) is_rest in
    let others : tokens_after (length (take_while (goes_on (kind_of b bs)) bs)) bs ≡ tokens_after 0 (drop (1 + n) rest) =
    ap (λ m. tokens_after m bs) (sym is_run) ∙ skipped n bs ∙ ap (tokens_after 0) (sym behind) in
    ap (tokens_after 0) is_rest ∙ front_step b bs not_blank not_comment
    ∙ ap (λ text. with_token (token_of (kind_of b bs) text) (tokens_after (length (take_while (goes_on (kind_of b bs)) bs)) bs)) (sym bytes)
    ∙ ap (with_token (token_of (kind_of b bs) (take (1 + n) rest))) others

-- Again, in the terms of one turn of the loop: the bytes of the token, what is after them, and the
-- token that was found.
pub found_step : (rest bs bytes behind : List ℕ) (b n : ℕ) (kind : Kind) (found : Option Token)
    → rest ≡ b ∷ bs → is_blank b ≡ false → b ≢ 35 → kind ≡ kind_of b bs → n ≡ length (take_while (goes_on kind) bs)
    → bytes ≡ take (1 + n) rest → behind ≡ drop (1 + n) rest → found ≡ token_of kind bytes
    → tokens_after 0 rest ≡ with_token found (tokens_after 0 behind)
found_step rest bs bytes behind b n kind found is_rest not_blank not_comment is_kind is_run is_bytes is_behind is_found =
    let is_token : token_of (kind_of b bs) (take (1 + n) rest) ≡ found = ap (λ k. token_of k (take (1 + n) rest)) (sym is_kind) ∙ ap (token_of kind) (sym is_bytes) ∙ sym is_found in
    token_step rest b bs n is_rest not_blank (ne_eqb b 35 not_comment) (is_run ∙ ap (λ k. length (take_while (goes_on k) bs)) is_kind)
    ∙ ap (λ t. with_token t (tokens_after 0 (drop (1 + n) rest))) is_token
    ∙ ap (λ (xs : List ℕ). with_token found (tokens_after 0 xs)) (sym is_behind)

pub end_step : (rest : List ℕ) → length rest ≡ 0 → tokens_after 0 rest ≡ Ok []
unfolding tokens_after
end_step [] empty = refl
end_step (b ∷ bs) empty = absurd (omega (arith, empty))

and-true_left : (a b : Bool) → a && b ≡ true → a ≡ true
and-true_left true b both = refl
and-true_left false b both = both

and-true_right : (a b : Bool) → a && b ≡ true → b ≡ true
and-true_right true b both = both
and-true_right false b both = cc

-- A run is found again in front of what it doesn't go on with.
run_again : (p : ℕ → Bool) (bs rest : List ℕ) → list_all p bs ≡ true → prefix_len p rest ≡ 0 → take_while p (bs ++ rest) ≡ bs
run_again p [] rest passes stops = ap (λ n. take n rest) stops
run_again p (b ∷ bs) rest passes stops =
    take_while-cons p b (bs ++ rest)
    ∙ ap (λ t. cond t (b ∷ take_while p (bs ++ rest)) []) (and-true_left (p b) (list_all p bs) passes)
    ∙ ap (λ (xs : List ℕ). b ∷ xs) (run_again p bs rest (and-true_right (p b) (list_all p bs) passes) stops)

-- The bytes of a token, written before what the token doesn't go on with, are read again as that token.
pub token_again : (kind : Kind) (b : ℕ) (bs rest : List ℕ) → kind_of b (bs ++ rest) ≡ kind → is_blank b ≡ false → (b == byte "#") ≡ false
    → list_all (goes_on kind) bs ≡ true → prefix_len (goes_on kind) rest ≡ 0
    → tokens_after 0 (b ∷ (bs ++ rest)) ≡ with_token (token_of kind (b ∷ bs)) (tokens_after 0 rest)
token_again kind b bs rest is_kind not_blank not_comment passes stops =
    let run : take_while (goes_on (kind_of b (bs ++ rest))) (bs ++ rest) ≡ bs =
    ap (λ k. take_while (goes_on k) (bs ++ rest)) is_kind ∙ run_again (goes_on kind) bs rest passes stops in
    let others : tokens_after (length bs) (bs ++ rest) ≡ tokens_after 0 rest =
    skipped (length bs) (bs ++ rest) ∙ ap (tokens_after 0) (drop-append_seam bs rest) in
    front_step b (bs ++ rest) not_blank not_comment
    ∙ ap (λ (xs : List ℕ). with_token (token_of (kind_of b (bs ++ rest)) (b ∷ xs)) (tokens_after (length xs) (bs ++ rest))) run
    ∙ ap (λ k. with_token (token_of k (b ∷ bs)) (tokens_after (length bs) (bs ++ rest))) is_kind
    ∙ ap (with_token (token_of kind (b ∷ bs))) others
