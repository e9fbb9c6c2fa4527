-- The places of a text's tokens, taken one token at a time from the front.
use Rattle.std.proofs.Common.{◌≡◌, ℕ, zero, suc, ◌+◌, List, [], ◌∷◌, ◌++◌, true, false, length, drop, arith, refl, ap, sym, ◌∙◌, add-zero, append_assoc, ne_eqb, eq-eqb}
use Rattle.std.specs.Prelude.{◌==◌, ◌≢◌, take_while}
use Rattle.std.specs.Str.{byte}
use Rattle.program_tokens.specs.Grammar.{is_blank, kind_of, goes_on}
use Rattle.program_tokens.specs.Spans.{spans_after}
use Rattle.program_tokens.specs.declared.span.TokenSpan.{TokenSpan}
use Rattle.program_tokens.specs.declared.kind.Kind.{Kind}

-- bytes that belong to a token are passed over
skipped : (column n : ℕ) (bs : List ℕ) → spans_after column n bs ≡ spans_after (column + n) 0 (drop n bs)
unfolding spans_after
skipped column zero bs = ap (λ m. spans_after m 0 bs) (sym (add-zero column))
skipped column (suc n) [] = refl
skipped column (suc n) (b ∷ bs) =
    let shifted : (column + 1) + n ≡ column + suc n = omega arith in
    skipped (column + 1) n bs ∙ ap (λ m. spans_after m 0 (drop n bs)) shifted

pub blank_column : (column b : ℕ) (bs : List ℕ) → is_blank b ≡ true → spans_after column 0 (b ∷ bs) ≡ spans_after (column + 1) 0 bs
unfolding spans_after
blank_column column b bs blank = rw blank refl

pub comment_column : (column b : ℕ) (bs : List ℕ) → is_blank b ≡ false → b ≡ 35 → spans_after column 0 (b ∷ bs) ≡ []
unfolding spans_after
comment_column column b bs not_blank comment = let hash = eq-eqb b 35 comment in rw (not_blank, hash) refl

front_span : (column b : ℕ) (bs : List ℕ) → is_blank b ≡ false → (b == byte "#") ≡ false
    → spans_after column 0 (b ∷ bs)
    ≡ record { column = column; len = 1 + length (take_while (goes_on (kind_of b bs)) bs) } ∷ spans_after (column + 1) (length (take_while (goes_on (kind_of b bs)) bs)) bs
unfolding spans_after
front_span column b bs not_blank not_comment = rw (not_blank, not_comment) refl

-- a token's place and those after it, as the code cuts them
pub span_step : (column : ℕ) (rest bs behind : List ℕ) (b n : ℕ) (kind : Kind) → rest ≡ b ∷ bs → is_blank b ≡ false → b ≢ 35
    → kind ≡ kind_of b bs → n ≡ length (take_while (goes_on kind) bs) → behind ≡ drop (1 + n) rest
    → spans_after column 0 rest ≡ record { column = column; len = 1 + n } ∷ spans_after (column + (1 + n)) 0 behind
span_step column rest bs behind b n kind is_rest not_blank not_comment is_kind is_run is_behind =
    let run : length (take_while (goes_on (kind_of b bs)) bs) ≡ n = ap (λ k. length (take_while (goes_on k) bs)) (sym is_kind) ∙ sym is_run in
    let grown : 1 + n ≡ suc n = omega arith in
    let cut : drop n bs ≡ behind = sym (is_behind ∙ ap (λ m. drop m rest) grown ∙ ap (drop (suc n)) is_rest) in
    let shifted : (column + 1) + n ≡ column + (1 + n) = omega arith in
    ap (spans_after column 0) is_rest
    ∙ front_span column b bs not_blank (ne_eqb b 35 not_comment)
    ∙ ap (λ m. let here : TokenSpan = record { column = column; len = 1 + m } in here ∷ spans_after (column + 1) m bs) run
    ∙ ap (λ (xs : List TokenSpan). let here : TokenSpan = record { column = column; len = 1 + n } in here ∷ xs)
    (skipped (column + 1) n bs ∙ ap (λ m. spans_after m 0 (drop n bs)) shifted ∙ ap (spans_after (column + (1 + n)) 0) cut)

pub no_column : (column : ℕ) (rest : List ℕ) → length rest ≡ 0 → spans_after column 0 rest ≡ []
unfolding spans_after
no_column column [] empty = refl
no_column column (b ∷ bs) empty = absurd (omega (arith, empty))

pub span_pushed : (front now : List TokenSpan) (span : TokenSpan) (others rest all : List TokenSpan) → now ≡ front ++ span ∷ [] → rest ≡ span ∷ others
    → front ++ rest ≡ all → now ++ others ≡ all
span_pushed front now span others rest all is_now is_rest so_far =
    ap (λ (xs : List TokenSpan). xs ++ others) is_now ∙ append_assoc front (span ∷ []) others ∙ ap (λ (xs : List TokenSpan). front ++ xs) (sym is_rest) ∙ so_far
