-- Each piece of a line is read back as its one token.
use Rattle.canonical_text.proofs.Imports.{◌≡◌, ℕ, suc, ◌^◌, ◌<◌, List, [], ◌∷◌, ◌++◌, true, false, Option, Some, None, arith, refl, ap, sym, ◌∙◌, ◌==◌, not, ℤ, pos, negsuc, nat_lt, nat_le, codes, list_all, byte, decimal, signed_decimal, is_ascii_digit, is_ascii_alphanumeric, and_parts, and_left, or_left, or_from, lt-ltb, le-leb, lt-leb, leb-true, ne_eqb, false_from_ne_true, cond-true, cond-false, false≢true, append-nil, is_name, begins_name, continues_name, begins_with_digit, magnitude_of, number_of, positive, negative, register_of, register_numbered, has_leading_zero, is_text_byte, is_name_byte, is_name_start, begins_number, kind_of, token_of, Token, Small, Large, register_text, hexadecimal, IsHalf}
use Rattle.std.specs.Option.{option_map, option_and_then}
use Rattle.program_tokens.specs.declared.token.Token.TheVariants as token
use Rattle.program_tokens.specs.declared.token.Number.{Number}
use Rattle.canonical_text.proofs.Spelling.{Reads, ends, differs, name_stops, register_stops, number_stops, index_stops, sign_stops, token as one_token, sign}
use Rattle.canonical_text.proofs.ByteTests.{all_of, name_byte_text, not_blank, digit_alphanumeric, alphanumeric_name}
use Rattle.canonical_text.proofs.Numerals.{IsDecimal, decimal_is, number_in_decimal, magnitude_decimal, first_digit, no_leading_zero, beyond, hexadecimal_plain, magnitude_hexadecimal}

-- Names.

pub name_reads : (name : List ℕ) → is_name name ≡ true → Reads name (token.Name name ∷ [])
unfolding kind_of token_of
name_reads [] h = absurd (false≢true h)
name_reads (b ∷ bs) h =
    let both = and_parts _ (list_all continues_name (b ∷ bs)) h in
    let first : begins_name b ≡ true = (and_parts _ (begins_name b) both.0).1 in
    let others = and_parts (continues_name b) (list_all continues_name bs) both.1 in
    one_token 97 b bs (token.Name (b ∷ bs)) name_stops
    (λ rest _. cond-true (is_name_start b) _ _ first)
    (not_blank begins_name b first refl refl)
    (differs begins_name b 35 first refl)
    (name_byte_text b others.0)
    (all_of is_name_byte is_text_byte name_byte_text bs others.1)
    others.1
    (cond-true (is_name (b ∷ bs)) (Some (token.Name (b ∷ bs))) None h)

-- Digits.

digits_alphanumeric : (ds : List ℕ) → list_all is_ascii_digit ds ≡ true → list_all is_ascii_alphanumeric ds ≡ true
digits_alphanumeric = all_of is_ascii_digit is_ascii_alphanumeric digit_alphanumeric

alphanumeric_text : (ds : List ℕ) → list_all is_ascii_alphanumeric ds ≡ true → list_all is_text_byte ds ≡ true
alphanumeric_text = all_of is_ascii_alphanumeric is_text_byte (λ b h. name_byte_text b (alphanumeric_name b h))

alphanumeric_names : (ds : List ℕ) → list_all is_ascii_alphanumeric ds ≡ true → list_all is_name_byte ds ≡ true
alphanumeric_names = all_of is_ascii_alphanumeric is_name_byte alphanumeric_name

-- Registers.

begins : (ds : List ℕ) (n : ℕ) → IsDecimal ds n → begins_with_digit ds ≡ true
begins ds n h = ap begins_with_digit (sym (append-nil ds)) ∙ first_digit ds n [] h

register_reads_of : (r : ℕ) (ds : List ℕ) → r < 34 → IsDecimal ds r → has_leading_zero ds ≡ false → register_of ds ≡ Some r
unfolding register_of
register_reads_of r ds below h first =
    cond-true (begins_with_digit ds) _ _ (begins ds r h)
    ∙ cond-false (has_leading_zero ds) None _ first
    ∙ ap (λ (o : Option ℕ). option_and_then register_numbered o) (number_in_decimal ds r h)
    ∙ cond-true (nat_le r 33) (Some r) None (le-leb r 33 (omega arith))

pub register_reads : (r : ℕ) → r < 34 → Reads (register_text r) (token.Register r ∷ [])
unfolding kind_of token_of
register_reads r below =
    let small : r < 2 ^ 40 = omega arith in
    let is = decimal_is r small in
    let plain = digits_alphanumeric (decimal r) is.plain in
    one_token 36 36 (decimal r) (token.Register r) register_stops (λ rest _. refl) refl refl refl
    (alphanumeric_text (decimal r) plain) (alphanumeric_names (decimal r) plain)
    (ap (option_map token.Register) (register_reads_of r (decimal r) below is (no_leading_zero r small)))

-- Numbers.

pub positive_small : (n : ℕ) → n < 2 ^ 40 → positive n ≡ Small (pos n)
positive_small n small = cond-true (nat_lt n (2 ^ 40)) (Small (pos n)) Large (lt-ltb n (2 ^ 40) small)

digit_not_start : (b : ℕ) → is_ascii_digit b ≡ true → is_name_start b ≡ false
digit_not_start b h =
    let parts = and_parts (nat_le 48 b) (nat_le b 57) h in
    let below : b < 58 = omega (arith, leb-true b 57 parts.1) in
    or_from _ (b == 95)
    (or_from _ _ (and_left (nat_le 65 b) (nat_le b 90) (lt-leb 65 b (omega arith))) (and_left (nat_le 97 b) (nat_le b 122) (lt-leb 97 b (omega arith))))
    (ne_eqb b 95 (λ e. omega arith))

-- a number whose magnitude is known, digits and letters after a first digit
number_reads : (b n : ℕ) (bs : List ℕ) → is_ascii_digit b ≡ true → list_all is_ascii_alphanumeric bs ≡ true
    → magnitude_of (b ∷ bs) ≡ Some n → n < 2 ^ 40 → Reads (b ∷ bs) (token.Number (Small (pos n)) ∷ [])
unfolding kind_of token_of number_of
number_reads b n bs digit plain is small =
    one_token 48 b bs (token.Number (Small (pos n))) number_stops
    (λ rest _. cond-false (is_name_start b) _ _ (digit_not_start b digit) ∙ cond-true (begins_number b (bs ++ rest)) _ _ (or_left (is_ascii_digit b) _ digit))
    (not_blank is_ascii_digit b digit refl refl)
    (differs is_ascii_digit b 35 digit refl)
    (name_byte_text b (alphanumeric_name b (digit_alphanumeric b digit)))
    (alphanumeric_text bs plain) plain
    (ap (option_map token.Number)
    (cond-false (b == 45) _ _ (differs is_ascii_digit b 45 digit refl) ∙ ap (option_map positive) is ∙ ap (λ (x : Number). Some x) (positive_small n small)))

decimal_reads_of : (ds : List ℕ) (n : ℕ) → IsDecimal ds n → n < 2 ^ 40 → Reads ds (token.Number (Small (pos n)) ∷ [])
decimal_reads_of [] n is small = absurd (omega (arith, is.some))
decimal_reads_of (d ∷ ds) n is small =
    let parts = and_parts (is_ascii_digit d) (list_all is_ascii_digit ds) is.plain in
    number_reads d n ds parts.0 (digits_alphanumeric ds parts.1) (magnitude_decimal (d ∷ ds) n is) small

pub decimal_reads : (n : ℕ) → n < 2 ^ 40 → Reads (decimal n) (token.Number (Small (pos n)) ∷ [])
decimal_reads n small = decimal_reads_of (decimal n) n (decimal_is n small) small

negative_reads_of : (ds : List ℕ) (n : ℕ) → IsDecimal ds (suc n) → suc n < 2 ^ 40 → Reads (45 ∷ ds) (token.Number (Small (negsuc n)) ∷ [])
unfolding kind_of token_of number_of
negative_reads_of ds n is small =
    let plain = digits_alphanumeric ds is.plain in
    one_token 48 45 ds (token.Number (Small (negsuc n))) number_stops
    (λ rest _. cond-true (begins_with_digit (ds ++ rest)) _ _ (first_digit ds (suc n) rest is))
    refl refl refl
    (alphanumeric_text ds plain) plain
    (ap (option_map token.Number)
    (ap (option_map negative) (magnitude_decimal ds (suc n) is) ∙ ap (λ (x : Number). Some x) (cond-true (nat_lt (suc n) (2 ^ 40)) (Small (negsuc n)) Large (lt-ltb (suc n) (2 ^ 40) small))))

pub signed_reads : (z : ℤ) → IsHalf z → Reads (signed_decimal z) (token.Number (Small z) ∷ [])
signed_reads (pos n) h = decimal_reads n (omega arith)
signed_reads (negsuc n) h =
    let small : suc n < 2 ^ 40 = omega arith in negative_reads_of (decimal (suc n)) n (decimal_is (suc n) small) small

pub hexadecimal_reads : (count n : ℕ) → 0 < count → n < beyond count → n < 2 ^ 40
    → Reads (codes "0x" ++ hexadecimal count n) (token.Number (Small (pos n)) ∷ [])
hexadecimal_reads count n some below small =
    number_reads 48 n (120 ∷ hexadecimal count n) refl (hexadecimal_plain count n) (magnitude_hexadecimal count n some below) small

-- Indices.

pub index_reads : (n : ℕ) → n < 2 ^ 40 → Reads (byte "@" ∷ decimal n) (token.Index (Small (pos n)) ∷ [])
unfolding kind_of token_of
index_reads n small =
    let is = decimal_is n small in
    let plain = digits_alphanumeric (decimal n) is.plain in
    one_token 64 64 (decimal n) (token.Index (Small (pos n))) index_stops (λ rest _. refl) refl refl refl
    (alphanumeric_text (decimal n) plain) plain
    (ap (option_map (λ n. token.Index (positive n))) (number_in_decimal (decimal n) n is) ∙ ap (λ (x : Number). Some (token.Index x)) (positive_small n small))

-- Signs.

pub comma : {text : List ℕ} {tokens : List Token} → Reads text tokens → Reads (44 ∷ text) (token.Comma ∷ tokens)
unfolding kind_of token_of
comma r = sign 44 token.Comma (λ after. refl) refl refl refl refl r

pub opened : {text : List ℕ} {tokens : List Token} → Reads text tokens → Reads (40 ∷ text) (token.Open ∷ tokens)
unfolding kind_of token_of
opened r = sign 40 token.Open (λ after. refl) refl refl refl refl r

pub closed : {text : List ℕ} {tokens : List Token} → Reads text tokens → Reads (41 ∷ text) (token.Close ∷ tokens)
unfolding kind_of token_of
closed r = sign 41 token.Close (λ after. refl) refl refl refl refl r

pub colon : {text : List ℕ} {tokens : List Token} → Reads text tokens → Reads (58 ∷ text) (token.Colon ∷ tokens)
unfolding kind_of token_of
colon r = sign 58 token.Colon (λ after. refl) refl refl refl refl r

pub equals : {text : List ℕ} {tokens : List Token} → Reads text tokens → Reads (61 ∷ text) (token.Equals ∷ tokens)
unfolding kind_of token_of
equals r = sign 61 token.Equals (λ after. refl) refl refl refl refl r

-- a `-` that stands before no digit
no_digit : (rest : List ℕ) → ends rest ≡ true → begins_with_digit rest ≡ false
no_digit [] h = refl
no_digit (b ∷ bs) h = false_from_ne_true (is_ascii_digit b) (λ e. false≢true (sym (ap not (alphanumeric_name b (digit_alphanumeric b e))) ∙ h))

pub minus : Reads (45 ∷ []) (token.Minus ∷ [])
unfolding kind_of token_of
minus = one_token 44 45 [] token.Minus sign_stops (λ rest h. cond-false (begins_with_digit rest) _ _ (no_digit rest h)) refl refl refl refl refl refl
