-- What is shown of bytes is UTF-8, since a byte of ASCII is shown as ASCII, and the bytes of a letter together or not at
-- all.
use Rattle.std.proofs.Common.{ℕ, zero, suc, lit<, ◌≡◌, ◌<◌, ◌≤◌, ◌/◌, ◌%◌, Bool, true, false, ◌&&◌, not, List, [], ◌∷◌, refl, subst, arith, cond, codes}
use Rattle.std.specs.List.{list_all, list_any}
use Rattle.std.specs.Prelude.{nat_lt, nat_le}
use Rattle.std.specs.Char.{IsScalar}
use Rattle.std.specs.Str.{IsUtf8, IsAscii, is_utf8, chars}
use lib.Utf8.{scalars, encode, encodes}
use Rattle.std.proofs.lemmas.Bool.Decides.{nat_tests}
use Rattle.std.proofs.lemmas.List.Concat.{flat_map-append}
use Rattle.std.proofs.lemmas.Str.{is_utf8-from_IsUtf8, IsUtf8-from_is_utf8, IsUtf8-append, IsUtf8-encode, IsUtf8-nil, IsUtf8-from_ascii, IsAscii-append, encode_ascii}
use Rattle.shown_names.specs.Shown.{is_readable, hex_digit, escaped}
use Rattle.diagnostics.specs.Excerpt.{is_plain, shown_byte, shown}

ascii_cons : (b : ℕ) (bs : List ℕ) → b < 128 → IsAscii bs → IsAscii (b ∷ bs)
ascii_cons b bs h t zero = h
ascii_cons b bs h t (suc i) = t i

ascii_nil : IsAscii []
ascii_nil i = lit< tt

ascii_all : (bs : List ℕ) → list_all (λ b. nat_lt b 128) bs ≡ true → IsAscii bs
ascii_all [] e = ascii_nil
ascii_all (b ∷ bs) e = ascii_cons b bs (grind (arith, nat_tests)) (ascii_all bs (grind (arith, nat_tests)))

ascii_escaped : (b : ℕ) → IsAscii (escaped b)
ascii_escaped b =
    let digits = ascii_all (codes "0123456789abcdef") refl in
    let low : List ℕ = hex_digit (b % 16) ∷ [] in
    let both : List ℕ = hex_digit (b / 16) ∷ low in
    IsAscii-append (codes "\\x") both (ascii_all (codes "\\x") refl)
    (ascii_cons (hex_digit (b / 16)) low (digits (b / 16)) (ascii_cons (hex_digit (b % 16)) [] (digits (b % 16)) ascii_nil))

ascii_shown : (readable : Bool) (b : ℕ) → (is_plain readable b ≡ true → b < 128) → IsAscii (shown_byte readable b)
ascii_shown readable b h =
    elim (is_plain readable b) as (λ p. is_plain readable b ≡ p → IsAscii (cond p (b ∷ []) (escaped b)))
    [ true ↦ λ e. ascii_cons b [] (h e) ascii_nil | false ↦ λ e. ascii_escaped b ] refl

unread_low : (b : ℕ) → is_plain false b ≡ true → b < 128
unread_low b e = grind (arith, nat_tests)

ascii_unread : (bs : List ℕ) → IsAscii (shown false bs)
ascii_unread [] = ascii_nil
ascii_unread (b ∷ bs) = IsAscii-append (shown_byte false b) (shown false bs) (ascii_shown false b (unread_low b)) (ascii_unread bs)

high_byte : (b : ℕ) → 128 ≤ b → shown_byte true b ≡ b ∷ []
high_byte b h = grind (arith, nat_tests)

high_bytes : (bs : List ℕ) → list_all (λ b. nat_le 128 b) bs ≡ true → shown true bs ≡ bs
high_bytes [] e = refl
high_bytes (b ∷ bs) e =
    rw (high_byte b (grind (arith, nat_tests)), high_bytes bs (grind (arith, nat_tests))) refl

high_letter : (c : ℕ) → 128 ≤ c → list_all (λ b. nat_le 128 b) (encode c) ≡ true
unfolding encode
high_letter c h = grind (arith, nat_tests)

letter : (c : ℕ) → IsScalar c → IsUtf8 (shown true (encode c))
letter c s =
    elim (nat_lt c 128) as (λ t. nat_lt c 128 ≡ t → IsUtf8 (shown true (encode c))) [
      | true ↦ λ e.
          let h : c < 128 = grind (arith, nat_tests) in
          rw (encode_ascii c h) (IsUtf8-from_ascii (shown true (c ∷ [])) (IsAscii-append (shown_byte true c) [] (ascii_shown true c (λ _. h)) ascii_nil))
      | false ↦ λ e. rw (high_bytes (encode c) (high_letter c (grind (arith, nat_tests)))) (IsUtf8-encode c s)
    ] refl

letters : (cs : List ℕ) → scalars cs ≡ true → IsUtf8 (shown true (encodes cs))
letters [] e = IsUtf8-nil
letters (c ∷ cs) e =
    rw (flat_map-append (shown_byte true) (encode c) (encodes cs))
    (IsUtf8-append (shown true (encode c)) (shown true (encodes cs)) (letter c (grind arith)) (letters cs (grind arith)))

readable_utf8 : (bs : List ℕ) → is_readable bs ≡ true → IsUtf8 bs
unfolding is_readable
readable_utf8 bs e = IsUtf8-from_is_utf8 bs (grind arith)

-- what is shown of bytes is UTF-8
pub shown_utf8 : (bs : List ℕ) → IsUtf8 (shown (is_readable bs) bs)
shown_utf8 bs =
    elim (is_readable bs) as (λ r. is_readable bs ≡ r → IsUtf8 (shown r bs)) [
      | true ↦ λ e. let u = readable_utf8 bs e in subst (λ (x : List ℕ). IsUtf8 (shown true x)) u.1.1 (letters u.0 u.1.0)
      | false ↦ λ e. IsUtf8-from_ascii (shown false bs) (ascii_unread bs)
    ] refl
