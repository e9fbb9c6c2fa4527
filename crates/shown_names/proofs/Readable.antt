-- Whether bytes are readable is decided by reading them as UTF-8; and what stands for them is UTF-8 again, since a byte of
-- ASCII becomes ASCII, and the bytes of a letter stay together or become ASCII, too.
use Rattle.std.proofs.Common.{ℕ, zero, suc, lit<, ◌≡◌, ◌<◌, ◌≤◌, ◌/◌, ◌%◌, Bool, true, false, ◌&&◌, ◌||◌, not, List, [], ◌∷◌, ◌++◌, refl, subst, arith, cond, codes}
use Rattle.std.specs.List.{flat_map, list_all, list_any}
use Rattle.std.specs.Prelude.{nat_lt, nat_le, nat_eq}
use Rattle.std.specs.Char.{IsScalar}
use Rattle.std.specs.Str.{IsUtf8, IsAscii, is_utf8, chars}
use lib.Utf8.{scalars, encode, encodes}
use Rattle.std.proofs.lemmas.Bool.Decides.{nat_tests}
use Rattle.std.proofs.lemmas.List.Concat.{flat_map-append}
use Rattle.std.proofs.lemmas.Str.{is_utf8-from_IsUtf8, IsUtf8-from_is_utf8, IsUtf8-append, IsUtf8-encode, IsUtf8-nil, IsUtf8-from_ascii, IsAscii-append, encode_ascii}
use Rattle.shown_names.specs.Shell.{coded, coded_byte, quoted, quoted_byte}
use Rattle.shown_names.specs.Shown.{steers, is_printable, is_printed, is_readable, hex_digit, escaped, shown, shown_as, shown_byte}

pub readable_text : (bs : List ℕ) (steered : Bool) → IsUtf8 bs → steered ≡ list_any steers (chars bs) → not steered ≡ is_readable bs
unfolding is_readable
readable_text bs steered u e = rw (is_utf8-from_IsUtf8 bs u, e) refl

pub no_text : (bs : List ℕ) → ¬ (IsUtf8 bs) → false ≡ is_readable bs
unfolding is_readable
no_text bs n =
    elim (is_utf8 bs) as (λ b. is_utf8 bs ≡ b → false ≡ (b && not (list_any steers (chars bs))))
    [ true ↦ λ e. absurd (n (IsUtf8-from_is_utf8 bs e)) | false ↦ λ e. refl ] refl

ascii_cons : (b : ℕ) (bs : List ℕ) → b < 128 → IsAscii bs → IsAscii (b ∷ bs)
ascii_cons b bs h t zero = h
ascii_cons b bs h t (suc i) = t i

ascii_nil : IsAscii []
ascii_nil i = lit< tt

ascii_all : (bs : List ℕ) → list_all (λ b. nat_lt b 128) bs ≡ true → IsAscii bs
ascii_all [] e = ascii_nil
ascii_all (b ∷ bs) e = ascii_cons b bs (grind (arith, nat_tests)) (ascii_all bs (grind (arith, nat_tests)))

ascii_escaped : (b : ℕ) → IsAscii (escaped b)
ascii_escaped b =
    let digits = ascii_all (codes "0123456789abcdef") refl in
    let low : List ℕ = hex_digit (b % 16) ∷ [] in
    let both : List ℕ = hex_digit (b / 16) ∷ low in
    IsAscii-append (codes "\\x") both (ascii_all (codes "\\x") refl)
    (ascii_cons (hex_digit (b / 16)) low (digits (b / 16)) (ascii_cons (hex_digit (b % 16)) [] (digits (b % 16)) ascii_nil))

ascii_shown : (readable : Bool) (b : ℕ) → (is_printed readable b ≡ true → b < 128) → IsAscii (shown_byte readable b)
ascii_shown readable b h =
    elim (is_printed readable b) as (λ p. is_printed readable b ≡ p → IsAscii (cond p (b ∷ []) (escaped b)))
    [ true ↦ λ e. ascii_cons b [] (h e) ascii_nil | false ↦ λ e. ascii_escaped b ] refl

unread_low : (b : ℕ) → is_printed false b ≡ true → b < 128
unread_low b e = grind (arith, nat_tests)

ascii_coded : (readable : Bool) (b : ℕ) → (is_printed readable b ≡ true → b < 128) → IsAscii (coded_byte readable b)
ascii_coded readable b h =
    elim (nat_eq b 39 || nat_eq b 92) as (λ p. (nat_eq b 39 || nat_eq b 92) ≡ p → IsAscii (cond p (92 ∷ b ∷ []) (shown_byte readable b)))
    [ true ↦ λ e. ascii_cons 92 (b ∷ []) (lit< tt) (ascii_cons b [] (grind (arith, nat_tests)) ascii_nil) | false ↦ λ e. ascii_shown readable b h ] refl

ascii_quoted : (b : ℕ) → b < 128 → IsAscii (quoted_byte b)
ascii_quoted b h =
    elim (nat_eq b 39) as (λ p. nat_eq b 39 ≡ p → IsAscii (cond p (codes "'\\''") (b ∷ [])))
    [ true ↦ λ e. ascii_all (codes "'\\''") refl | false ↦ λ e. ascii_cons b [] h ascii_nil ] refl

-- where each byte becomes ASCII, all is ASCII
all_ascii : (f : ℕ → List ℕ) → ((b : ℕ) → IsAscii (f b)) → (bs : List ℕ) → IsAscii (flat_map f bs)
all_ascii f low [] = ascii_nil
all_ascii f low (b ∷ bs) = IsAscii-append (f b) (flat_map f bs) (low b) (all_ascii f low bs)

high_bytes : (f : ℕ → List ℕ) → ((b : ℕ) → 128 ≤ b → f b ≡ b ∷ []) → (bs : List ℕ) → list_all (λ b. nat_le 128 b) bs ≡ true → flat_map f bs ≡ bs
high_bytes f stays [] e = refl
high_bytes f stays (b ∷ bs) e =
    rw (stays b (grind (arith, nat_tests)), high_bytes f stays bs (grind (arith, nat_tests))) refl

high_letter : (c : ℕ) → 128 ≤ c → list_all (λ b. nat_le 128 b) (encode c) ≡ true
unfolding encode
high_letter c h = grind (arith, nat_tests)

letter : (f : ℕ → List ℕ) → ((b : ℕ) → b < 128 → IsAscii (f b)) → ((b : ℕ) → 128 ≤ b → f b ≡ b ∷ []) → (c : ℕ) → IsScalar c → IsUtf8 (flat_map f (encode c))
letter f low stays c s =
    elim (nat_lt c 128) as (λ t. nat_lt c 128 ≡ t → IsUtf8 (flat_map f (encode c))) [
      | true ↦ λ e.
          let h : c < 128 = grind (arith, nat_tests) in
          rw (encode_ascii c h) (IsUtf8-from_ascii (flat_map f (c ∷ [])) (IsAscii-append (f c) [] (low c h) ascii_nil))
      | false ↦ λ e. rw (high_bytes f stays (encode c) (high_letter c (grind (arith, nat_tests)))) (IsUtf8-encode c s)
    ] refl

letters : (f : ℕ → List ℕ) → ((b : ℕ) → b < 128 → IsAscii (f b)) → ((b : ℕ) → 128 ≤ b → f b ≡ b ∷ []) → (cs : List ℕ) → scalars cs ≡ true → IsUtf8 (flat_map f (encodes cs))
letters f low stays [] e = IsUtf8-nil
letters f low stays (c ∷ cs) e =
    rw (flat_map-append f (encode c) (encodes cs))
    (IsUtf8-append (flat_map f (encode c)) (flat_map f (encodes cs)) (letter f low stays c (grind arith)) (letters f low stays cs (grind arith)))

-- where bytes of ASCII become ASCII, and others stay, a text of UTF-8 becomes one
kept_utf8 : (f : ℕ → List ℕ) → ((b : ℕ) → b < 128 → IsAscii (f b)) → ((b : ℕ) → 128 ≤ b → f b ≡ b ∷ []) → (bs : List ℕ) → IsUtf8 bs → IsUtf8 (flat_map f bs)
kept_utf8 f low stays bs u = subst (λ (x : List ℕ). IsUtf8 (flat_map f x)) u.1.1 (letters f low stays u.0 u.1.0)

readable_utf8 : (bs : List ℕ) → is_readable bs ≡ true → IsUtf8 bs
unfolding is_readable
readable_utf8 bs e = IsUtf8-from_is_utf8 bs (grind arith)

-- a name is shown as UTF-8
pub shown_utf8 : (name : List ℕ) → IsUtf8 (shown name)
shown_utf8 name =
    elim (is_readable name) as (λ r. is_readable name ≡ r → IsUtf8 (shown_as r name)) [
      | true ↦ λ e. kept_utf8 (shown_byte true) (λ b h. ascii_shown true b (λ _. h)) (λ b h. grind (arith, nat_tests)) name (readable_utf8 name e)
      | false ↦ λ e. IsUtf8-from_ascii (shown_as false name) (all_ascii (shown_byte false) (λ b. ascii_shown false b (unread_low b)) name)
    ] refl

ascii_one : (b : ℕ) → b < 128 → IsUtf8 (b ∷ [])
ascii_one b h = IsUtf8-from_ascii (b ∷ []) (ascii_cons b [] h ascii_nil)

coded_utf8 : (name : List ℕ) → IsUtf8 (coded (is_readable name) name)
coded_utf8 name =
    IsUtf8-append (codes "$'") (flat_map (coded_byte (is_readable name)) name ++ 39 ∷ []) (IsUtf8-from_ascii (codes "$'") (ascii_all (codes "$'") refl))
    (IsUtf8-append (flat_map (coded_byte (is_readable name)) name) (39 ∷ []) (
    elim (is_readable name) as (λ r. is_readable name ≡ r → IsUtf8 (flat_map (coded_byte r) name)) [
      | true ↦ λ e. kept_utf8 (coded_byte true) (λ b h. ascii_coded true b (λ _. h)) (λ b h. grind (arith, nat_tests)) name (readable_utf8 name e)
      | false ↦ λ e. IsUtf8-from_ascii (flat_map (coded_byte false) name) (all_ascii (coded_byte false) (λ b. ascii_coded false b (unread_low b)) name)
    ] refl) (ascii_one 39 (lit< tt)))

single_utf8 : (name : List ℕ) → IsUtf8 name → IsUtf8 (39 ∷ (flat_map quoted_byte name ++ 39 ∷ []))
single_utf8 name u =
    IsUtf8-append (39 ∷ []) (flat_map quoted_byte name ++ 39 ∷ []) (ascii_one 39 (lit< tt))
    (IsUtf8-append (flat_map quoted_byte name) (39 ∷ []) (kept_utf8 quoted_byte ascii_quoted (λ b h. grind (arith, nat_tests)) name u) (ascii_one 39 (lit< tt)))

-- a name between quotes is UTF-8
pub quoted_utf8 : (name : List ℕ) → IsUtf8 name → IsUtf8 (quoted name)
quoted_utf8 name u =
    elim (is_printable name) as (λ p. IsUtf8 (cond p (39 ∷ (flat_map quoted_byte name ++ 39 ∷ [])) (coded (is_readable name) name)))
    [ true ↦ single_utf8 name u | false ↦ coded_utf8 name ]
