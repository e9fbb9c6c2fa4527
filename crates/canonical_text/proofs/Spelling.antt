-- Texts that are read as their tokens wherever they stand before bytes that go on no token, and how such
-- texts are put together from the right.
use Rattle.canonical_text.proofs.Imports.{◌≡◌, ℕ, zero, suc, ◌+◌, ◌-◌, List, [], ◌∷◌, ◌++◌, Bool, true, false, cond, Option, Some, Result, Ok, Err, length, take, refl, ap, sym, ◌∙◌, append_assoc, inl, inr, ◌==◌, not, slice_index, list_all, prefix_len, All, byte, is_ascii_alphanumeric, is_ascii_lowercase, append-nil, All-nil, All-cons, or_parts, and_parts, and_from, false≢true, cases_eq, cond-false, cond-true, list_all-append, is_text_byte, is_blank, is_name_byte, kind_of, goes_on, token_of, with_token, tokens_after, line_tokens, Token, LineFault}
use Rattle.std.proofs.Common.{ne_eqb}
use Rattle.std.specs.Str.Lines.{strip_carriage_return}
use Rattle.program_tokens.specs.declared.token.LineFault.TheVariants as fault
use Rattle.program_tokens.proofs.Steps.{with_tokens, token_again, blank_step}

-- no token goes on after the end of a text, nor with such a byte
abbrev pub ends : List ℕ → Bool
ends [] = true
ends (b ∷ bs) = not (is_name_byte b)

pub record Reads (text : List ℕ) (tokens : List Token) : Type 0 where
  pub ascii : list_all is_text_byte text ≡ true
  pub again : (rest : List ℕ) → ends rest ≡ true → tokens_after 0 (text ++ rest) ≡ with_tokens tokens (tokens_after 0 rest)

-- a byte that passes a test is none that fails it
pub differs : (p : ℕ → Bool) (b c : ℕ) → p b ≡ true → p c ≡ false → (b == c) ≡ false
differs p b c holds fails =
    elim (cases_eq b c) [
      | inl same ↦ absurd (false≢true (sym fails ∙ ap p (sym same) ∙ holds))
      | inr other ↦ ne_eqb b c other
    ]

not_true : (b : Bool) → not b ≡ true → b ≡ false
not_true true h = absurd (false≢true h)
not_true false h = refl

-- A kind of token is named by a byte with which its tokens begin.

-- tokens of this kind go on with no byte that no name goes on with
abbrev pub Stops : ℕ → Type 0
Stops first = (b : ℕ) → is_name_byte b ≡ false → goes_on (kind_of first []) b ≡ false

pub name_stops : Stops 97
unfolding kind_of
name_stops b h = h

pub register_stops : Stops 36
unfolding kind_of
register_stops b h = h

pub number_stops : Stops 48
unfolding kind_of
number_stops b h = (or_parts (is_ascii_alphanumeric b) (b == 95) h).0

pub index_stops : Stops 64
unfolding kind_of
index_stops b h = (or_parts (is_ascii_alphanumeric b) (b == 95) h).0

pub directive_stops : Stops 46
unfolding kind_of
directive_stops b h = (or_parts _ (is_ascii_lowercase b) (or_parts (is_ascii_alphanumeric b) (b == 95) h).0).1

pub mark_stops : Stops 33
unfolding kind_of
mark_stops b h = (or_parts _ (is_ascii_lowercase b) (or_parts (is_ascii_alphanumeric b) (b == 95) h).0).1

pub sign_stops : Stops 44
unfolding kind_of
sign_stops b h = refl

no_run : (first : ℕ) (rest : List ℕ) → Stops first → ends rest ≡ true → prefix_len (goes_on (kind_of first [])) rest ≡ 0
no_run first [] stops h = refl
no_run first (b ∷ bs) stops h =
    cond-false (goes_on (kind_of first []) b) (1 + prefix_len (goes_on (kind_of first [])) bs) 0 (stops b (not_true (is_name_byte b) h))

no_sign_run : (rest : List ℕ) → prefix_len (goes_on (kind_of 44 [])) rest ≡ 0
unfolding kind_of
no_sign_run [] = refl
no_sign_run (b ∷ bs) = refl

-- Tokens in front of a reading.

single : (t : Token) (reading : Result (List Token) LineFault) → with_token (Some t) reading ≡ with_tokens (t ∷ []) reading
single t (Ok others) = refl
single t (Err bad) = refl

one_more : (t : Token) (ts : List Token) (reading : Result (List Token) LineFault)
    → with_token (Some t) (with_tokens ts reading) ≡ with_tokens (t ∷ ts) reading
one_more t ts (Ok others) = refl
one_more t ts (Err bad) = refl

none : (reading : Result (List Token) LineFault) → reading ≡ with_tokens [] reading
none (Ok others) = refl
none (Err bad) = refl

together : (s u : List Token) (reading : Result (List Token) LineFault)
    → with_tokens s (with_tokens u reading) ≡ with_tokens (s ++ u) reading
together s u (Ok others) = ap (λ (ts : List Token). Ok ts) (sym (append_assoc s u others))
together s u (Err bad) = refl

-- Putting texts together.

pub nothing : Reads [] []
nothing = record { ascii = refl; again = λ rest h. none (tokens_after 0 rest) }

pub blank : {text : List ℕ} {tokens : List Token} → Reads text tokens → Reads (32 ∷ text) tokens
blank {text} r = record { ascii = r.ascii; again = λ rest h. blank_step 32 (text ++ rest) refl ∙ r.again rest h }

pub sign : {text : List ℕ} {tokens : List Token} (b : ℕ) (t : Token) → ((after : List ℕ) → kind_of b after ≡ kind_of 44 [])
    → is_blank b ≡ false → (b == byte "#") ≡ false → is_text_byte b ≡ true → token_of (kind_of 44 []) (b ∷ []) ≡ Some t
    → Reads text tokens → Reads (b ∷ text) (t ∷ tokens)
sign {text} {tokens} b t is_sign not_blank not_comment is_text means r = record {
  ascii = and_from _ _ is_text r.ascii;
  again = λ rest h.
      token_again (kind_of 44 []) b [] (text ++ rest) (is_sign (text ++ rest)) not_blank not_comment refl (no_sign_run (text ++ rest))
      ∙ ap (λ (o : Option Token). with_token o (tokens_after 0 (text ++ rest))) means
      ∙ ap (with_token (Some t)) (r.again rest h)
      ∙ one_more t tokens (tokens_after 0 rest);
}

-- a text that is one token, of the kind that begins with the first byte
pub token : (first : ℕ) (b : ℕ) (bs : List ℕ) (t : Token) → Stops first → ((rest : List ℕ) → ends rest ≡ true → kind_of b (bs ++ rest) ≡ kind_of first [])
    → is_blank b ≡ false → (b == byte "#") ≡ false → is_text_byte b ≡ true → list_all is_text_byte bs ≡ true
    → list_all (goes_on (kind_of first [])) bs ≡ true → token_of (kind_of first []) (b ∷ bs) ≡ Some t → Reads (b ∷ bs) (t ∷ [])
token first b bs t stops is_kind not_blank not_comment first_text others_text passes means = record {
  ascii = and_from _ _ first_text others_text;
  again = λ rest h.
      token_again (kind_of first []) b bs rest (is_kind rest h) not_blank not_comment passes (no_run first rest stops h)
      ∙ ap (λ (o : Option Token). with_token o (tokens_after 0 rest)) means
      ∙ single t (tokens_after 0 rest);
}

-- two texts, the second of which begins with a byte that goes on no token
pub joined : {a bs : List ℕ} {s u : List Token} (b : ℕ) → is_name_byte b ≡ false
    → Reads a s → Reads (b ∷ bs) u → Reads (a ++ (b ∷ bs)) (s ++ u)
joined {a} {bs} {s} {u} b begins r q = record {
  ascii = list_all-append is_text_byte a (b ∷ bs) ∙ and_from _ _ r.ascii q.ascii;
  again = λ rest h.
      ap (tokens_after 0) (append_assoc a (b ∷ bs) rest)
      ∙ r.again ((b ∷ bs) ++ rest) (ap not begins)
      ∙ ap (with_tokens s) (q.again rest h)
      ∙ together s u (tokens_after 0 rest);
}

-- Whole lines.

no_return : (text : List ℕ) (i : ℕ) → list_all is_text_byte text ≡ true → (slice_index text i == 13) ≡ false
no_return [] i h = refl
no_return (b ∷ bs) zero h = differs is_text_byte b 13 (and_parts (is_text_byte b) (list_all is_text_byte bs) h).0 refl
no_return (b ∷ bs) (suc i) h = no_return bs i (and_parts (is_text_byte b) (list_all is_text_byte bs) h).1

kept : (text : List ℕ) → list_all is_text_byte text ≡ true → strip_carriage_return text ≡ text
kept text h = cond-false (slice_index text (length text - 1) == 13) (take (length text - 1) text) text (no_return text (length text - 1) h)

pub no_newline : (text : List ℕ) → list_all is_text_byte text ≡ true → All (λ b. (b == 10) ≡ false) text
no_newline [] h = All-nil (λ (b : ℕ). (b == 10) ≡ false)
no_newline (b ∷ bs) h =
    let parts = and_parts (is_text_byte b) (list_all is_text_byte bs) h in
    All-cons (λ (b : ℕ). (b == 10) ≡ false) b bs (differs is_text_byte b 10 parts.0 refl) (no_newline bs parts.1)

all_tokens : (tokens : List Token) → (let end : Result (List Token) LineFault = Ok [] in with_tokens tokens end) ≡ Ok tokens
all_tokens tokens = ap (λ (ts : List Token). Ok ts) (append-nil tokens)

whole : (text : List ℕ) (tokens : List Token) → Reads text tokens → tokens_after 0 text ≡ Ok tokens
unfolding tokens_after
whole text tokens r = ap (tokens_after 0) (sym (append-nil text)) ∙ r.again [] refl ∙ all_tokens tokens

pub line_reads : {text : List ℕ} {tokens : List Token} → Reads text tokens → line_tokens text ≡ Ok tokens
unfolding line_tokens
line_reads {text} {tokens} r =
    ap (λ (t : List ℕ). cond (list_all is_text_byte t) (tokens_after 0 t) (Err fault.NotAscii)) (kept text r.ascii)
    ∙ cond-true (list_all is_text_byte text) (tokens_after 0 text) (Err fault.NotAscii) r.ascii
    ∙ whole text tokens r
