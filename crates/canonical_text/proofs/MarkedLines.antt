-- The marks at the end of a line are told apart from the tokens before them.
use Rattle.canonical_text.proofs.Imports.{◌≡◌, ◌+◌, ◌-◌, List, [], ◌∷◌, ◌++◌, Bool, true, false, length, take, drop, arith, refl, ap, sym, ◌∙◌, length-append, reverse, take_while, list_all, list_any, prefix_len, and_parts, or_parts, cond-true, cond-false, reverse-append, length-take-le, prefix_len-le-length, Token, ◌>>=◌, is_mark, mark_count, unmarked, with_marks, statement_of, Section}
use Rattle.std.proofs.Math.Seq.{take-append_seam, drop-append_seam}
use Rattle.std.proofs.lemmas.List.Sorted.{IsPermutation-reverse, list_any-IsPermutation}

run_length : {X : Type 0} (p : X → Bool) (front rest : List X) → list_all p front ≡ true → prefix_len p rest ≡ 0
    → prefix_len p (front ++ rest) ≡ length front
run_length p [] rest passes stops = stops
run_length p (x ∷ xs) rest passes stops =
    let parts = and_parts (p x) (list_all p xs) passes in
    cond-true (p x) (1 + prefix_len p (xs ++ rest)) 0 parts.0 ∙ omega (arith, run_length p xs rest parts.1 stops)

no_run : {X : Type 0} (p : X → Bool) (xs : List X) → list_any p xs ≡ false → prefix_len p xs ≡ 0
no_run p [] h = refl
no_run p (x ∷ xs) h = cond-false (p x) (1 + prefix_len p xs) 0 (or_parts (p x) (list_any p xs) h).0

length-take_while : {X : Type 0} (p : X → Bool) (xs : List X) → length (take_while p xs) ≡ prefix_len p xs
length-take_while p xs = length-take-le (prefix_len p xs) xs (prefix_len-le-length p xs)

pub counted_marks : (front marks : List Token) → list_any is_mark front ≡ false → list_all is_mark (reverse marks) ≡ true
    → length (reverse marks) ≡ length marks → mark_count (front ++ marks) ≡ length marks
counted_marks front marks none all same =
    length-take_while is_mark (reverse (front ++ marks))
    ∙ ap (prefix_len is_mark) (reverse-append front marks)
    ∙ run_length is_mark (reverse marks) (reverse front) all
    (no_run is_mark (reverse front) (sym (list_any-IsPermutation is_mark front (reverse front) (IsPermutation-reverse front)) ∙ none))
    ∙ same

-- the statement of tokens with marks after them
pub marked_statement : (here : Section) (t : Token) (ts marks : List Token) → list_any is_mark (t ∷ ts) ≡ false
    → list_all is_mark (reverse marks) ≡ true → length (reverse marks) ≡ length marks
    → statement_of here ((t ∷ ts) ++ marks) ≡ (unmarked here (t ∷ ts) >>= with_marks marks)
marked_statement here t ts marks none all same =
    let count = counted_marks (t ∷ ts) marks none all same in
    let front : length ((t ∷ ts) ++ marks) - mark_count ((t ∷ ts) ++ marks) ≡ length (t ∷ ts) =
    omega (arith, count, length-append (t ∷ ts) marks) in
    ap (λ n. unmarked here (take n ((t ∷ ts) ++ marks)) >>= with_marks (drop n ((t ∷ ts) ++ marks))) front
    ∙ ap (λ (xs : List Token). unmarked here xs >>= with_marks (drop (length (t ∷ ts)) ((t ∷ ts) ++ marks))) (take-append_seam (t ∷ ts) marks)
    ∙ ap (λ (xs : List Token). unmarked here (t ∷ ts) >>= with_marks xs) (drop-append_seam (t ∷ ts) marks)
