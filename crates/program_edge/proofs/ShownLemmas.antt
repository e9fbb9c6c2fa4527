-- What is shown of bytes, one byte after the other; and of a name that is printable.
use Rattle.std.proofs.Common.{ℕ, ◌≡◌, ◌∙◌, ◌<◌, ◌+◌, sym, ap, Bool, true, List, [], ◌∷◌, ◌++◌, append_assoc, drop, length, get_or, arith, refl, cond}
use Rattle.std.specs.List.{list_all}
use Rattle.std.proofs.lemmas.Bool.Decides.{nat_tests}
use Rattle.std.proofs.lemmas.List.{at_drop_more}
use Rattle.shown_names.specs.Shown.{escaped, is_printed, shown_as, shown_byte}

pub at_byte : (readable : Bool) (bytes done : List ℕ) (i : ℕ) → i < length bytes → shown_as readable bytes ≡ done ++ shown_as readable (drop i bytes)
    → shown_as readable bytes ≡ done ++ (shown_byte readable (get_or bytes i 0) ++ shown_as readable (drop (i + 1) bytes))
at_byte readable bytes done i less split = split ∙ at_drop_more (λ (l : List ℕ). done ++ shown_as readable l) bytes i 0 less

pub after_byte : (readable : Bool) (bytes done : List ℕ) (i : ℕ) → i < length bytes → shown_as readable bytes ≡ done ++ shown_as readable (drop i bytes)
    → shown_as readable bytes ≡ (done ++ shown_byte readable (get_or bytes i 0)) ++ shown_as readable (drop (i + 1) bytes)
after_byte readable bytes done i less split =
    at_byte readable bytes done i less split
    ∙ sym (append_assoc done (shown_byte readable (get_or bytes i 0)) (shown_as readable (drop (i + 1) bytes)))

printed : (readable : Bool) (b : ℕ) → is_printed readable b ≡ true → shown_byte readable b ≡ b ∷ []
printed readable b e = ap (λ (p : Bool). cond p (b ∷ []) (escaped b)) e

pub all_printed : (readable : Bool) (bs : List ℕ) → list_all (is_printed readable) bs ≡ true → shown_as readable bs ≡ bs
all_printed readable [] e = refl
all_printed readable (b ∷ bs) e =
    rw (printed readable b (grind (arith, nat_tests)), all_printed readable bs (grind (arith, nat_tests))) refl
