-- What holds of each element that a loop has passed holds of all at its end.
use Rattle.canonical_text.proofs.Imports.{◌≡◌, ℕ, ◌+◌, ◌<◌, ◌≤◌, List, length, take, get_or, sym, subst, All, take_all, All-more, All-same}

pub all_more : {X : Type 0} (P : X → Type 0) (xs : List X) (i : ℕ) (x : X) → i < length xs → x ≡ get_or xs i x → P x → All P (take i xs) → All P (take (i + 1) xs)
all_more P xs i x inside is here before = All-more P xs i x inside before (subst P is here)

pub all_done : {X : Type 0} (P : X → Type 0) (xs : List X) (i : ℕ) → length xs ≤ i → All P (take i xs) → All P xs
all_done P xs i past before = All-same P xs (take i xs) (sym (take_all i xs past)) before
