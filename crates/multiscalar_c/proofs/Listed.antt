-- Numbers that a list of predictions takes pass the test.
use Rattle.std.proofs.Common.{◌≡◌, ◌≤◌, ◌&&◌, ℕ, List, true, false, not, nat_lt, length}
use Rattle.std.specs.List.{All, list_any}
use Rattle.std.proofs.lemmas.Bool.{le-leb, le-ltb}
use Rattle.std.proofs.lemmas.List.Elements.{All-weaker}
use Rattle.std.proofs.lemmas.List.Folds.{list_any_none}
use Rattle.multiscalar_c.specs.Codes.{is_listed}

pub listed : (xs : List ℕ) → 1 ≤ length xs → length xs ≤ 64 → All (λ n. n ≤ 15) xs → is_listed xs ≡ true
listed xs some few small = λ k. le-leb 1 (length xs) some k && (le-leb (length xs) 64 few k && not (none k))
  where
    none : list_any (λ n. nat_lt 15 n) xs ≡ false
    none = list_any_none (λ n. nat_lt 15 n) xs (All-weaker (λ n. n ≤ 15) (λ n. nat_lt 15 n ≡ false) (λ n h. le-ltb 15 n h) xs small)
