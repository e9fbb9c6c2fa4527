-- A byte more, which may be a line feed.
use Rattle.std.proofs.Common.{◌≡◌, ℕ, ◌+◌, ◌-◌, ◌<◌, inr, true, false, List, [], ◌∷◌, ◌++◌, length, get_or, take, refl, sym, ap, ◌∙◌, subst, arith, below_more}
use Rattle.std.specs.Prelude.{◌==◌, count_by, slice_index}
use Rattle.std.proofs.lemmas.List.{get_or_append_left, get_or-append_right, length_push}
use Rattle.std.proofs.lemmas.Bool.Decides.{nat_tests}
use Rattle.std.proofs.lemmas.List.Sums.{count_by_more_no, count_by_more_yes}
use Rattle.judged_fixes.specs.Proposed.{IsLineStart, AreLineStarts}

is_feed : (b : ℕ) → b ≡ 10 → (b == 10) ≡ true
is_feed b e = rw e refl

begun_at : (text starts : List ℕ) (i k : ℕ) → IsLineStart text (k + 1) (slice_index starts k) → k < length starts
    → IsLineStart text (k + 1) (slice_index (starts ++ (i + 1) ∷ []) k)
begun_at text starts i k is lt =
    let e : get_or (starts ++ (i + 1) ∷ []) k 0 ≡ get_or starts k 0 = get_or_append_left starts ((i + 1) ∷ []) 0 k lt in
    subst (λ (at : ℕ). IsLineStart text (k + 1) at) (sym e) is

pub counted_feed : (text : List ℕ) (i n : ℕ) → i < length text → get_or text i 0 ≡ 10 → count_by (λ b. b == 10) (take i text) + 1 ≡ n
    → count_by (λ b. b == 10) (take (i + 1) text) + 1 ≡ n + 1
counted_feed text i n lt feed counted =
    let more : count_by (λ b. b == 10) (take (i + 1) text) ≡ count_by (λ b. b == 10) (take i text) + 1 = count_by_more_yes (λ b. b == 10) text i 0 lt (is_feed (get_or text i 0) feed) in
    omega (arith, more, counted)

behind_feed : (text starts : List ℕ) (i : ℕ) → i < length text → get_or text i 0 ≡ 10 → count_by (λ b. b == 10) (take i text) + 1 ≡ length starts
    → IsLineStart text (length starts + 1) (slice_index (starts ++ (i + 1) ∷ []) (length starts))
behind_feed text starts i lt feed counted =
    let e : get_or (starts ++ (i + 1) ∷ []) (length starts) 0 ≡ get_or ((i + 1) ∷ []) (length starts - length starts) 0 = get_or-append_right starts ((i + 1) ∷ []) (length starts) (length starts) 0 refl (omega arith) in
    let z : length starts - length starts ≡ 0 = omega arith in
    let at : get_or (starts ++ (i + 1) ∷ []) (length starts) 0 ≡ i + 1 = e ∙ ap (λ n. get_or ((i + 1) ∷ []) n 0) z in
    let last : i + 1 - 1 ≡ i = omega arith in
    subst (λ (at : ℕ). IsLineStart text (length starts + 1) at) (sym at) record {
      inside = omega arith;
      lines_before = counted_feed text i (length starts) lt feed counted;
      begins = inr (ap (λ n. get_or text n 0) last ∙ feed);
    }

pub begun_feed : (text starts : List ℕ) (i : ℕ) → i < length text → get_or text i 0 ≡ 10 → count_by (λ b. b == 10) (take i text) + 1 ≡ length starts
    → AreLineStarts text starts → AreLineStarts text (starts ++ (i + 1) ∷ [])
begun_feed text starts i lt feed counted begun k within =
    let n : length (starts ++ (i + 1) ∷ []) ≡ length starts + 1 = length_push starts (i + 1) in
    below_more (λ k. IsLineStart text (k + 1) (slice_index (starts ++ (i + 1) ∷ []) k)) (length starts)
    (λ k below. begun_at text starts i k (begun k below) below)
    (behind_feed text starts i lt feed counted) k (omega (arith, n, within))

other_byte : (b : ℕ) → (b ≡ 10 → ⊥) → (b == 10) ≡ false
other_byte b differs = grind (arith, nat_tests)

pub counted_other : (text : List ℕ) (i n : ℕ) → i < length text → (get_or text i 0 ≡ 10 → ⊥) → count_by (λ b. b == 10) (take i text) + 1 ≡ n
    → count_by (λ b. b == 10) (take (i + 1) text) + 1 ≡ n
counted_other text i n lt other counted =
    let more : count_by (λ b. b == 10) (take (i + 1) text) ≡ count_by (λ b. b == 10) (take i text) = count_by_more_no (λ b. b == 10) text i 0 lt (other_byte (get_or text i 0) other) in
    omega (arith, more, counted)
