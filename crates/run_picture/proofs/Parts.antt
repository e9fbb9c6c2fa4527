-- One part of a list after another.
use Rattle.std.proofs.Common.{◌≡◌, ℕ, zero, suc, ◌+◌, List, [], ◌∷◌, ◌++◌, ap, ◌∙◌, sym, append_assoc, append-nil, add-zero, add-one, arith, replicate}
use Rattle.std.proofs.lemmas.List.{replicate-append-replicate}
use Rattle.std.specs.List.{range_with_len}
use Rattle.std.specs.Prelude.{flat_map}
use Rattle.run_picture.specs.declared.chart.Chart.{Chart}
use Rattle.run_picture.specs.declared.shape.Meaning.{Meaning}
use Rattle.run_picture.specs.Stretches.{length_of, share_of, share_told, stretch_at, tally_in}

range_one_more : {A : Type 0} (f : ℕ → List A) (from n last : ℕ) → last ≡ from + n → flat_map f (range_with_len from (suc n)) ≡ flat_map f (range_with_len from n) ++ f last
range_one_more f from zero last is =
    let same : last ≡ from = omega (arith, is) in
    append-nil (f from) ∙ ap f (sym same)
range_one_more f from (suc n) last is =
    ap (λ rest. f from ++ rest) (range_one_more f (from + 1) n last (omega (arith, is)))
    ∙ sym (append_assoc (f from) (flat_map f (range_with_len (from + 1) n)) (f last))

-- the parts for the numbers below n, and the one for n
pub range_more : {A : Type 0} (f : ℕ → List A) (before : List A) (n : ℕ) → (before ++ flat_map f (range_with_len 0 n)) ++ f n ≡ before ++ flat_map f (range_with_len 0 (n + 1))
range_more f before n =
    append_assoc before (flat_map f (range_with_len 0 n)) (f n)
    ∙ ap (λ rest. before ++ rest) (sym (range_one_more f 0 n n (omega arith)))
    ∙ ap (λ m. before ++ flat_map f (range_with_len 0 m)) (sym (add-one n))

-- one copy more
pub replicate_more : {A : Type 0} (before : List A) (n : ℕ) (x : A) → (before ++ replicate n x) ++ x ∷ [] ≡ before ++ replicate (n + 1) x
replicate_more before n x =
    append_assoc before (replicate n x) (x ∷ []) ∙ ap (λ rest. before ++ rest) (replicate-append-replicate n 1 x)

-- the numbers from 1, and one more
range_end : (a n : ℕ) → range_with_len a n ++ (a + n) ∷ [] ≡ range_with_len a (suc n)
range_end a zero = ap (λ (k : ℕ). k ∷ []) (add-zero a)
range_end a (suc n) =
    let same : a + suc n ≡ a + 1 + n = omega arith in
    ap (λ (ks : List ℕ). a ∷ ks) (ap (λ (k : ℕ). range_with_len (a + 1) n ++ k ∷ []) same ∙ range_end (a + 1) n)

pub numbers_more : (n : ℕ) → range_with_len 1 n ++ (n + 1) ∷ [] ≡ range_with_len 1 (n + 1)
numbers_more n =
    let same : n + 1 ≡ 1 + n = omega arith in
    ap (λ (k : ℕ). range_with_len 1 n ++ k ∷ []) same ∙ range_end 1 n ∙ ap (λ (m : ℕ). range_with_len 1 m) (sym (add-one n))

-- what stands for a part of a chart
abbrev pub part_told : Chart → (part : ℕ) → List Meaning
part_told c part =
    let length = length_of c.axis.count in
    share_told c.axis (share_of length c.lives.items part) part (tally_in length c.columns.items c.events.items c.lives.items (stretch_at part))
