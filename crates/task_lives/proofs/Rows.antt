-- Numbers at the right of their columns, and the rows of tasks with their tallies.
use Rattle.std.proofs.Common.{◌≡◌, ℕ, zero, suc, ◌+◌, ◌-◌, ◌^◌, ◌≤◌, Bool, true, false, true≢false, cond, ◌&&◌, List, [], ◌∷◌, ◌++◌, length, replicate, get_or, refl, ap, ◌∙◌, arith, append-nil, append_assoc, codes}
use Rattle.std.specs.Prelude.{nat_eq}
use Rattle.std.proofs.lemmas.Bool.{ne_eqb}
use Rattle.std.specs.List.{repeat}
use Rattle.std.specs.Fmt.{decimal, padded_integral, char_count, format_spec, styled_decimal}
use Rattle.std.proofs.lemmas.List.FromFn.{length-map-range_with_len, get_or-map-range_with_len}
use Rattle.task_descriptor.specs.Listing.{Listing}
use Rattle.task_descriptor.specs.declared.descriptor.Descriptor.{Descriptor}
use Rattle.task_lives.specs.declared.life.Life.{Life}
use Rattle.task_lives.specs.declared.tally.Tally.{Tally}
use Rattle.task_lives.specs.Tallies.{tally_of, of_task, tallies_of}
use Rattle.task_lives.specs.Counting.{rows_from}
use Rattle.task_lives.specs.SummaryText.{column, row_text, heading, summary_text, task_rows}

abbrev space : List ℕ
space = 32 ∷ []

spaces : (n : ℕ) → repeat n space ≡ replicate n 32
spaces zero = refl
spaces (suc n) = ap (λ (ns : List ℕ). 32 ∷ ns) (spaces n)

alone : (front : List ℕ) → front ++ [] ++ [] ++ [] ≡ front
alone front = append-nil (front ++ [] ++ []) ∙ append-nil (front ++ []) ∙ append-nil front

aligned : (width len : ℕ) (text : List ℕ) → (repeat (width - len - 0 - 0) space ++ [] ++ [] ++ []) ++ (text ++ repeat (width - len - 0 - 0 - (width - len - 0 - 0)) space) ≡ replicate (width - len) 32 ++ text
aligned width len text =
    let behind : width - len - 0 - 0 - (width - len - 0 - 0) ≡ 0 = omega arith in
    let before : width - len - 0 - 0 ≡ width - len = omega arith in
    let front = alone (repeat (width - len - 0 - 0) space) ∙ spaces (width - len - 0 - 0) in
    (λ i. front i ++ (text ++ repeat (behind i) space))
    ∙ (λ i. replicate (before i) 32 ++ append-nil text i)

padded : (is_bare : Bool) → is_bare ≡ false → (bare text : List ℕ) → cond (is_bare && true && true) bare text ≡ text
padded true is bare text = absurd (true≢false is)
padded false is bare text = refl

pub right_aligned : (width n : ℕ) → styled_decimal (format_spec 32 3 0 width (2 ^ 64 - 1)) n ≡ column width n
unfolding padded_integral char_count lib.Utf8.encode
right_aligned zero n =
    let none : 0 ≡ 0 - length (decimal n) = omega arith in
    ap (λ (m : ℕ). replicate m 32 ++ decimal n) none
right_aligned (suc w) n =
    let some : suc w ≡ 0 → ⊥ = λ none. absurd (omega (arith, none)) in
    padded (nat_eq (suc w) 0) (ne_eqb (suc w) 0 some) (decimal n) (padded_integral (format_spec 32 3 0 (suc w) (2 ^ 64 - 1)) false [] (decimal n))
    ∙ aligned (suc w) (length (decimal n)) (decimal n)

-- the rows

rows_same : (ts : List Tally) (lives : List Life) (n k : ℕ) (ds : List Descriptor) → ts ≡ tallies_of n lives → k + length ds ≤ n → rows_from ts k ds ≡ task_rows lives k ds
rows_same ts lives n k [] is within = refl
rows_same ts lives n k (d ∷ ds) is within =
    let here = ap (λ (us : List Tally). get_or us k (tally_of [])) is
    ∙ get_or-map-range_with_len (λ (task : ℕ). tally_of (of_task task lives)) 0 n k k (tally_of []) (omega (arith, within)) (omega arith) in
    let rest = rows_same ts lives n (k + 1) ds is (omega (arith, within)) in
    λ i. row_text (here i) d.name ++ rest i

pub rows_of_tasks : (ts : List Tally) (lives : List Life) (ds : List Descriptor) → ts ≡ tallies_of (length ds) lives → rows_from ts 0 ds ≡ task_rows lives 0 ds
rows_of_tasks ts lives ds is = rows_same ts lives (length ds) 0 ds is (omega arith)

-- a row, number by number

join : (base mid new p q : List ℕ) → mid ≡ base ++ p → new ≡ mid ++ q → new ≡ base ++ (p ++ q)
join base mid new p q first second = second ∙ ap (λ (front : List ℕ). front ++ q) first ∙ append_assoc base p q

pub row_written : (old : List ℕ) (t : Tally) (name : List ℕ) (a b c d e f g : List ℕ)
    → a ≡ old ++ column 8 t.assigned → b ≡ a ++ column 9 t.retired → c ≡ b ++ column 10 t.squashed → d ≡ c ++ column 9 t.dropped
    → e ≡ d ++ column 12 t.unfinished → f ≡ e ++ column 8 t.useful → g ≡ f ++ column 8 t.wasted
    → g ++ (codes "  " ++ (name ++ 10 ∷ [])) ≡ old ++ row_text t name
row_written old t name a b c d e f g ha hb hc hd he hf hg =
    let whole = g ++ (codes "  " ++ (name ++ 10 ∷ [])) in
    join old a whole _ _ ha (join a b whole _ _ hb (join b c whole _ _ hc (join c d whole _ _ hd (join d e whole _ _ he (join e f whole _ _ hf (join f g whole _ _ hg refl))))))

-- all of it

pub long_enough : (ts now : List Tally) (n : ℕ) (lives : List Life) → now ≡ ts → ts ≡ tallies_of n lives → n ≤ length now
long_enough ts now n lives same is =
    let all : length now ≡ length (tallies_of n lives) = ap (λ (us : List Tally). length us) (same ∙ is) in
    let long : length (tallies_of n lives) ≡ n = length-map-range_with_len (λ (task : ℕ). tally_of (of_task task lives)) 0 n in
    omega (arith, all, long)

pub summary_written : (p : Listing) (lives : List Life) (ts : List Tally) (ds : List Descriptor) (all : Tally) (empty a b whole : List ℕ)
    → empty ≡ [] → a ≡ empty ++ heading → b ≡ a ++ rows_from ts 0 ds → whole ≡ b ++ row_text all (codes "(all)")
    → ds ≡ p.tasks → ts ≡ tallies_of (length ds) lives → all ≡ tally_of lives → whole ≡ summary_text p lives
summary_written p lives ts ds all empty a b whole he ha hb hw hds hts hall =
    let rows = rows_of_tasks ts lives ds hts ∙ ap (λ (xs : List Descriptor). task_rows lives 0 xs) hds in
    join empty a whole _ _ ha (join a b whole _ _ hb hw)
    ∙ ap (λ (front : List ℕ). front ++ (heading ++ (rows_from ts 0 ds ++ row_text all (codes "(all)")))) he
    ∙ (λ i. heading ++ (rows i ++ row_text (hall i) (codes "(all)")))
