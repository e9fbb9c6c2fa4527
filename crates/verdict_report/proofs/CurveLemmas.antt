-- The lines about the runs, one after another.
use Rattle.std.proofs.Common.{◌≡◌, ◌≤◌, ◌+◌, ◌-◌, ◌∙◌, ℕ, zero, suc, Bool, true, false, List, [], ◌++◌, Option, refl, sym, ap, subst, append_assoc, append-nil, add-one, add-zero, arith, true≢false}
use Rattle.std.proofs.Math.Nat.{add-suc}
use Rattle.std.proofs.lemmas.Bool.{false≢true}
use Rattle.std.proofs.KnownBytes.{Appends-nil, Appends-trans, Keeps-refl, Keeps-trans}
use Rattle.result_files.specs.Writing.{Begins}
use Rattle.verdict_report.specs.CurveProgress.{IsSaidIf, run_line, run_lines}
use Rattle.verdict_report.proofs.BeginsLemmas.{whole, kept, first, next}

-- a line more is written, or stays unwritten
pub said_more : (asked told told' : Bool) (a b c : Option (List ℕ)) (text line : List ℕ)
    → IsSaidIf asked told text a b → IsSaidIf told told' line b c → IsSaidIf asked told' (text ++ line) a c
said_more asked true told' a b c text line h k = record {
  whole = λ is. ((h.whole refl).0, Appends-trans a b c text line (h.whole refl).1 (k.whole is).1);
  begun = λ _. next a b c text line (h.whole refl).1 (k.begun refl);
  silent = λ no. absurd (true≢false (sym (h.whole refl).0 ∙ no));
}
said_more asked false told' a b c text line h k = record {
  whole = λ is. absurd (false≢true (k.whole is).0);
  begun = λ is. first a c text line (kept a b c text (h.begun is) (k.silent refl));
  silent = λ no. Keeps-trans a b c (h.silent no) (k.silent refl);
}

-- the line about one run more
pub lines_of_one_more : (name : List ℕ) (of count : ℕ)
    → run_lines name of (count + 1) ≡ run_lines name of count ++ run_line name (count + 1) of
lines_of_one_more name of count = ap (λ (n : ℕ). run_lines name of n) (add-one count)
    ∙ ap (λ (n : ℕ). run_lines name of count ++ run_line name n of) (sym (add-one count))

-- the lines of some runs are the first of those of more
lines_more : (name : List ℕ) (of some more : ℕ)
    → (rest : List ℕ) × (run_lines name of (some + more) ≡ run_lines name of some ++ rest)
lines_more name of some zero = ([], ap (λ n. run_lines name of n) (add-zero some) ∙ sym (append-nil (run_lines name of some)))
lines_more name of some (suc more) =
    let (rest, is) = lines_more name of some more in
    let line = run_line name (suc (some + more)) of in (
      rest ++ line,
      ap (λ n. run_lines name of n) (add-suc some more) ∙ (ap (λ l. l ++ line) is ∙ append_assoc (run_lines name of some) rest line),
    )

-- what has been written so far is a beginning of all
pub begun_longer : (a b : Option (List ℕ)) (name : List ℕ) (of some most : ℕ) → some ≤ most
    → Begins a b (run_lines name of some) → Begins a b (run_lines name of most)
begun_longer a b name of some most few h =
    let (rest, is) = lines_more name of some (most - some) in
    let same : some + (most - some) ≡ most = omega arith in
    subst (λ (text : List ℕ). Begins a b text) (sym is ∙ ap (λ n. run_lines name of n) same) (first a b (run_lines name of some) rest h)

-- what was written so far is a beginning of all
pub begun_so_far : (asked is_told : Bool) (a b : Option (List ℕ)) (name : List ℕ) (last most count : ℕ) → last ≡ most → count ≤ last
    → IsSaidIf asked is_told (run_lines name last count) a b → asked ≡ true → Begins a b (run_lines name most most)
begun_so_far asked is_told a b name last most count is few h for_it =
    subst (λ (n : ℕ). Begins a b (run_lines name n n)) is (begun_longer a b name last count last few (h.begun for_it))
