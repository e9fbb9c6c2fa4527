-- Reading lists one after the other, as a loop over the tasks does.
use Rattle.std.proofs.Common.{◌≡◌, ℕ, ◌+◌, Bool, true, ◌&&◌, List, [], ◌∷◌, ◌++◌, length, drop, Result, Ok, Err, refl, sym, ◌∙◌, ap, arith, append_assoc}
use Rattle.std.proofs.lemmas.Bool.{and_parts}
use Rattle.mask_certificate.specs.declared.fault.CertFault.{CertFault}
use Rattle.mask_certificate.specs.CertificateReading.{◌>>=◌, Judged, entries_in, behind_task_line, lists_at}
use Rattle.mask_certificate.specs.Blocks.{TellsOf}
use Rattle.mask_certificate.proofs.Telling.{TellsOfAll, tells_push}

-- what was read before, and what is still read
abbrev pub with_front : List (List (ℕ × ℕ)) → Result (List (List (ℕ × ℕ))) CertFault → Result (List (List (ℕ × ℕ))) CertFault
with_front front read = read >>= λ lists. Ok (front ++ lists)

regroup : (front : List (List (ℕ × ℕ))) (list : List (ℕ × ℕ)) (read : Result (List (List (ℕ × ℕ))) CertFault) → with_front front (read >>= λ lists. Ok (list ∷ lists)) ≡ with_front (front ++ list ∷ []) read
regroup front list (Ok lists) = ap (λ (ls : List (List (ℕ × ℕ))). Ok ls) (sym (append_assoc front (list ∷ []) lists))
regroup front list (Err fault) = refl

module _ (front : List (List (ℕ × ℕ))) (n : ℕ) (name : List ℕ) (names : List (List ℕ)) (lines : List Judged) (whole : Result (List (List (ℕ × ℕ))) CertFault)
    (so_far : with_front front (lists_at n (name ∷ names) lines) ≡ whole) where
  -- one task more
  goes_on : (rest after : List Judged) (list : List (ℕ × ℕ)) (next : ℕ) → behind_task_line n name lines ≡ Ok rest → list ≡ entries_in rest → after ≡ drop (length list) rest → next ≡ n + (1 + length list)
      → with_front (front ++ list ∷ []) (lists_at next names after) ≡ whole
  goes_on rest after list next opened same left line =
      let all = λ (r : Result (List Judged) CertFault). with_front front (r >>= λ rest. lists_at (n + 1 + length (entries_in rest)) names (drop (length (entries_in rest)) rest) >>= λ lists. Ok (entries_in rest ∷ lists)) in
      let place : n + 1 + length (entries_in rest) ≡ next = omega (arith, ap length same) in
      let lines_left : drop (length (entries_in rest)) rest ≡ after = ap (λ (l : List (ℕ × ℕ)). drop (length l) rest) (sym same) ∙ sym left in
      sym (regroup front list (lists_at next names after))
      ∙ ap (λ (l : List (ℕ × ℕ)). with_front front (lists_at next names after >>= λ lists. Ok (l ∷ lists))) same
      ∙ ap (λ (ls : List Judged). with_front front (lists_at next names ls >>= λ lists. Ok (entries_in rest ∷ lists))) (sym lines_left)
      ∙ ap (λ m. with_front front (lists_at m names (drop (length (entries_in rest)) rest) >>= λ lists. Ok (entries_in rest ∷ lists))) (sym place)
      ∙ sym (ap all opened) ∙ so_far

-- The lists in front of line n are read, and it is told whether they are right; if they are, they are
-- kept. With those that the lines from there on spell for the other tasks they are the text's.
pub record HasRead (n : ℕ) (names : List (List ℕ)) (lines : List Judged) (whole : Result (List (List (ℕ × ℕ))) CertFault) (kept : List (List (ℕ × ℕ))) (right : Bool) : Type 0 where
  pub front : List (List (ℕ × ℕ))
  pub lists : with_front front (lists_at n names lines) ≡ whole
  pub told : TellsOfAll front right
  pub same : right ≡ true → kept ≡ front

module _ (n : ℕ) (name : List ℕ) (names : List (List ℕ)) (lines : List Judged) (whole : Result (List (List (ℕ × ℕ))) CertFault) (kept : List (List (ℕ × ℕ))) (right : Bool)
    (read : HasRead n (name ∷ names) lines whole kept right) where
  -- one task more, of whose list this is kept
  pub more_read : (rest after : List Judged) (list keeps : List (ℕ × ℕ)) (here : Bool) (next : ℕ) → behind_task_line n name lines ≡ Ok rest → list ≡ entries_in rest → after ≡ drop (length list) rest
      → next ≡ n + (1 + length list) → TellsOf list here → (here ≡ true → keeps ≡ list) → HasRead next names after whole (kept ++ keeps ∷ []) (right && here)
  more_read rest after list keeps here next opened is left line told same = record {
    front = read.front ++ list ∷ [];
    lists = goes_on read.front n name names lines whole read.lists rest after list next opened is left line;
    told = tells_push read.front list right here read.told told;
    same = λ both.
        let parts = and_parts right here both in
        ap (λ (ls : List (List (ℕ × ℕ))). ls ++ keeps ∷ []) (read.same parts.0) ∙ ap (λ (l : List (ℕ × ℕ)). read.front ++ l ∷ []) (same parts.1);
  }
