-- What is picked of some lists in a row is what is picked of each.
use Rattle.std.proofs.Common.{◌≡◌, ℕ, ◌+◌, ◌↔◌, Bool, true, false, if◌then◌else◌, List, [], ◌∷◌, ◌++◌, refl, sym, subst, add-one, append_assoc, append-nil, zero, suc}
use Rattle.task_descriptor.specs.Listing.{Listing}
use Rattle.finding_paths.specs.declared.mark.CostlyMark.{CostlyMark}
use Rattle.finding_paths.specs.Costly.{IsCostly}
use Rattle.finding_paths.specs.Candidates.{up_to, Picked, none, taken, left}
use Rattle.finding_paths.specs.Steps.{Adds}

picked_append : (P : CostlyMark → Type 0) {one picked : List CostlyMark} (two more : List CostlyMark) → Picked P one picked → Picked P two more → Picked P (one ++ two) (picked ++ more)
picked_append P two more none rest = rest
picked_append P two more (taken holds front) rest = taken holds (picked_append P two more front rest)
picked_append P two more (left fails front) rest = left fails (picked_append P two more front rest)

one_picked : (P : CostlyMark → Type 0) (m : CostlyMark) (b : Bool) → ((b ≡ true) ↔ P m) → Picked P (m ∷ []) (if b then m ∷ [] else [])
one_picked P m true exact = taken (exact.0 refl) none
one_picked P m false exact = left (λ holds. no (exact.1 holds)) none
  where
    no : false ≡ true → ⊥
    no h = cc

pub adds_none : (p : Listing) (list : List CostlyMark) → Adds p [] list list
adds_none p list from picked = subst (λ (xs : List CostlyMark). Picked (IsCostly p) xs list) (sym (append-nil from)) picked

pub adds_one : (p : Listing) (mark : CostlyMark) (b : Bool) (old new : List CostlyMark) → new ≡ old ++ (if b then mark ∷ [] else []) → ((b ≡ true) ↔ IsCostly p mark) → Adds p (mark ∷ []) old new
adds_one p mark b old new is exact from picked =
    subst (λ (xs : List CostlyMark). Picked (IsCostly p) (from ++ mark ∷ []) xs) (sym is)
    (picked_append (IsCostly p) (mark ∷ []) (if b then mark ∷ [] else []) picked (one_picked (IsCostly p) mark b exact))

pub adds_more : (p : Listing) (one two old middle new : List CostlyMark) → Adds p one old middle → Adds p two middle new → Adds p (one ++ two) old new
adds_more p one two old middle new first second from picked =
    subst (λ (xs : List CostlyMark). Picked (IsCostly p) xs new) (append_assoc from one two) (second (from ++ one) (first from picked))

pub up_to_none : (p : Listing) (f : ℕ → List CostlyMark) (list : List CostlyMark) → Adds p (up_to f 0) list list
unfolding up_to
up_to_none p f list = adds_none p list

pub up_to_more : (p : Listing) (f : ℕ → List CostlyMark) (n : ℕ) (old middle new : List CostlyMark) → Adds p (up_to f n) old middle → Adds p (f n) middle new → Adds p (up_to f (n + 1)) old new
unfolding up_to
up_to_more p f n old middle new first second =
    subst (λ (k : ℕ). Adds p (up_to f k) old new) (sym (add-one n)) (adds_more p (up_to f n) (f n) old middle new first second)

-- all of a program, picked from nothing
pub all_picked : (p : Listing) (one two three list first second : List CostlyMark) → Adds p one [] first → Adds p two first second → Adds p three second list
    → Picked (IsCostly p) (one ++ (two ++ three)) list
all_picked p one two three list first second of_one of_two of_three =
    adds_more p one (two ++ three) [] first list of_one (adds_more p two three first second list of_two of_three) [] none

pub none_of : (p : Listing) (f : ℕ → CostlyMark) (n : ℕ) (list : List CostlyMark) → ((r : ℕ) → IsCostly p (f r) → ⊥) → Adds p (up_to (λ r. f r ∷ []) n) list list
none_of p f zero list never = up_to_none p (λ r. f r ∷ []) list
none_of p f (suc n) list never =
    subst (λ (k : ℕ). Adds p (up_to (λ r. f r ∷ []) k) list list) (add-one n)
    (up_to_more p (λ r. f r ∷ []) n list list list (none_of p f n list never)
    (adds_one p (f n) false list list (sym (append-nil list)) (λ h. absurd (no h), λ c. absurd (never n c))))
  where
    no : false ≡ true → ⊥
    no h = cc
