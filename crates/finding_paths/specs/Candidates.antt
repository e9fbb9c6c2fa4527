-- The order in which marks are reported: all that may be reported of a program, and those for which a fact holds.
use Rattle.std.specs.Prelude.{ℕ, zero, suc, List, [], ◌∷◌, ◌++◌, length}
use Rattle.task_descriptor.specs.Listing.{Listing}
use Rattle.finding_paths.specs.declared.mark.CostlyMark.{CostlyMark}
use Rattle.finding_paths.specs.declared.mark.CostlyMark.TheVariants.{NeverProduced, NotForwarded, SentBefore, Unreached}

-- the lists of the numbers below n, one after the other
unfoldable pub up_to : (ℕ → List CostlyMark) → (n : ℕ) → List CostlyMark
up_to f zero = []
up_to f (suc n) = up_to f n ++ f n

-- what may be reported of a task: each register that it may never produce
unfoldable pub of_task : ℕ → List CostlyMark
of_task task = up_to (λ r. NeverProduced task r ∷ []) 34

-- what may be reported of an instruction: that it has no forward bit, and each register that it may release in vain
unfoldable pub of_release : ℕ → List CostlyMark
of_release index = up_to (λ r. SentBefore index r ∷ []) 34

abbrev pub of_instruction : ℕ → List CostlyMark
of_instruction index = NotForwarded index ∷ of_release index

-- what may be reported of a place: that no task reaches the code from there on
abbrev pub of_place : ℕ → List CostlyMark
of_place index = Unreached index ∷ []

-- All that may be reported of a program: of its tasks, then of its instructions, then of code that no task reaches.
abbrev pub candidates : Listing → List CostlyMark
candidates p = up_to of_task (length p.tasks) ++ (up_to of_instruction (length p.code) ++ up_to of_place (length p.code))

-- The list `picked` has exactly those marks of `from` for which the fact holds, in their order.
pub data Picked (P : CostlyMark → Type 0) : (from picked : List CostlyMark) → Type 0 where
  none : Picked P [] []
  taken : {mark : CostlyMark} {from picked : List CostlyMark} → P mark → Picked P from picked → Picked P (mark ∷ from) (mark ∷ picked)
  left : {mark : CostlyMark} {from picked : List CostlyMark} → (P mark → ⊥) → Picked P from picked → Picked P (mark ∷ from) picked
