-- Helper vocabulary of the search: its visits and its marks. No contract of a public function cites a
-- word of this file.
use Rattle.std.specs.Prelude.{◌≡◌, ℕ, suc, ◌≤◌, Bool, true, false, if◌then◌else◌, List, [], ◌∷◌, ◌++◌, length, slice_get, slice_set, Option, Some, None}
use Rattle.task_descriptor.specs.Listing.{Listing}
use Rattle.task_graph.specs.Edges.{Edge}
use Rattle.task_graph.specs.SearchSteps.{is_marked}
use Rattle.finding_paths.specs.declared.visits.Visit.{Visit}

-- each visit but the first came from an earlier one
abbrev pub ComeFromEarlier : List Visit → Type 0
ComeFromEarlier visits = (k : ℕ) (v : Visit) → slice_get visits (suc k) ≡ Some v → v.from ≤ k

-- the first visit is of the start, and each other came along an inner edge
pub record AreVisits (p : Listing) (start : ℕ) (visits : List Visit) : Type 0 where
  pub first : (v : Visit) → slice_get visits 0 ≡ Some v → v.index ≡ start
  pub earlier : ComeFromEarlier visits
  pub along : (k : ℕ) (u v : Visit) → slice_get visits (suc k) ≡ Some v → slice_get visits v.from ≡ Some u → Edge p false u.index v.index

-- the first visit is `steps` steps back from the visit `at`
pub data StepsBack (visits : List Visit) : (at steps : ℕ) → Type 0 where
  at_first : StepsBack visits 0 0
  behind : {k n : ℕ} {v : Visit} → slice_get visits (suc k) ≡ Some v → StepsBack visits v.from n → StepsBack visits (suc k) (suc n)

-- the list has an index for each visit on the way back
pub record IsAsLong (visits : List Visit) (at : ℕ) (list : List ℕ) : Type 0 where
  pub steps : ℕ
  pub back : StepsBack visits at steps
  pub long : length list ≡ suc steps

-- the marks with one more, and the visits with that of an index that had no mark
abbrev pub marks_with : Option ℕ → List Bool → List Bool
marks_with None marks = marks
marks_with (Some j) marks = if is_marked marks j then marks else slice_set marks j true

abbrev pub visits_with : Option ℕ → (from : ℕ) → List Bool → List Visit → List Visit
visits_with None from marks visits = visits
visits_with (Some j) from marks visits = if is_marked marks j then visits else visits ++ record { index = j; from = from } ∷ []
