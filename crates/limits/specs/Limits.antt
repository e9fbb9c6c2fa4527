-- How many units, workers and events there may be; none of these numbers is 0.
use Rattle.std.specs.Prelude.{ℕ, ◌≤◌}

-- how many units a machine has
abbrev pub IsUnits : ℕ → Type 0
IsUnits units = (1 ≤ units) × (units ≤ 16)

-- how many threads share a check or serve a run
abbrev pub IsWorkers : ℕ → Type 0
IsWorkers workers = (1 ≤ workers) × (workers ≤ 16)

-- how many instructions or events a run has at most
abbrev pub IsBudget : ℕ → Type 0
IsBudget budget = (1 ≤ budget) × (budget ≤ 1000000)
