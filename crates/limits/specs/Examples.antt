-- Worked examples, computed by the checker: numbers in range and outside it, and the limits of the code.
use Rattle.std.specs.Prelude.{◌≡◌}
use Rattle.std.proofs.Common.{refl, arith, lit≤}
use Rattle.limits.specs.declared.ranges.TheConstants.{MOST_BUDGET, MOST_EVENTS, MOST_UNITS, MOST_WORKERS}
use Rattle.limits.specs.Limits.{IsBudget, IsUnits, IsWorkers}

-- a machine has one unit, or some, up to sixteen
pub one_unit : IsUnits 1
one_unit = (lit≤ tt, lit≤ tt)

pub most_units : IsUnits MOST_UNITS
most_units = (lit≤ tt, lit≤ tt)

pub no_unit : IsUnits 0 → ⊥
no_unit is = let least = is.0 in omega arith

pub too_many_units : IsUnits 17 → ⊥
too_many_units is = let most = is.1 in omega arith

-- as many workers as units
pub a_worker_for_each_unit : MOST_WORKERS ≡ MOST_UNITS
a_worker_for_each_unit = refl

pub most_workers : IsWorkers MOST_WORKERS
most_workers = (lit≤ tt, lit≤ tt)

pub too_many_workers : IsWorkers 17 → ⊥
too_many_workers is = let most = is.1 in omega arith

-- the greatest budget is that of a whole history
pub greatest_budget : IsBudget MOST_BUDGET
greatest_budget = (lit≤ tt, lit≤ tt)

pub too_large_budget : IsBudget 1000001 → ⊥
too_large_budget is = let most = is.1 in omega arith

pub history_has_room : MOST_EVENTS ≡ MOST_BUDGET
history_has_room = refl

pub most_events : MOST_EVENTS ≡ 1000000
most_events = refl
