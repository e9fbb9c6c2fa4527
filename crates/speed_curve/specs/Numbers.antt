-- The numbers of a row.
use Rattle.std.specs.Prelude.{ℕ, ◌+◌, ◌*◌, ◌/◌, Option, Some, None, Bool, true, false, ◌&&◌, nat_eq, nat_lt, if◌then◌else◌}
use Rattle.machine_model.specs.declared.event.Standing.{Standing}
use Rattle.machine_model.specs.declared.event.Standing.TheVariants.{Running}
use Rattle.speed_curve.specs.declared.row.Row.{Row}

-- a part of a whole in hundredths, rounded to the nearest one, and up from the middle; 0 where the whole is 0
abbrev pub hundredths : (part whole : ℕ) → ℕ
hundredths part whole = if nat_eq whole 0 then 0 else (100 * part + whole / 2) / whole

-- how many instructions retired in a step, in hundredths
abbrev pub rate : Row → ℕ
rate row = hundredths row.retired row.steps

-- a run that still goes on is out of budget
abbrev pub has_ended : Standing → Bool
has_ended Running = false
has_ended _ = true

-- how many times as many steps the run on one unit took, in hundredths; none unless both runs ended, since then
-- they did the same work, and some of it retired
abbrev pub speed_up : (one row : Row) → Option ℕ
speed_up one row =
    if has_ended one.standing && (has_ended row.standing && nat_lt 0 row.retired) then Some (hundredths one.steps row.steps) else None

-- of the instructions of tasks that retired, were squashed or were dropped, how many in a hundred were of
-- tasks that were squashed or dropped, in hundredths
abbrev pub share : Row → ℕ
share row = hundredths (100 * row.wasted) (row.retired + row.wasted)
