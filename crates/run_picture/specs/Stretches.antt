-- Long histories, summed by 290 stretches of equal length: how many columns of a stretch each unit spent on tasks that ended
-- in each way, and what happens in the stretch on all units. Columns are events or steps; in `Life`, they are numbered from 0.
use Rattle.std.specs.Prelude.{ℕ, ◌+◌, ◌-◌, ◌*◌, ◌/◌, ◌%◌, List, [], ◌∷◌, ◌++◌, flat_map, map, min, max, nat_eq, nat_lt, ◌&&◌, if◌then◌else◌}
use Rattle.std.specs.List.{range_with_len, sum_by, count_by}
use Rattle.machine_model.specs.declared.event.Event.{Event}
use Rattle.task_lives.specs.declared.life.Ending.{Ending}
use Rattle.task_lives.specs.declared.life.Ending.TheVariants.{Retired, Squashed, Dropped, Unfinished}
use Rattle.task_lives.specs.declared.life.Life.{Life}
use Rattle.task_lives.specs.Sums.{is_exec}
use Rattle.run_picture.specs.declared.shape.Axis.{Axis}
use Rattle.run_picture.specs.declared.shape.Meaning.{Meaning}
use Rattle.run_picture.specs.declared.shape.Meaning.TheVariants.{OfShare}
use Rattle.run_picture.specs.declared.shape.StretchTally.{StretchTally}
use Rattle.run_picture.specs.Meanings.{column_at}

-- how many columns a stretch has; the last ones may be shorter, or empty
abbrev pub length_of : (count : ℕ) → ℕ
length_of count = count / 290 + 1

-- a stretch has a part for each ending
abbrev pub part_of : Ending → ℕ
part_of Retired = 0
part_of Squashed = 1
part_of Dropped = 2
part_of Unfinished = 3

abbrev pub ending_of : (part : ℕ) → Ending
ending_of part = if nat_eq part 0 then Retired else if nat_eq part 1 then Squashed else if nat_eq part 2 then Dropped else Unfinished

-- the parts are numbered: those of a stretch, those of the stretches of a unit, those of the units
abbrev pub unit_at : (part : ℕ) → ℕ
unit_at part = part / 1160

abbrev pub stretch_at : (part : ℕ) → ℕ
stretch_at part = part / 4 % 290

-- how many columns of a life are in a stretch
abbrev pub overlap : (length stretch : ℕ) → Life → ℕ
overlap length stretch life = min (life.last + 1) (stretch * length + length) - max life.first (stretch * length)

-- how many of them count for a part
abbrev pub counted : (length part : ℕ) → Life → ℕ
counted length part life =
    if nat_eq (unit_at part) life.unit && nat_eq (part % 4) (part_of life.ending) then overlap length (stretch_at part) life else 0

abbrev pub share_of : (length : ℕ) → List Life → (part : ℕ) → ℕ
share_of length lives part = sum_by (counted length part) lives

-- where a stretch ends
abbrev pub end_of : (count stretch : ℕ) → ℕ
end_of count stretch = min (stretch * length_of count + length_of count) count

-- the stretches in which instructions are executed, by events of which the first has this number
abbrev pub executed_from : (length : ℕ) → (columns : List ℕ) → (number : ℕ) → List Event → List ℕ
executed_from length columns number [] = []
executed_from length columns number (e ∷ es) =
    (if is_exec e then (column_at columns number - 1) / length ∷ [] else []) ++ executed_from length columns (number + 1) es

-- the part in which a life ends
abbrev pub end_part : (length : ℕ) → Life → ℕ
end_part length life = life.last / length * 4 + part_of life.ending

-- how often a number occurs
abbrev pub occurrences : (numbers : List ℕ) → (number : ℕ) → ℕ
occurrences numbers number = count_by (λ n. nat_eq n number) numbers

abbrev pub tally_in : (length : ℕ) → (columns : List ℕ) → List Event → List Life → (stretch : ℕ) → StretchTally
tally_in length columns history lives stretch =
    let ended = occurrences (map (end_part length) lives) in
    record {
      executed = occurrences (executed_from length columns 0 history) stretch;
      retired = ended (stretch * 4);
      squashed = ended (stretch * 4 + 1);
      dropped = ended (stretch * 4 + 2);
    }

-- what stands for a part, if it has a share
abbrev pub share_told : Axis → (count part : ℕ) → StretchTally → List Meaning
share_told axis count part tally =
    if nat_eq count 0 then [] else OfShare axis.counted (record {
      unit = unit_at part;
      ending = ending_of (part % 4);
      count = count;
      first = stretch_at part * length_of axis.count + 1;
      last = end_of axis.count (stretch_at part);
      tally = tally;
    }) ∷ []

abbrev pub shares_told : Axis → (columns : List ℕ) → List Event → List Life → List Meaning
shares_told axis columns history lives =
    let length = length_of axis.count in
    flat_map (λ part. share_told axis (share_of length lives part) part (tally_in length columns history lives (stretch_at part)))
    (range_with_len 0 (axis.units * 1160))
