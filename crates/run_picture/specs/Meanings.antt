-- What the shapes of a picture stand for: which life, wait or event. Where they stand in it, and how they are written, is
-- not stated. Columns are events or steps, numbered from 1.
use Rattle.std.specs.Prelude.{ℕ, ◌+◌, ◌-◌, ◌%◌, Bool, true, false, ◌&&◌, ◌||◌, List, [], ◌∷◌, ◌++◌, map, filter, slice_get, nat_eq, nat_le, nat_lt, if◌then◌else◌, unwrap_or}
use Rattle.machine_model.specs.declared.event.Event.{Event}
use Rattle.machine_model.specs.declared.event.Event.TheVariants.{Exec, Transfer, Drain, Squash, Retire}
use Rattle.machine_model.specs.declared.event.Standing.{Standing}
use Rattle.machine_model.specs.declared.event.Standing.TheVariants as standing
use Rattle.machine_model.specs.HeadEvent.{unit_of, retired_after}
use Rattle.task_lives.specs.declared.life.Life.{Life}
use Rattle.task_lives.specs.Sums.{is_unfinished}
use Rattle.run_picture.specs.declared.shape.Axis.{Axis}
use Rattle.run_picture.specs.declared.shape.Counted.{Counted}
use Rattle.run_picture.specs.declared.shape.Counted.TheVariants.{Events, Steps}
use Rattle.run_picture.specs.declared.shape.Shape.{Shape}
use Rattle.run_picture.specs.declared.shape.Meaning.{Meaning}
use Rattle.run_picture.specs.declared.shape.Meaning.TheVariants.{Nothing, OfLife, OfHead, OfExec, OfTransfer, OfDrain, OfSquash}

-- what shapes stand for, in their order; those that stand for nothing are left out
abbrev pub is_something : Meaning → Bool
is_something Nothing = false
is_something _ = true

abbrev pub meanings : List Shape → List Meaning
meanings shapes = filter is_something (map (λ shape. shape.meaning) shapes)

-- how the run ended, of the life of the task at the head then, on the unit of this number; of any other life, that it has not
abbrev pub ending_told : (head : ℕ) → Standing → Life → Standing
ending_told head stands life = if nat_eq life.unit head && is_unfinished life.ending then stands else standing.Running

abbrev pub life_told : Counted → (head : ℕ) → Standing → Life → Meaning
life_told counted head stands life = OfLife counted life (ending_told head stands life)

-- the column of an event, numbered from 0
abbrev pub column_at : (columns : List ℕ) → (event : ℕ) → ℕ
column_at columns event = unwrap_or (slice_get columns event) 0

-- the unit before a unit round the ring
abbrev pub unit_before : (units unit : ℕ) → ℕ
unit_before units unit = if nat_eq unit 0 then units - 1 else unit - 1

-- what stands for an event at a unit: an instruction; the way of a register, which goes round the ring in two parts; a register
-- that a stopped unit sends; the unit after which a squash begins
abbrev pub stands_for : Axis → (column unit : ℕ) → Event → List Meaning
stands_for axis n unit (Exec k) = OfExec axis.counted n unit ∷ []
stands_for axis n unit (Transfer k r) =
    let way = OfTransfer axis.counted n r (unit_before axis.units unit) unit in
    if nat_eq unit 0 then way ∷ way ∷ [] else way ∷ []
stands_for axis n unit (Drain k r) = OfDrain axis.counted n r unit ∷ []
stands_for axis n unit (Squash k) = OfSquash axis.counted n unit ∷ []
stands_for axis n unit _ = []

-- from one retirement to the next one unit is the head, whose number round the ring is that of the retired tasks
abbrev pub is_retirement : Event → Bool
is_retirement Retire = true
is_retirement _ = false

abbrev pub after_retirement : (after column : ℕ) → Event → ℕ
after_retirement after column Retire = column
after_retirement after column _ = after

abbrev pub head_told : Axis → (retired after last : ℕ) → List Meaning
head_told axis retired after last = if nat_lt after last then OfHead axis.counted after last (retired % axis.units) ∷ [] else []

-- before event n, `retired` tasks have retired, the last one in the column `after`
abbrev pub heads_from : Axis → (columns : List ℕ) → (retired after n : ℕ) → List Event → List Meaning
heads_from axis columns retired after n [] = head_told axis retired after (column_at columns (n - 1))
heads_from axis columns retired after n (e ∷ es) =
    (if is_retirement e then head_told axis retired after (column_at columns n) else [])
    ++ heads_from axis columns (retired_after retired e) (after_retirement after (column_at columns n) e) (n + 1) es

-- of some events, before which `retired` tasks retired
abbrev pub heads_of : Axis → (columns : List ℕ) → (retired : ℕ) → List Event → List Meaning
heads_of axis columns retired history = heads_from axis columns retired axis.before 0 history

-- more than 300 steps have room for squashes alone
abbrev pub is_squash : Event → Bool
is_squash (Squash k) = true
is_squash _ = false

abbrev pub is_marked_in : Counted → (count : ℕ) → Event → Bool
is_marked_in Events count e = true
is_marked_in Steps count e = nat_le count 300 || is_squash e

abbrev pub is_marked : Axis → Event → Bool
is_marked axis e = is_marked_in axis.counted axis.count e

-- for each event of a history, in its order; `retired` tasks have retired before event n
abbrev pub marks_from : Axis → (columns : List ℕ) → (retired n : ℕ) → List Event → List Meaning
marks_from axis columns retired n [] = []
marks_from axis columns retired n (e ∷ es) =
    (if is_marked axis e then stands_for axis (column_at columns n) (unit_of axis.units retired 0 e) e else [])
    ++ marks_from axis columns (retired_after retired e) (n + 1) es
