-- There are no more steps than events.
use Rattle.std.proofs.Common.{ℕ, zero, suc, ◌+◌, ◌-◌, ◌<◌, ◌≤◌, Bool, true, false, cond, List, [], ◌∷◌, length, arith}
use Rattle.machine_model.specs.declared.event.Event.{Event}
use Rattle.machine_model.specs.HeadEvent.{active_after}
use Rattle.unit_waits.specs.Waits.{ends_step}
use Rattle.step_picture.specs.Steps.{count_of, steps_from, steps_of}
use Rattle.run_picture.specs.Meanings.{column_at}

-- the next step, by whether the event ends this one
next_by : (b : Bool) (step : ℕ) → cond b (step + 1) step ≤ step + 1
next_by true step = omega arith
next_by false step = omega arith

some_by : (b : Bool) (step : ℕ) → 0 < step → 0 < cond b (step + 1) step
some_by true step some = omega arith
some_by false step some = some

in_range : (es : List Event) (active step k : ℕ) → 0 < step → column_at (steps_from active step es) k < step + length es
in_range [] active step k some = omega (arith, some)
in_range (e ∷ es) active step zero some = omega arith
in_range (e ∷ es) active step (suc k) some =
    let ends = ends_step active e in
    let rest = in_range es (active_after active e) (cond ends (step + 1) step) k (some_by ends step some) in
    let next = next_by ends step in
    omega (arith, rest, next)

pub no_more_steps : (es : List Event) → count_of (steps_of es) ≤ length es
no_more_steps es =
    let last = in_range es 0 1 (length (steps_of es) - 1) (omega arith) in
    omega (arith, last)
