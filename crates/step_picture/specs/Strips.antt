-- The waits of units, a wait for each stretch of steps in which a unit waits for one reason.
use Rattle.std.specs.Prelude.{ℕ, List, [], ◌∷◌, flat_map, map, nat_eq, if◌then◌else◌, Option, Some, None}
use Rattle.std.specs.List.{range_with_len}
use Rattle.std.specs.Option.{option_map}
use Rattle.unit_waits.specs.declared.waiting.Owed.{Owed}
use Rattle.unit_waits.specs.declared.waiting.Reason.{Reason}
use Rattle.unit_waits.specs.declared.waiting.Reason.TheVariants as reason
use Rattle.unit_waits.specs.declared.waiting.Waiting.{Waiting}
use Rattle.run_picture.specs.declared.shape.Debt.{Debt}
use Rattle.run_picture.specs.declared.shape.Wait.{Wait}
use Rattle.run_picture.specs.declared.shape.Why.{Why}
use Rattle.run_picture.specs.declared.shape.Why.TheVariants.{NeedsRegister, NeedsHead, HasToPass, HasFinished}

-- why a unit waits, if a reason keeps it waiting
abbrev pub debt_of : (register : ℕ) → Owed → Debt
debt_of r owed = record { register = r; task = owed.task; unit = owed.unit; is_sent = owed.is_sent }

abbrev pub why_of : Reason → Option Why
why_of (reason.NeedsRegister r owed) = Some (NeedsRegister (debt_of r owed))
why_of reason.NeedsHead = Some NeedsHead
why_of (reason.HasToPass r owed) = Some (HasToPass (debt_of r owed))
why_of reason.HasFinished = Some HasFinished
why_of reason.CouldGoOn = None

-- what keeps a unit waiting in a step, if this wait is its own
abbrev pub wait_on : (unit : ℕ) → Waiting → Option Wait
wait_on unit w =
    if nat_eq w.unit unit
    then option_map (λ why. record { unit = unit; task = w.task; step = w.step; count = 1; why = why }) (why_of w.reason)
    else None

abbrev pub option_list : Option Wait → List Wait
option_list None = []
option_list (Some w) = w ∷ []

abbrev pub waits_on : List Waiting → (unit : ℕ) → List Wait
waits_on waits unit = flat_map (λ w. option_list (wait_on unit w)) waits

-- a wait, step by step
abbrev pub each_step : Wait → List Wait
each_step w = map (λ step. record w { step = step; count = 1 }) (range_with_len w.step w.count)
