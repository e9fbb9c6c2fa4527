-- Waits counted: those of one task, at one place and for one reason together, ordered by the first
-- of each.
use Rattle.std.specs.Prelude.{ℕ, ◌+◌, Bool, true, false, not, ◌&&◌, nat_eq, if◌then◌else◌, List, [], ◌∷◌}
use Rattle.std.specs.List.{fold, sum_by}
use Rattle.machine_model.specs.declared.event.Spot.{Spot}
use Rattle.machine_model.specs.declared.event.Spot.TheVariants.{Inside, Stopped}
use Rattle.unit_waits.specs.declared.waiting.Owed.{Owed}
use Rattle.unit_waits.specs.declared.waiting.Reason.{Reason}
use Rattle.unit_waits.specs.declared.waiting.Reason.TheVariants.{NeedsRegister, NeedsHead, HasToPass, HasFinished, CouldGoOn}
use Rattle.unit_waits.specs.declared.waiting.Waiting.{Waiting}
use Rattle.unit_waits.specs.declared.count.Count.{Count}

abbrev pub is_same_place : Spot → Spot → Bool
is_same_place (Inside i) (Inside j) = nat_eq i j
is_same_place (Stopped i) (Stopped j) = nat_eq i j
is_same_place _ _ = false

-- equal registers, owed by units of one task that both pass it on or both do not
abbrev pub is_same_debt : (r : ℕ) → Owed → (q : ℕ) → Owed → Bool
is_same_debt r o q d = nat_eq r q && nat_eq o.task d.task && (if o.is_sent then d.is_sent else not d.is_sent)

abbrev pub is_same_reason : Reason → Reason → Bool
is_same_reason (NeedsRegister r o) (NeedsRegister q d) = is_same_debt r o q d
is_same_reason NeedsHead NeedsHead = true
is_same_reason (HasToPass r o) (HasToPass q d) = is_same_debt r o q d
is_same_reason HasFinished HasFinished = true
is_same_reason CouldGoOn CouldGoOn = true
is_same_reason _ _ = false

abbrev pub is_alike : Waiting → Waiting → Bool
is_alike v w = nat_eq v.task w.task && is_same_place v.place w.place && is_same_reason v.reason w.reason

-- the counts with one more wait
abbrev pub counted : List Count → Waiting → List Count
counted [] w = record { first = w; waits = 1 } ∷ []
counted (c ∷ cs) w = if is_alike c.first w then record c { waits = c.waits + 1 } ∷ cs else c ∷ counted cs w

abbrev pub counts_of : List Waiting → List Count
counts_of waits = fold counted [] waits

-- how many waits some counts make together
abbrev pub all_waits : List Count → ℕ
all_waits counts = sum_by (λ c. c.waits) counts
