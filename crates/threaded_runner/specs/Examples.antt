-- Worked examples, computed by the checker: which worker each event of a history belongs to.
use Rattle.std.specs.Prelude.{◌≡◌, List, [], ◌∷◌}
use Rattle.std.proofs.Common.{refl}
use Rattle.machine_model.specs.declared.event.Event.{Event}
use Rattle.machine_model.specs.declared.event.Event.TheVariants.{Assign, Exec, Squash, Retire, Drop}
use Rattle.threaded_runner.specs.Counts.{retired_by, active_by, events_of}

-- two tasks begin, the head executes one instruction and the other unit two; the head retires, the other
-- executes one more instruction as the head, and a third task begins
abbrev history : List Event
history = Assign 0 ∷ Assign 0 ∷ Exec 0 ∷ Exec 1 ∷ Exec 1 ∷ Retire ∷ Exec 0 ∷ Assign 1 ∷ []

pub retired : retired_by history ≡ 1
retired = refl

pub active : active_by history ≡ 2
active = refl

-- four units, each with a worker: the third task is unit 2's
pub of_first : events_of 4 4 0 history ≡ 3
of_first = refl

pub of_second : events_of 4 4 1 history ≡ 4
of_second = refl

pub of_third : events_of 4 4 2 history ≡ 1
of_third = refl

pub of_last : events_of 4 4 3 history ≡ 0
of_last = refl

-- two units round the ring: the third task is the first unit's again
pub round_the_ring : events_of 2 2 0 history ≡ 4
round_the_ring = refl

-- four units and two workers: the first worker has the units 0 and 2
pub of_two_workers : events_of 4 2 0 history ≡ 4
of_two_workers = refl

-- Squash and Drop belong to the unit at the position that they name, and shorten the queue
abbrev cut : List Event
cut = Assign 0 ∷ Assign 0 ∷ Assign 0 ∷ Squash 0 ∷ Assign 0 ∷ Drop 1 ∷ Assign 0 ∷ []

pub active_after_cuts : active_by cut ≡ 2
active_after_cuts = refl

pub of_first_with_cuts : events_of 3 3 0 cut ≡ 2
of_first_with_cuts = refl

pub of_second_with_cuts : events_of 3 3 1 cut ≡ 4
of_second_with_cuts = refl
