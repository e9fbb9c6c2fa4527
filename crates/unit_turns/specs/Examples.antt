-- Worked examples, computed by the checker: turns of units on small programs.
use Rattle.std.specs.Prelude.{◌≡◌, ℕ, List, [], ◌∷◌, ◌++◌}
use Rattle.std.proofs.Common.{refl}
use Rattle.mips_instructions.specs.Words.{address, index_of}
use Rattle.mips_plain.specs.MemoryMap.{region, effective}
use Rattle.machine_model.specs.Machine.{State}
use Rattle.machine_model.specs.Refusals.{least}
use Rattle.machine_model.specs.Answer.{play}
use Rattle.machine_model.specs.Examples.{count, product, unlisted_jump}
use Rattle.machine_model.specs.declared.event.Event.{Event}
use Rattle.machine_model.specs.declared.event.Event.TheVariants.{Assign, Exec, Transfer, Drain, Squash, Retire, Fault}
use Rattle.unit_turns.specs.FirstAllowed.{registers, first_allowed}
use Rattle.unit_turns.specs.Turns.{position_of_unit, turn_at}
use Rattle.unit_turns.specs.declared.turn.Turn.{Turn}
use Rattle.unit_turns.specs.declared.turn.Turn.TheVariants.{Apply, Choose, Burst, Wait}

-- on a ring of four the units 2, 3, 0 and 1 follow one another once six tasks have retired
pub of_head : position_of_unit 4 6 2 ≡ 0
of_head = refl

pub of_last : position_of_unit 4 6 1 ≡ 3
of_last = refl

-- turns on three units, after some events of the loop `count` and the given number of instructions
abbrev pub after : List Event → State
after events = (play count 3 events).state

abbrev pub turn_after : (events : List Event) → (executed k : ℕ) → Turn
turn_after events executed k = turn_at count 3 (after events) executed k

-- the unit at position 0 takes the first task, the others wait
pub empty_queue : turn_after [] 0 0 ≡ Apply (Assign 0)
unfolding address index_of region effective least registers first_allowed
empty_queue = refl

pub not_the_next : turn_after [] 0 1 ≡ Wait
unfolding address index_of region effective least registers first_allowed
not_the_next = refl

-- the head runs, the next unit has a task to choose, the last waits
abbrev pub one_task : List Event
one_task = Assign 0 ∷ []

pub head_runs : turn_after one_task 0 0 ≡ Burst
unfolding address index_of region effective least registers first_allowed
head_runs = refl

pub to_choose : turn_after one_task 0 1 ≡ Choose
unfolding address index_of region effective least registers first_allowed
to_choose = refl

pub not_next : turn_after one_task 0 2 ≡ Wait
unfolding address index_of region effective least registers first_allowed
not_next = refl

-- the second unit waits for register 8, takes it once the head has sent it, and then runs
abbrev pub two_tasks : List Event
two_tasks = Assign 0 ∷ Assign 0 ∷ []

abbrev pub eight_sent : List Event
eight_sent = two_tasks ++ Exec 0 ∷ []

abbrev pub eight_taken : List Event
eight_taken = eight_sent ++ Transfer 1 8 ∷ []

pub lacks_eight : turn_after two_tasks 0 1 ≡ Wait
unfolding address index_of region effective least registers first_allowed
lacks_eight = refl

pub takes_eight : turn_after eight_sent 1 1 ≡ Apply (Transfer 1 8)
unfolding address index_of region effective least registers first_allowed
takes_eight = refl

pub runs_ahead : turn_after eight_taken 1 1 ≡ Burst
unfolding address index_of region effective least registers first_allowed
runs_ahead = refl

-- It pauses once more than 65,536 + 2 instructions besides the head's one were executed; the head never does.
pub runs_still : turn_after eight_taken 65539 1 ≡ Burst
unfolding address index_of region effective least registers first_allowed
runs_still = refl

pub pauses_ahead : turn_after eight_taken 65540 1 ≡ Wait
unfolding address index_of region effective least registers first_allowed
pauses_ahead = refl

pub head_never_pauses : turn_after eight_taken 65540 0 ≡ Burst
unfolding address index_of region effective least registers first_allowed
head_never_pauses = refl

-- the second unit has reached its stop: it sends register 10, which its task has not sent, and then waits
abbrev pub stopped_ahead : List Event
stopped_ahead = two_tasks ++ Exec 0 ∷ Exec 0 ∷ Transfer 1 8 ∷ Transfer 1 9 ∷ Exec 1 ∷ Exec 1 ∷ Exec 1 ∷ Exec 1 ∷ []

pub sends : turn_after stopped_ahead 6 1 ≡ Apply (Drain 1 10)
unfolding address index_of region effective least registers first_allowed
sends = refl

pub has_sent : turn_after (stopped_ahead ++ Drain 1 10 ∷ []) 6 1 ≡ Wait
unfolding address index_of region effective least registers first_allowed
has_sent = refl

-- it takes a register before it sends one
pub takes_first : turn_after (stopped_ahead ++ Exec 0 ∷ Exec 0 ∷ Drain 0 10 ∷ []) 8 1 ≡ Apply (Transfer 1 10)
unfolding address index_of region effective least registers first_allowed
takes_first = refl

-- and squashes the unit after it, which began elsewhere, before it sends
pub squashes : turn_after (two_tasks ++ Assign 1 ∷ Exec 0 ∷ Exec 0 ∷ Transfer 1 8 ∷ Transfer 1 9 ∷ Exec 1 ∷ Exec 1 ∷ Exec 1 ∷ Exec 1 ∷ []) 6 1 ≡ Apply (Squash 1)
unfolding address index_of region effective least registers first_allowed
squashes = refl

-- after a stopped tail nothing is chosen: the task at its stop follows
pub task_at_stop : turn_after stopped_ahead 6 2 ≡ Apply (Assign 0)
unfolding address index_of region effective least registers first_allowed
task_at_stop = refl

-- after a task without targets, none follows
pub no_task : turn_after (Assign 0 ∷ Assign 1 ∷ []) 0 2 ≡ Wait
unfolding address index_of region effective least registers first_allowed
no_task = refl

-- an instruction that outputs a word waits ahead of the head, and is executed singly at the head
abbrev pub two_products : List Event
two_products = Assign 0 ∷ Assign 1 ∷ Exec 0 ∷ Exec 0 ∷ Transfer 1 32 ∷ Transfer 1 33 ∷ Transfer 1 8 ∷ Exec 1 ∷ []

pub waits_to_put_out : turn_at product 2 (play product 2 two_products).state 3 1 ≡ Wait
unfolding address index_of region effective least registers first_allowed
waits_to_put_out = refl

-- the head, which has sent all that its task produces, retires
pub retires : turn_at product 2 (play product 2 two_products).state 3 0 ≡ Apply Retire
unfolding address index_of region effective least registers first_allowed
retires = refl

pub puts_out : turn_at product 2 (play product 2 (two_products ++ Retire ∷ [])).state 3 0 ≡ Apply (Exec 0)
unfolding address index_of region effective least registers first_allowed
puts_out = refl

-- a stopped head sends first
pub drains_at_head : turn_after (Assign 0 ∷ Exec 0 ∷ Exec 0 ∷ Exec 0 ∷ Exec 0 ∷ []) 4 0 ≡ Apply (Drain 0 10)
unfolding address index_of region effective least registers first_allowed
drains_at_head = refl

-- and ends the run where it stopped at an address that its task does not list
pub faults : turn_at unlisted_jump 1 (play unlisted_jump 1 (Assign 0 ∷ Exec 0 ∷ Exec 0 ∷ Exec 0 ∷ [])).state 3 0 ≡ Apply Fault
unfolding address index_of region effective least registers first_allowed
faults = refl
