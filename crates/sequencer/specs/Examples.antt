-- Worked examples, computed by the checker: what may be assigned next, which unit of the ring an event
-- belongs to, and how many instructions some events executed.
use Rattle.std.specs.Prelude.{◌≡◌, [], ◌∷◌, Some, None}
use Rattle.std.proofs.Common.{refl}
use Rattle.mips_instructions.specs.Words.{address, index_of}
use Rattle.mips_plain.specs.MemoryMap.{region, effective}
use Rattle.machine_model.specs.Machine.{State, opening}
use Rattle.machine_model.specs.Refusals.{least}
use Rattle.machine_model.specs.Answer.{play}
use Rattle.machine_model.specs.HeadEvent.{unit_of}
use Rattle.machine_model.specs.Examples.{count}
use Rattle.machine_model.specs.declared.event.Event.TheVariants.{Assign, Exec, Drain, Retire, Drop}
use Rattle.sequencer.specs.Choices.{choices_of, choice_of}
use Rattle.sequencer.specs.Histories.{executed_in}

-- on an empty queue the task at the next address, whatever the answer
pub first_task : choice_of count (opening count) 5 ≡ Some (Assign 0)
unfolding address
first_task = refl

-- after a loop's task that has not stopped, this task again or the one after the loop, in turn
abbrev pub at_work : State
at_work = (play count 2 (Assign 0 ∷ [])).state

pub two_choices : choices_of count at_work ≡ 0 ∷ 4 ∷ []
unfolding address index_of region effective least
two_choices = refl

pub choice_again : choice_of count at_work 0 ≡ Some (Assign 0)
unfolding address index_of region effective least
choice_again = refl

pub choice_behind : choice_of count at_work 1 ≡ Some (Assign 1)
unfolding address index_of region effective least
choice_behind = refl

pub choice_round : choice_of count at_work 2 ≡ Some (Assign 0)
unfolding address index_of region effective least
choice_round = refl

-- after its stop the task where it stopped, whatever the answer
abbrev pub stopped : State
stopped = (play count 2 (Assign 0 ∷ Exec 0 ∷ Exec 0 ∷ Exec 0 ∷ Exec 0 ∷ [])).state

pub no_choices : choices_of count stopped ≡ []
unfolding address index_of region effective least
no_choices = refl

pub choice_at_stop : choice_of count stopped 1 ≡ Some (Assign 0)
unfolding address index_of region effective least
choice_at_stop = refl

-- after a task without targets, nothing
pub choice_of_none : choice_of count (play count 2 (Assign 0 ∷ Assign 1 ∷ [])).state 0 ≡ None
unfolding address index_of region effective least
choice_of_none = refl

-- four units, of which two are at work, after five tasks have retired: the head is unit 1
pub unit_of_head : unit_of 4 5 2 Retire ≡ 1
unit_of_head = refl

pub unit_of_next : unit_of 4 5 2 (Exec 1) ≡ 2
unit_of_next = refl

pub unit_of_free : unit_of 4 5 2 (Assign 0) ≡ 3
unit_of_free = refl

-- two instructions of the head and one of the unit after it, which is then given up
pub executes_three : executed_in (Assign 0 ∷ Exec 0 ∷ Assign 1 ∷ Exec 1 ∷ Exec 0 ∷ Drop 1 ∷ []) ≡ 3
executes_three = refl

-- no other event executes an instruction
pub executes_none : executed_in (Assign 0 ∷ Drain 0 8 ∷ Retire ∷ []) ≡ 0
executes_none = refl
