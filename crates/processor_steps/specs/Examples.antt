-- Worked examples, computed by the checker: what a processor shows, which events it refuses, and
-- which task may come after its tail.
use Rattle.std.specs.Prelude.{◌≡◌, false, [], ◌∷◌, ◌++◌, replicate, slice_get, Some, None, Ok, Err}
use Rattle.std.proofs.Common.{refl, arith, inl, inr}
use Rattle.mips_instructions.specs.Words.{address}
use Rattle.machine_model.specs.Machine.{Active}
use Rattle.machine_model.specs.Refusals.{least}
use Rattle.machine_model.specs.Answer.{refusal, later_refusal}
use Rattle.machine_model.specs.Examples.{count, value_of}
use Rattle.machine_model.specs.declared.event.Event.TheVariants.{Assign, Exec, Retire, Drop}
use Rattle.machine_model.specs.declared.event.Refused.TheVariants as refused
use Rattle.machine_model.specs.declared.event.Spot.TheVariants.{Inside, Stopped}
use Rattle.machine_model.specs.declared.event.Standing.TheVariants as standing
use Rattle.unit_core.specs.Units.{UnitView, active_of}
use Rattle.processor_steps.specs.Processors.{ProcessorView, state_of, takes_memory, Steps, executed_by}
use Rattle.processor_steps.specs.Choices.{targets_behind, task_behind}

-- Task A of `count` has gone round once and stopped where it begins. It wrote registers 8, 9 and 10,
-- each with 1, and sent 8 and 9.
abbrev pub head : UnitView
head = record {
  task = 0;
  serial = 0;
  place = Stopped 0x400000;
  port = record {
    arrived = record { set = 0x3FFFFFFFF; words = replicate 34 0 };
    sent = record { set = 0x300; words = replicate 34 1 };
  };
  local = record { set = 0x700; words = replicate 34 1 };
  log =
      record { pc = 0x400000; a = 0; b = 0 }
      ∷ record { pc = 0x400004; a = 0; b = 1 }
      ∷ record { pc = 0x400008; a = 1; b = 0 }
      ∷ record { pc = 0x40000C; a = 1; b = 0 }
      ∷ [];
}

-- After it, another unit on the same task has taken register 8, written 2 to it and sent it; 9 and 10 are reserved.
abbrev pub tail : UnitView
tail = record {
  task = 0;
  serial = 1;
  place = Inside 1;
  port = record {
    arrived = record { set = 0x3FFFFF9FF; words = replicate 8 0 ++ (1 ∷ replicate 25 0) };
    sent = record { set = 0x100; words = replicate 34 2 };
  };
  local = record { set = 0x100; words = replicate 34 2 };
  log = record { pc = 0x400000; a = 1; b = 0 } ∷ [];
}

-- both units are at work, and nothing has retired; data memory begins with the bytes 7 and 8
abbrev pub processor : ProcessorView
processor = record {
  queue = record { units = head ∷ tail ∷ []; capacity = 2 };
  registers = replicate 34 0;
  world = record { contents = record { bytes = 7 ∷ 8 ∷ []; fixed = [] }; output = []; outcome = standing.Running };
  next = 0x400000;
  reads = [];
  commits = [];
  assigns = 2;
}

-- the units as the machine step sees them, the head first, each with the values of its registers
pub seen_head : value_of (slice_get (state_of processor).queue 0) 10 ≡ Some 1
seen_head = refl

pub seen_tail : value_of (slice_get (state_of processor).queue 1) 8 ≡ Some 2
seen_tail = refl

pub seen_reserved : value_of (slice_get (state_of processor).queue 1) 9 ≡ None
seen_reserved = refl

pub seen_no_more : slice_get (state_of processor).queue 2 ≡ None
seen_no_more = refl

-- data memory has 0 after the bytes that are kept
pub seen_byte : (state_of processor).memory 1 ≡ 8
seen_byte = refl

pub seen_behind : (state_of processor).memory 2 ≡ 0
seen_behind = refl

-- four instructions of the head and one of the tail, besides seven that have retired
pub executed : executed_by (state_of (record processor { commits = record { task = 0; exit = 0x400000; count = 7 } ∷ [] })) ≡ 12
executed = refl

-- Exec: the head has stopped, `addu $9,$9,$8` of the tail waits for register 9, and
-- there is no third unit
pub exec_of_stopped : refusal count 2 (state_of processor) (Exec 0) ≡ Some refused.Stopped
exec_of_stopped = refl

pub exec_of_waiting : refusal count 2 (state_of processor) (Exec 1) ≡ Some (refused.Waiting 9)
unfolding least
exec_of_waiting = refl

pub exec_of_none : refusal count 2 (state_of processor) (Exec 2) ≡ Some refused.NoSuch
exec_of_none = refl

-- only the head executes a `halt`
abbrev pub halting : Active
halting = active_of (record tail { task = 1; place = Inside 5 })

pub halt_at_head : refusal count 2 (record (state_of processor) { queue = halting ∷ [] }) (Exec 0) ≡ None
unfolding least
halt_at_head = refl

pub halt_behind : refusal count 2 (record (state_of processor) { queue = active_of head ∷ halting ∷ [] }) (Exec 1) ≡ Some refused.NotHead
unfolding least
halt_behind = refl

-- the millionth event is allowed, and no further one; any other refusal comes first
pub one_more : later_refusal count 2 (state_of processor) 999999 (Drop 1) ≡ None
one_more = refl

pub no_more : later_refusal count 2 (state_of processor) 1000000 (Drop 1) ≡ Some refused.Full
no_more = refl

pub refused_first : later_refusal count 2 (state_of processor) 1000000 (Assign 0) ≡ Some refused.NoUnit
refused_first = refl

-- a refused event leaves the processor as it is
pub retire_refused : Steps count processor 5 Retire (Err (refused.Unfinished 10)) processor
unfolding least
retire_refused = record { allowed = tt; refused = inl refl; next = tt; kept = record { capacity = refl; fixed = refl }; err = refl }

-- so does lack of memory for an event that may take some, such as the `slti` of the tail
abbrev pub at_slti : ProcessorView
at_slti = record processor { queue = record { units = head ∷ record tail { place = Inside 2 } ∷ []; capacity = 2 } }

pub memory_refused : Steps count at_slti 5 (Exec 1) (Err refused.OutOfMemory) at_slti
unfolding least
memory_refused = record { allowed = tt; refused = inr (refl, refl, refl); next = tt; kept = record { capacity = refl; fixed = refl }; err = refl }

pub takes_none : takes_memory (Assign 0) ≡ false
takes_none = refl

-- a Drop of the tail leaves the head
pub dropped : Steps count processor 5 (Drop 1) (Ok tt) (record processor { queue = record { units = head ∷ []; capacity = 2 } })
dropped = record {
  allowed = refl;
  refused = tt;
  next = record { runs = refl; does = record { unit = active_of tail; is_unit = refl; is_behind = omega arith; is = refl } };
  kept = record { capacity = refl; fixed = refl };
  err = tt;
}

-- after the tail, which has not stopped: a target of its task, by the answer modulo the number of targets
pub two_targets : targets_behind count (Some (active_of tail)) ≡ 0 ∷ 4 ∷ []
two_targets = refl

pub first_target : task_behind count 0x400000 (Some (active_of tail)) 0 ≡ Some 0
unfolding address
first_target = refl

pub last_target : task_behind count 0x400000 (Some (active_of tail)) 4294967295 ≡ Some 1
unfolding address
last_target = refl

-- after a tail that has stopped: the task where it stopped, if it is listed, whatever the answer
pub no_target : targets_behind count (Some (active_of head)) ≡ []
no_target = refl

pub where_stopped : task_behind count 0 (Some (active_of head)) 1 ≡ Some 0
unfolding address
where_stopped = refl

pub stopped_elsewhere : task_behind count 0 (Some (active_of (record head { place = Stopped 0x400004 }))) 0 ≡ None
unfolding address
stopped_elsewhere = refl

-- on an empty queue: the task at the next address
pub next_task : task_behind count 0x400010 None 0 ≡ Some 1
unfolding address
next_task = refl
