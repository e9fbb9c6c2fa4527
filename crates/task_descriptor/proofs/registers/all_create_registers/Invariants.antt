-- The tasks so far.
use Rattle.std.proofs.Common.{take}
use Rattle.std.specs.List.{All}
use Rattle.mips_instructions.specs.Words.{has}
use Rattle.task_descriptor.specs.Listing.{OfRegisters}
use Rattle.task_descriptor.proofs.registers.all_create_registers.Given as goal

abbrev pub invariant-loop-task : goal.invariant-loop-task
invariant-loop-task l = All (λ t. OfRegisters (has t.create)) (take l.task-index l.tasks)
