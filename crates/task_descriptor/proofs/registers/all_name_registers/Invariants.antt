-- The instructions so far.
use Rattle.std.proofs.Common.{take}
use Rattle.std.specs.List.{All}
use Rattle.task_descriptor.specs.Listing.{NamesRegisters}
use Rattle.task_descriptor.proofs.registers.all_name_registers.Given as goal

abbrev pub invariant-loop-marked : goal.invariant-loop-marked
invariant-loop-marked l = All NamesRegisters (take l.marked-index l.code)
