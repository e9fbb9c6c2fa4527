-- So far a name may go on with each byte, or it may not with one.
use Rattle.std.proofs.Common.{◌≡◌, take}
use Rattle.std.specs.List.{list_all}
use Rattle.task_descriptor.specs.Names.{continues_name}
use Rattle.task_descriptor.proofs.name.all_continue.Given as goal

abbrev pub invariant-loop-byte : goal.invariant-loop-byte
invariant-loop-byte l = l.all ≡ list_all continues_name (take l.byte-index l.bytes)
