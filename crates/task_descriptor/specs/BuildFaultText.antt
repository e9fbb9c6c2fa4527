-- The number and the name of what is wrong with a program's parts.
use Rattle.std.specs.Prelude.{ℕ, List, ◌++◌, codes}
use Rattle.std.specs.Fmt.{decimal}
use Rattle.task_descriptor.specs.declared.program.BuildFault.{BuildFault}
use Rattle.task_descriptor.specs.declared.program.BuildFault.TheVariants.{TooMany, NoTask, BadEntry, DuplicateEntry, BadMask, BadMark, BadStart}

abbrev pub build_fault_text : BuildFault → List ℕ
build_fault_text TooMany = codes "1 TooMany"
build_fault_text NoTask = codes "2 NoTask"
build_fault_text BadEntry = codes "3 BadEntry"
build_fault_text DuplicateEntry = codes "4 DuplicateEntry"
build_fault_text BadMask = codes "5 BadMask"
build_fault_text (BadMark index) = codes "6 BadMark " ++ decimal index
build_fault_text BadStart = codes "7 BadStart"
