-- The number and the name of what is wrong with a script, and the line.
use Rattle.std.specs.Prelude.{ℕ, List, ◌++◌, codes}
use Rattle.std.specs.Fmt.{decimal}
use Rattle.event_script.specs.declared.fault.ScriptFault.{ScriptFault}
use Rattle.event_script.specs.declared.fault.ScriptFault.TheVariants.{Line, TaskName, OutOfMemory}

abbrev pub script_fault_text : ScriptFault → List ℕ
script_fault_text (Line line) = codes "1 Line " ++ decimal line
script_fault_text (TaskName line) = codes "2 TaskName " ++ decimal line
script_fault_text OutOfMemory = codes "3 OutOfMemory"
