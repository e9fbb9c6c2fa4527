-- The number and the name of why a job was not done.
use Rattle.std.specs.Prelude.{ℕ, List, codes}
use Rattle.verdict_report.specs.declared.fault.ServeFault.{ServeFault}
use Rattle.verdict_report.specs.declared.fault.ServeFault.TheVariants.{OutOfMemory, Write, Foreign, PartWritten}

abbrev pub serve_fault_text : ServeFault → List ℕ
serve_fault_text OutOfMemory = codes "1 OutOfMemory"
serve_fault_text Write = codes "2 Write"
serve_fault_text Foreign = codes "3 Foreign"
serve_fault_text PartWritten = codes "4 PartWritten"
