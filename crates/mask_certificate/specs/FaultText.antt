-- The number and the name of what is wrong with a certificate text, and the line.
use Rattle.std.specs.Prelude.{ℕ, List, ◌++◌, codes}
use Rattle.std.specs.Fmt.{decimal}
use Rattle.mask_certificate.specs.declared.fault.CertFault.{CertFault}
use Rattle.mask_certificate.specs.declared.fault.CertFault.TheVariants.{Header, Line, TaskName, MissingTask, Shape, OutOfMemory}

abbrev pub cert_fault_text : CertFault → List ℕ
cert_fault_text Header = codes "1 Header"
cert_fault_text (Line line) = codes "2 Line " ++ decimal line
cert_fault_text (TaskName line) = codes "3 TaskName " ++ decimal line
cert_fault_text MissingTask = codes "4 MissingTask"
cert_fault_text Shape = codes "5 Shape"
cert_fault_text OutOfMemory = codes "6 OutOfMemory"
