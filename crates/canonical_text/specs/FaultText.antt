-- The number and the name of what keeps marks out of a text.
use Rattle.std.specs.Prelude.{ℕ, List, codes}
use Rattle.canonical_text.specs.declared.fault.MarksFault.{MarksFault}
use Rattle.canonical_text.specs.declared.fault.MarksFault.TheVariants.{TooLong, Differs, OutOfMemory}

abbrev pub marks_fault_text : MarksFault → List ℕ
marks_fault_text TooLong = codes "1 TooLong"
marks_fault_text Differs = codes "2 Differs"
marks_fault_text OutOfMemory = codes "3 OutOfMemory"
