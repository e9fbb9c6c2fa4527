-- What becomes of a report that a writer is to take.
use Rattle.std.specs.Prelude.{◌≡◌, ℕ, List, Option, Bool, true, false}
use Rattle.std.specs.Io.KnownBytes.{Appends}
use Rattle.report_texts.specs.OutputTexts.{Report}
use Rattle.result_files.specs.Writing.{Begins}
use Rattle.verdict_report.specs.declared.fault.ServeFault.{ServeFault}
use Rattle.verdict_report.specs.declared.fault.ServeFault.TheVariants.{Write, PartWritten}

-- after these faults a beginning may have been written; after the others nothing
abbrev pub is_cut : ServeFault → Bool
is_cut Write = true
is_cut PartWritten = true
is_cut _ = false

-- a report for which this holds was added to what the writer holds, and the status is its
pub record IsAdded (Right : Report → Type 0) (status : ℕ) (old new : Option (List ℕ)) : Type 0 where
  pub report : Report
  pub right : Right report
  pub answered : status ≡ report.status
  pub written : Appends old new report.bytes

-- what was written is a beginning of one
pub record IsBegun (Right : Report → Type 0) (old new : Option (List ℕ)) : Type 0 where
  pub report : Report
  pub right : Right report
  pub begun : Begins old new report.bytes
