-- The text of `print`: the program in canonical form.
use Rattle.std.specs.Prelude.{◌≡◌, ℕ, Bool, true, false, List, Result, Ok, Err}
use Rattle.task_descriptor.specs.Listing.{Listing}
use Rattle.annotated_asm.specs.declared.fault.AsmFault.{AsmFault}
use Rattle.annotated_asm.specs.ProgramText.{parse}
use Rattle.canonical_text.specs.CanonicalText.{canonical_text}
use Rattle.report_texts.specs.OutputTexts.{Report, program_refused}

abbrev pub print_read : Result Listing AsmFault → Report
print_read (Ok p) = record { bytes = canonical_text p; status = 0 }
print_read (Err fault) = program_refused fault

-- what `print` writes for a program text
abbrev pub print_text : List ℕ → Report
print_text text = print_read (parse text)

-- what `print --listing` writes for it; how instructions are listed is not said here
abbrev pub IsListed : Result Listing AsmFault → Report → Type 0
IsListed (Ok p) report = report.status ≡ 0
IsListed (Err fault) report = report ≡ program_refused fault

-- what `print` writes for a program text
abbrev pub IsPrintReport : (listing : Bool) → (text : List ℕ) → Report → Type 0
IsPrintReport false text report = report ≡ print_text text
IsPrintReport true text report = IsListed (parse text) report
