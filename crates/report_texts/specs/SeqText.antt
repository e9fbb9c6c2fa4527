-- The text of `seq`: a plain run, without the annotations.
use Rattle.std.specs.Prelude.{ℕ, List, ◌++◌, Result, Ok, Err}
use Rattle.mips_plain.specs.PlainMachine.{plain, counted}
use Rattle.task_descriptor.specs.Listing.{Listing, input}
use Rattle.annotated_asm.specs.declared.fault.AsmFault.{AsmFault}
use Rattle.annotated_asm.specs.ProgramText.{parse}
use Rattle.report_texts.specs.OutputTexts.{Report, words_text, closing_text, closing_status, program_refused}

-- what `seq` writes for a program, with at most this many instructions
abbrev pub run_report : ℕ → Listing → Report
run_report budget p =
    let end = plain (input p) budget in
    record {
      bytes = words_text end.output ++ closing_text end.outcome (counted (input p) budget);
      status = closing_status end.outcome;
    }

abbrev pub seq_read : ℕ → Result Listing AsmFault → Report
seq_read budget (Ok p) = run_report budget p
seq_read budget (Err fault) = program_refused fault

-- what `seq` writes for a program text
abbrev pub seq_text : ℕ → List ℕ → Report
seq_text budget text = seq_read budget (parse text)
