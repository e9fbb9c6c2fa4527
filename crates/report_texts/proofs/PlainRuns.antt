-- A machine that has made n steps of a program says what the report of the program says after n steps.
use Rattle.std.proofs.Common.{◌≡◌, ℕ, ◌++◌, refl}
use Rattle.mips_plain.specs.PlainMachine.{Input, reads, counted}
use Rattle.mips_plain.specs.PlainView.{PlainView, IsAfter, machine_state}
use Rattle.task_descriptor.specs.Listing.{Listing, input}
use Rattle.report_texts.specs.OutputTexts.{Report, words_text, closing_text, closing_status}
use Rattle.report_texts.specs.SeqText.{run_report}

pub counted-zero : (from : Input) → counted from 0 ≡ 0
unfolding reads
counted-zero from = refl

-- the report of a machine
abbrev pub report_after : PlainView → Report
report_after m = record {
  bytes = words_text (machine_state m).output ++ closing_text (machine_state m).outcome m.count;
  status = closing_status (machine_state m).outcome;
}

pub run_report-after : (p : Listing) (n : ℕ) (m : PlainView) → IsAfter (input p) n m → report_after m ≡ run_report n p
run_report-after p n m after = λ j. record {
  bytes = words_text (after.state j).output ++ closing_text (after.state j).outcome (after.count j);
  status = closing_status (after.state j).outcome;
}
