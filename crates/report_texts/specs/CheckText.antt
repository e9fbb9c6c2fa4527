-- The text of `check`: what the rules find. It is a function of the two texts alone.
use Rattle.std.specs.Prelude.{◌≡◌, ℕ, List}
use Rattle.jobs.specs.declared.job.CheckFormat.{CheckFormat}
use Rattle.jobs.specs.declared.job.CheckFormat.TheVariants.{Text, Json}
use Rattle.report_texts.specs.OutputTexts.{Report}
use Rattle.report_texts.specs.VerdictTexts.{program_accepted}
use Rattle.report_texts.specs.JudgedTexts.{judged}

-- what `check` writes for a program text and the text of its certificate
abbrev pub check_text : (program certificate : List ℕ) → Report
check_text program certificate = judged program_accepted program certificate

-- what `check` writes where this is its text: it, or lines of JSON with its status
abbrev pub IsCheckReport : CheckFormat → (said report : Report) → Type 0
IsCheckReport Text said report = report ≡ said
IsCheckReport Json said report = report.status ≡ said.status
