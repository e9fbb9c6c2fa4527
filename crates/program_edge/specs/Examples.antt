-- Worked examples, computed by the checker: names of standard input, what is no result for a file, and what standard
-- error gets beside a result.
use Rattle.std.specs.Prelude.{◌≡◌, ℕ, Bool, Option, true, false, [], ◌∷◌, ◌++◌, codes, Some}
use Rattle.std.proofs.Common.{refl}
use Rattle.program_edge.specs.declared.fault.Fault.TheVariants.{InputTwice}
use Rattle.jobs.specs.declared.job.CertificateSource.TheVariants.{Least}
use Rattle.jobs.specs.declared.job.CheckFormat.{CheckFormat}
use Rattle.jobs.specs.declared.job.Colors.{Colors}
use Rattle.jobs.specs.declared.job.Format.{Format}
use Rattle.jobs.specs.declared.job.Job.{Job}
use Rattle.jobs.specs.declared.job.Job.TheVariants.{Check, Explain, Print, Seq}
use Rattle.jobs.specs.declared.job.Warnings.{Warnings}
use Rattle.std.specs.declared.string.String.{String}
use Rattle.std.specs.declared.alloc.Global.{Global}
use Rattle.explain_report.specs.declared.proposal.LeftOver.{LeftOver}
use Rattle.program_edge.specs.Asking.{input_of}
use Rattle.program_edge.specs.Beside.{rest_said}
use Rattle.program_edge.specs.FileTexts.{program_name}
use Rattle.program_edge.specs.Hints.{is_heard}
use Rattle.program_edge.specs.Refusals.{is_refusal}
use Rattle.program_edge.specs.Telling.{said_of}

-- `-` is standard input, `./-` is not
pub input : input_of (codes "-") ≡ 1
input = refl

pub file_of_its_name : input_of (codes "./-") ≡ 0
file_of_its_name = refl

-- the name of a program: its path without the folders
pub named : program_name (codes "count.s") ≡ codes "count.s"
named = refl

pub named_without_folders : program_name (codes "/home/a/count.s") ≡ codes "count.s"
named_without_folders = refl

pub folder_unnamed : program_name (codes "count/") ≡ []
folder_unnamed = refl

pub input_unnamed : program_name (codes "-") ≡ []
input_unnamed = refl

pub dash_named : program_name (codes "./-") ≡ codes "-"
dash_named = refl

-- two files that are `-`
pub input_twice : said_of InputTwice ≡ Some (codes "multiscalar: 5 InputTwice: only one file can be - (standard input)" ++ 10 ∷ [])
input_twice = refl

-- a refused program gives `print` no result, and `check` one
pub refused : is_refusal (Print false) 1 (codes "program refused: 4 Mnemonic line 1" ++ 10 ∷ []) ≡ true
refused = refl

pub judged : (workers : ℕ) (format : CheckFormat) → is_refusal (Check Least workers format) 1 (codes "program refused: 4 Mnemonic line 1" ++ 10 ∷ []) ≡ false
judged workers format = refl

-- the number of findings stands in the last line
pub findings : is_refusal (Print false) 1 (codes "A 0 rule 5 $8" ++ (10 ∷ (codes "refused 1" ++ 10 ∷ []))) ≡ true
findings = refl

-- a run that trapped is a result
pub trapped : (budget : ℕ) → is_refusal (Seq budget) 1 (codes "10" ++ (10 ∷ (codes "trapped 3 BadPc after 17 instructions" ++ 10 ∷ []))) ≡ false
trapped budget = refl

-- only a terminal hears of a refused program, and of none that halts
pub heard : is_heard true (Print false) 1 ≡ true
heard = refl

pub no_terminal : (job : Job) (status : ℕ) → is_heard false job status ≡ false
no_terminal job status = refl

pub halted : (budget : ℕ) → is_heard true (Seq budget) 0 ≡ false
halted budget = refl

-- `explain` says all itself
pub explained : (name : String Global) (certificate script : Option (String Global)) (warnings : Warnings) (format : Format) (colors : Colors)
    → is_heard true (Explain name certificate script warnings format colors) 1 ≡ false
explained name certificate script warnings format colors = refl

-- where nothing is left, only who asks hears of it
pub asked : (left : LeftOver) → rest_said true (Some left) ≡ left.said.items
asked left = refl

pub unasked : (left : LeftOver) → left.count ≡ 0 → rest_said false (Some left) ≡ []
unasked left none = rw (none) refl
