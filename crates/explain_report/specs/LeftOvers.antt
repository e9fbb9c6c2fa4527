-- What is left to mend by hand in the text that `annotate` proposes.
use Rattle.std.specs.Prelude.{◌≡◌, ◌≢◌, ℕ, List, length, Option, None, Result, Ok, Err, IsSomeAnd}
use Rattle.task_descriptor.specs.Listing.{Listing}
use Rattle.annotated_asm.specs.declared.fault.AsmFault.{AsmFault}
use Rattle.annotated_asm.specs.ProgramText.{parse}
use Rattle.mark_checker.specs.Rules.{all_rules}
use Rattle.annotator.specs.Least.{IsLeast}
use Rattle.jobs.specs.declared.job.Emit.TheVariants.{Cert, Keep, Marks}
use Rattle.jobs.specs.declared.job.Job.{Job}
use Rattle.jobs.specs.declared.job.Job.TheVariants.{Annotate}
use Rattle.report_texts.specs.OutputTexts.{Report}
use Rattle.report_texts.specs.AnnotateText.{IsAnnotateReport}
use Rattle.explain_report.specs.declared.proposal.LeftOver.{LeftOver}

-- the checker has `count` findings of the program with a least certificate
pub record IsFindingCount (p : Listing) (count : ℕ) : Type 0 where
  pub cert : List (List (ℕ × ℕ))
  pub least : IsLeast p cert
  pub counted : count ≡ length (all_rules p cert)

-- what is left in a text: the findings of its program, which are counted
abbrev pub IsLeftRead : Result Listing AsmFault → Option LeftOver → Type 0
IsLeftRead (Ok p) left = IsSomeAnd left (λ l. IsFindingCount p l.count)
IsLeftRead (Err fault) left = left ≡ None

-- what is left in a text that was written with this status; nothing is written about a refusal
abbrev pub IsLeftOf : Report → Option LeftOver → Type 0
IsLeftOf report left = (report.status ≢ 0 → left ≡ None) × (report.status ≡ 0 → IsLeftRead (parse report.bytes) left)

-- what a job leaves that wrote this of a program text; only `annotate` mends. Where it wrote a certificate, the text that
-- it proposes is the one that `--emit marks` writes
abbrev pub IsLeftOver : Job → (program name : List ℕ) → (written : Report) → Option LeftOver → Type 0
IsLeftOver (Annotate Cert) program name written left = (marked : Report) × IsAnnotateReport Marks program marked × IsLeftOf marked left
IsLeftOver (Annotate Keep) program name written left = (marked : Report) × IsAnnotateReport Marks program marked × IsLeftOf marked left
IsLeftOver (Annotate emit) program name written left = IsLeftOf written left
IsLeftOver _ program name written left = left ≡ None
