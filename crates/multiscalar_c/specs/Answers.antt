-- What a call leaves in the caller's memory, and the number that it answers.
use Rattle.std.specs.Prelude.{◌≡◌, ◌<◌, ◌⊎◌, ⊤, ℕ, List, ◌++◌, length, drop, Result, Ok, Err}
use Rattle.report_texts.specs.OutputTexts.{Report}
use Rattle.multiscalar_c.specs.declared.answer.Fault.{Fault}
use Rattle.multiscalar_c.specs.declared.answer.Fault.TheVariants.{Memory, Range}

-- the outcome of a job: a report, where all that was passed is in range; `Range` exactly where something is not.
-- Memory may run out
abbrev pub Made : (InRange : Type 0) → (IsReport : Report → Type 0) → Result Report Fault → Type 0
Made InRange IsReport (Ok report) = InRange × IsReport report
Made InRange IsReport (Err Range) = InRange → ⊥
Made InRange IsReport (Err Memory) = ⊤

-- the report stands at the start of `out`; the status is the answer
pub record IsHandedOut (report : Report) (status : ℕ) (out out' : List ℕ) (len : ℕ) : Type 0 where
  pub answered : status ≡ report.status
  pub told : len ≡ length report.bytes
  pub written : out' ≡ report.bytes ++ drop (length report.bytes) out

-- `out` is too short: `len` is the length that is needed
pub record IsTooShort (report : Report) (status : ℕ) (out out' : List ℕ) (len : ℕ) : Type 0 where
  pub short : length out < length report.bytes
  pub answered : status ≡ 256
  pub told : len ≡ length report.bytes
  pub kept : out' ≡ out

-- there is no report, and nothing was written
abbrev pub IsUndone : (code status : ℕ) → (out out' : List ℕ) → (len : ℕ) → Type 0
IsUndone code status out out' len = (status ≡ code) × (out' ≡ out) × (len ≡ 0)

-- what is left of a report, or of what there is in its place; a status is below 256
abbrev pub Left : Result Report Fault → (status : ℕ) → (out out' : List ℕ) → (len : ℕ) → Type 0
Left (Ok report) status out out' len = IsHandedOut report status out out' len ⊎ IsTooShort report status out out' len
Left (Err Memory) status out out' len = IsUndone 257 status out out' len
Left (Err Range) status out out' len = IsUndone 258 status out out' len

-- what a call answers and leaves: of a report of the job, or of what there is in its place
pub record Answers (InRange : Type 0) (IsReport : Report → Type 0) (status : ℕ) (out out' : List ℕ) (len : ℕ) : Type 0 where
  pub made : Result Report Fault
  pub right : Made InRange IsReport made
  pub left : Left made status out out' len
