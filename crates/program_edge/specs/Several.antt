-- What becomes of several programs, each of which gets the job in turn.
use Rattle.std.specs.Prelude.{◌≡◌, ◌≢◌, ◌⊎◌, ℕ, Bool, true, false, nat_eq, List, [], ◌∷◌, ◌++◌, ⊤, map, flat_map, codes, None, Result, Ok, Err, ◌&&◌}
use Rattle.std.specs.List.{starts_with}
use Rattle.std.specs.String.{string_bytes}
use Rattle.std.specs.declared.alloc.Global.{Global}
use Rattle.std.specs.declared.string.String.{String}
use Rattle.jobs.specs.declared.job.CheckFormat.TheVariants.{Text as Lines, Json as Objects}
use Rattle.jobs.specs.declared.job.Format.TheVariants.{Sarif, Json}
use Rattle.jobs.specs.declared.job.Job.{Job}
use Rattle.jobs.specs.declared.job.Job.TheVariants.{Explain, Check}
use Rattle.jobs.specs.declared.job.Texts.{Texts}
use Rattle.report_texts.specs.OutputTexts.{Report}
use Rattle.verdict_report.specs.JobTexts.{IsReportOf}
use Rattle.verdict_report.specs.declared.fault.ServeFault.TheVariants as serve
use Rattle.program_edge.specs.declared.fault.Fault.TheVariants.{Serve}
use Rattle.program_edge.specs.declared.part.Part.{Part as Made}
use Rattle.program_edge.specs.declared.summary.ProgramVerdict.{ProgramVerdict}
use Rattle.program_edge.specs.declared.summary.ProgramVerdict.TheVariants.{Unjudged}
use Rattle.program_edge.specs.declared.summary.ProgramTally.{ProgramTally}
use Rattle.program_edge.specs.declared.told.Answered.{Answered}
use Rattle.program_edge.specs.declared.unread.UnreadReason.{UnreadReason}
use Rattle.program_edge.specs.declared.unread.UnreadReason.TheVariants.{OutOfMemory}
use Rattle.program_edge.specs.FileTexts.{Known, IsFound, most_program}
use Rattle.program_edge.specs.Hints.{IsHint, explains}
use Rattle.program_edge.specs.Streams.{IsCut, IsToldAlone, IsWritten, World}
use Rattle.program_edge.specs.Summaries.{judged_by, tally_of, worst_status}

-- what the two streams get for a program, and what it counts as
pub record Part : Type 0 where
  pub output : List ℕ
  pub errors : List ℕ
  pub judged : ProgramVerdict

-- a part, as contracts see it
abbrev pub seen : Made → Part
seen made = record { output = made.output.items; errors = made.errors.items; judged = made.judged }

-- a program that is not judged, of which this is told
abbrev pub unjudged : (told : List ℕ) → Part
unjudged told = record { output = []; errors = told; judged = Unjudged }

abbrev pub IsUnjudged : Part → Type 0
IsUnjudged part = (told : List ℕ) × (part ≡ unjudged told)

-- how a report is told among others: what a log has of it comes last; how the lines of `check` name their file is tested
abbrev pub IsAmongOthers : Job → (text said : List ℕ) → Type 0
IsAmongOthers (Check source workers Lines) text said = ⊤
IsAmongOthers (Explain first certificate script warnings Sarif colors) text said = said ≡ []
IsAmongOthers _ text said = said ≡ text

-- `explain` takes no text for a program that begins as a certificate does
abbrev pub is_certificate : Job → (text : List ℕ) → Bool
is_certificate job text = explains job && starts_with nat_eq text (codes "cert ")

-- the job for the program of this name
abbrev pub IsJobFor : (asked : Job) → (name : List ℕ) → Job → Type 0
IsJobFor (Explain first certificate script warnings format colors) name job =
    (own : String Global) × (job ≡ Explain own None None warnings format colors) × (string_bytes own ≡ name)
IsJobFor asked name job = job ≡ asked

-- the part of a program with this report
pub record IsPartWith (is_terminal : Bool) (asked : Job) (report : Report) (part : Part) : Type 0 where
  pub output : IsAmongOthers asked report.bytes part.output
  pub silent : IsHint is_terminal asked report.status part.errors
  pub judged : part.judged ≡ judged_by report.status

-- the job has its report of this text, with no text beside it
pub record IsJudged (is_terminal : Bool) (asked : Job) (name text : List ℕ) (part : Part) : Type 0 where
  pub job : Job
  pub own : IsJobFor asked name job
  pub texts : Texts
  pub alone : (texts.program.items ≡ text) × (texts.certificate ≡ []) × (texts.script.items ≡ [])
  pub report : Report
  pub right : IsReportOf job texts report
  pub said : IsPartWith is_terminal asked report part

-- the part of a text, for whether it is taken for a certificate
abbrev pub IsPartOfText : (is_certificate is_terminal : Bool) → (asked : Job) → (name text : List ℕ) → Part → Type 0
IsPartOfText true is_terminal asked name text part = IsUnjudged part
IsPartOfText false is_terminal asked name text part = IsJudged is_terminal asked name text part

-- the part of a program of which this was found. Want of memory is none of the reasons: it ends all
abbrev pub IsPartOfFound : (is_terminal : Bool) → (asked : Job) → (name : List ℕ) → Result (List ℕ) UnreadReason → Part → Type 0
IsPartOfFound is_terminal asked name (Ok text) part = IsPartOfText (is_certificate asked text) is_terminal asked name text part
IsPartOfFound is_terminal asked name (Err reason) part = (reason ≢ OutOfMemory) × IsUnjudged part

-- the part of the program of this name
pub record IsPartOf (is_terminal : Bool) (known : List ℕ → Known) (asked : Job) (name : List ℕ) (part : Part) : Type 0 where
  pub found : Result (List ℕ) UnreadReason
  pub read : IsFound (known name) most_program found
  pub said : IsPartOfFound is_terminal asked name found part

-- the parts of these programs
abbrev pub ArePartsOf : (is_terminal : Bool) → (known : List ℕ → Known) → (asked : Job) → List (String Global) → List Part → Type 0
ArePartsOf is_terminal known asked [] [] = ⊤
ArePartsOf is_terminal known asked (name ∷ names) (part ∷ parts) =
    IsPartOf is_terminal known asked (string_bytes name) part × ArePartsOf is_terminal known asked names parts
ArePartsOf is_terminal known asked names parts = ⊥

-- what programs add to standard output and to standard error, and their tally
abbrev pub outputs_of : List Part → List ℕ
outputs_of parts = flat_map (λ part. part.output) parts

abbrev pub errors_of : List Part → List ℕ
errors_of parts = flat_map (λ part. part.errors) parts

abbrev pub tally_of_parts : List Part → ProgramTally
tally_of_parts parts = tally_of (map (λ part. part.judged) parts)

-- memory ran out, which is reported
abbrev pub IsOutOfMemory : Answered → World → World → Type 0
IsOutOfMemory ending old new = IsToldAlone (Serve serve.OutOfMemory) ending old new

-- what comes last: nothing after objects, else a log of all programs or the summary, whose text is tested
abbrev pub IsLast : Job → (last : List ℕ) → Type 0
IsLast (Explain first certificate script warnings Json colors) last = last ≡ []
IsLast (Check source workers Objects) last = last ≡ []
IsLast _ last = ⊤

-- it was written, and the status is the worst of all
abbrev pub IsSummedUp : ProgramTally → (last : List ℕ) → Answered → World → World → Type 0
IsSummedUp tally last ending old new =
    (ending ≡ record { status = worst_status tally; is_told = true }) × IsWritten last [] old new

-- it ended at this program: memory ran out, or a stream did not take its part
abbrev pub EndsAt : (is_terminal : Bool) → (known : List ℕ → Known) → (asked : Job) → (name : List ℕ) → Answered → World → World → Type 0
EndsAt is_terminal known asked name ending old new = IsOutOfMemory ending old new
    ⊎ ((part : Part) × IsPartOf is_terminal known asked name part × IsCut part.output part.errors ending old new)

-- what comes last was to be written
abbrev pub Sums : (asked : Job) → ProgramTally → Answered → World → World → Type 0
Sums asked tally ending old new = IsOutOfMemory ending old new
    ⊎ ((last : List ℕ) × IsLast asked last × (IsSummedUp tally last ending old new ⊎ IsCut last [] ending old new))

-- the end, after programs with this tally, where these are left: with the summary, if nothing fails
abbrev pub Ends : (is_terminal : Bool) → (known : List ℕ → Known) → (asked : Job) → (left : List (String Global)) → ProgramTally → Answered → World → World → Type 0
Ends is_terminal known asked [] tally ending old new = Sums asked tally ending old new
Ends is_terminal known asked (name ∷ names) tally ending old new = EndsAt is_terminal known asked (string_bytes name) ending old new

-- the programs of these names had their turn, from the first on, as far as nothing ended it
pub record IsEach (is_terminal : Bool) (known : List ℕ → Known) (asked : Job) (names : List (String Global)) (ending : Answered) (old new : World) : Type 0 where
  pub done : List (String Global)
  pub left : List (String Global)
  pub order : names ≡ done ++ left
  pub parts : List Part
  pub each : ArePartsOf is_terminal known asked done parts
  pub between : World
  pub written : IsWritten (outputs_of parts) (errors_of parts) old between
  pub ends : Ends is_terminal known asked left (tally_of_parts parts) ending between new
