-- How the program ends, for what it was asked and what its files hold.
use Rattle.std.specs.Prelude.{◌≡◌, ◌⊎◌, ℕ, nat_le, Bool, true, false, List, [], ◌∷◌, length, Option, Some, None, Result, Ok, Err}
use Rattle.std.specs.Io.KnownBytes.{Appends, Keeps}
use Rattle.std.specs.Option.{option_map}
use Rattle.std.specs.String.{string_bytes}
use Rattle.std.specs.declared.string.String.{String}
use Rattle.std.specs.declared.alloc.Global.{Global}
use Rattle.jobs.specs.declared.job.Job.{Job}
use Rattle.jobs.specs.declared.job.Job.TheVariants.{Explain}
use Rattle.jobs.specs.declared.job.Texts.{Texts}
use Rattle.jobs.specs.declared.job.Warnings.{Warnings}
use Rattle.command_line.specs.declared.request.Request.{Request}
use Rattle.report_texts.specs.OutputTexts.{Report}
use Rattle.explain_report.specs.declared.repairing.Repaired.{Repaired}
use Rattle.explain_report.specs.Repairs.{IsRepaired}
use Rattle.verdict_report.specs.declared.fault.ServeFault.{ServeFault}
use Rattle.verdict_report.specs.declared.fault.ServeFault.TheVariants as serve
use Rattle.verdict_report.specs.Delivering.{is_cut}
use Rattle.verdict_report.specs.JobTexts.{IsCutOff, IsReportOf}
use Rattle.result_files.specs.Files.{ChangesAt, Files, Same}
use Rattle.result_files.specs.declared.unwritten.Unwritten.{Unwritten}
use Rattle.program_edge.specs.declared.fault.Fault.{Fault}
use Rattle.program_edge.specs.declared.fault.Fault.TheVariants.{NotWritten, Serve}
use Rattle.program_edge.specs.declared.unread.Unread.{Unread}
use Rattle.program_edge.specs.declared.told.Answered.{Answered}
use Rattle.program_edge.specs.FileTexts.{Known, AreTextsOf, most_program}
use Rattle.program_edge.specs.Asking.{KnownWords, IsAskedOf}
use Rattle.program_edge.specs.Beside.{Audience, IsBeside}
use Rattle.program_edge.specs.Colouring.{IsSettled}
use Rattle.program_edge.specs.Hints.{IsSaid}
use Rattle.program_edge.specs.Refusals.{is_refusal}
use Rattle.program_edge.specs.Releases.{IsReportWith}
use Rattle.program_edge.specs.Several.{IsEach}
use Rattle.program_edge.specs.Streams.{IsBroken, IsToldAlone, World}
use Rattle.program_edge.specs.Telling.{IsTold, told_as, unread_fault}

-- the job was not done: before the fault is reported, after Write and PartWritten a beginning of its report was written,
-- after another fault nothing
pub record IsNotDone (job : Job) (texts : Texts) (ending : Answered) (old new : World) : Type 0 where
  pub fault : ServeFault
  pub output : Option (List ℕ)
  pub nothing : is_cut fault ≡ false → Keeps old.output output
  pub begun : is_cut fault ≡ true → IsCutOff job texts old.output output
  pub told : IsTold (Serve fault) ending.status ending.is_told output new.output old.errors new.errors
  pub files : Same old.files new.files

-- a file took these bytes, and holds nothing else, and no other changed; where there is no such file, none changed
abbrev pub IsFiled : (watched : Bool) → (place : Option (String Global)) → (bytes : List ℕ) → (old new : Files) → Type 0
IsFiled watched None bytes old new = Same old new
IsFiled watched (Some path) bytes old new = (watched ≡ true → new (string_bytes path) ≡ Some bytes) × ChangesAt old new (string_bytes path)

-- a file did not take them: it is as it was, for the reason that the fault has
pub record IsUnfiled (place : Option (String Global)) (fault : Fault) (old new : Files) : Type 0 where
  pub path : String Global
  pub asked : place ≡ Some path
  pub reason : Unwritten
  pub told : fault ≡ NotWritten path reason
  pub stays : new (string_bytes path) ≡ old (string_bytes path)
  pub others : ChangesAt old new (string_bytes path)

-- a file took `kept`, if there is one, standard output `said`, and standard error `beside`
pub record IsHandedOver (watched : Bool) (place : Option (String Global)) (kept said beside : List ℕ) (status : ℕ) (ending : Answered) (old new : World) : Type 0 where
  pub answered : ending.status ≡ status
  pub filed : IsFiled watched place kept old.files new.files
  pub written : Appends old.output new.output said
  pub told : IsSaid beside ending.is_told old.errors new.errors

-- the file did not take it, which is reported, and standard output got nothing
pub record IsNotKept (place : Option (String Global)) (ending : Answered) (old new : World) : Type 0 where
  pub fault : Fault
  pub unfiled : IsUnfiled place fault old.files new.files
  pub told : IsTold fault ending.status ending.is_told old.output new.output old.errors new.errors

-- all was handed over; or the file did not take its part, or standard output failed
abbrev pub IsDelivery : (watched : Bool) → (place : Option (String Global)) → (kept said beside : List ℕ) → (status : ℕ) → Answered → World → World → Type 0
IsDelivery watched place kept said beside status ending old new = IsHandedOver watched place kept said beside status ending old new
    ⊎ (IsNotKept place ending old new ⊎ (IsFiled watched place kept old.files new.files × IsBroken said ending old new))

-- the file that takes a report: none takes a refusal
abbrev pub place_of : (place : Option (String Global)) → (is_refusal : Bool) → Option (String Global)
place_of None is_refusal = None
place_of (Some path) true = None
place_of (Some path) false = Some path

-- what standard output gets of a report that this file takes
abbrev pub said_at : (place : Option (String Global)) → (bytes : List ℕ) → List ℕ
said_at None bytes = bytes
said_at (Some path) bytes = []

-- a report went where it was asked for, and what is told beside it, behind a line
pub record IsGiven (watched : Bool) (audience : Audience) (line : List ℕ) (place : Option (String Global)) (job : Job) (program : List ℕ) (report : Report) (ending : Answered) (old new : World) : Type 0 where
  pub beside : List ℕ
  pub told : IsBeside audience line job program report beside
  pub taker : Option (String Global)
  pub taken : taker ≡ place_of place (is_refusal job report.status report.bytes)
  pub delivery : IsDelivery watched taker report.bytes (said_at taker report.bytes) beside report.status ending old new

-- the job has its report, which was given
pub record IsDelivered (watched : Bool) (audience : Audience) (place : Option (String Global)) (job : Job) (texts : Texts) (ending : Answered) (old new : World) : Type 0 where
  pub report : Report
  pub right : IsReportOf job texts report
  pub given : IsGiven watched audience [] place job texts.program.items report ending old new

-- it was delivered, or not done, after standard error had heard how far the job is, if `progress` asks for that
pub record IsServed (progress watched : Bool) (audience : Audience) (place : Option (String Global)) (job : Job) (texts : Texts) (ending : Answered) (old new : World) : Type 0 where
  pub heard : Option (List ℕ)
  pub quiet : progress ≡ false → heard ≡ old.errors
  pub ends : IsDelivered watched audience place job texts ending (record old { errors = heard }) new
      ⊎ IsNotDone job texts ending (record old { errors = heard }) new

-- a program was explained: a file took its text with fixes; then standard output took what is said of the text as it was,
-- and standard error how many fixes there are
pub record IsRepairDelivered (watched : Bool) (path : String Global) (certificate script : Option (String Global)) (warnings : Warnings) (texts : Texts) (ending : Answered) (old new : World) : Type 0 where
  pub repaired : Repaired
  pub right : IsRepaired (option_map string_bytes certificate) (option_map string_bytes script) warnings texts.program.items texts.certificate texts.script.items repaired
  pub delivery : IsDelivery watched (Some path) repaired.text repaired.said.items repaired.line.items repaired.status ending old new

-- the job has its report with the releases that pay, which was given; how the line says that is tested
pub record IsReleaseDelivered (watched : Bool) (audience : Audience) (place : Option (String Global)) (job : Job) (texts : Texts) (ending : Answered) (old new : World) : Type 0 where
  pub report : Report
  pub right : IsReportWith job texts report
  pub line : List ℕ
  pub given : IsGiven watched audience line place job texts.program.items report ending old new

abbrev pub IsReleaseServed : (watched : Bool) → Audience → (place : Option (String Global)) → Job → Texts → Answered → World → World → Type 0
IsReleaseServed watched audience place job texts ending old new =
    IsReleaseDelivered watched audience place job texts ending old new ⊎ IsToldAlone (Serve serve.OutOfMemory) ending old new

-- a program text was read to its end
abbrev pub is_whole : Texts → Bool
is_whole texts = nat_le (length texts.program.items) most_program

-- with a file for the text with fixes: a text that was cut when it was read is explained alone
abbrev pub IsFixed : (is_whole progress watched : Bool) → Audience → (path : String Global) → Job → Texts → Answered → World → World → Type 0
IsFixed true progress watched audience path (Explain name certificate script warnings format colors) texts ending old new =
    IsRepairDelivered watched path certificate script warnings texts ending old new ⊎ IsToldAlone (Serve serve.OutOfMemory) ending old new
IsFixed whole progress watched audience path job texts ending old new = IsServed progress watched audience None job texts ending old new

-- how the program ends on the texts of a request, with a file for the text with fixes, with releases, or with neither
abbrev pub IsServedWith : (fixes : Option (String Global)) → (releases watched : Bool) → Audience → Request → Texts → Answered → World → World → Type 0
IsServedWith None true watched audience request texts ending old new =
    IsReleaseServed watched audience request.output request.job texts ending old new
IsServedWith None false watched audience request texts ending old new =
    IsServed request.progress watched audience request.output request.job texts ending old new
IsServedWith (Some path) releases watched audience request texts ending old new =
    IsFixed (is_whole texts) request.progress watched audience path request.job texts ending old new

-- the hint beside the report names the program's file; `is_terminal` says whether standard error is a terminal
abbrev pub IsEnding : (watched is_terminal : Bool) → Request → Result Texts Unread → Answered → World → World → Type 0
IsEnding watched is_terminal request (Ok texts) ending old new =
    IsServedWith request.fixes request.releases watched (record { is_terminal = is_terminal; wants_rest = request.report; name = string_bytes request.paths.program }) request texts ending old new
IsEnding watched is_terminal request (Err unread) ending old new = IsToldAlone (unread_fault request.job unread) ending old new

-- the texts of the job were read, and the job served
pub record IsRead (watched is_terminal : Bool) (known : List ℕ → Known) (request : Request) (ending : Answered) (old new : World) : Type 0 where
  pub read : Result Texts Unread
  pub texts : AreTextsOf known request.job request.paths read
  pub ends : IsEnding watched is_terminal request read ending old new

-- how the program ends on a request of one program, or of several: then the reports go to standard output
abbrev pub IsAnsweredFor : (watched is_terminal : Bool) → (known : List ℕ → Known) → Request → (further : List (String Global)) → Answered → World → World → Type 0
IsAnsweredFor watched is_terminal known request [] ending old new = IsRead watched is_terminal known request ending old new
IsAnsweredFor watched is_terminal known request (name ∷ names) ending old new =
    IsEach is_terminal known request.job (request.paths.program ∷ (name ∷ names)) ending old new

-- how the program ends on a request, or on a fault of its words
abbrev pub IsAnswered : (watched is_terminal : Bool) → (known : List ℕ → Known) → (asked : Result Request Fault) → Answered → World → World → Type 0
IsAnswered watched is_terminal known (Ok request) ending old new =
    IsAnsweredFor watched is_terminal known request request.further.items ending old new
IsAnswered watched is_terminal known (Err fault) ending old new = IsToldAlone (told_as is_terminal fault) ending old new

-- a run of the program on words and files of which this is known; `watched` says whether it is known what the
-- files that it writes hold, and `is_terminal` whether standard error is a terminal
pub record IsRunOf (watched is_terminal : Bool) (words : KnownWords) (known : List ℕ → Known) (status : ℕ) (old new : World) : Type 0 where
  pub asked : Result Request Fault
  pub by_words : IsAskedOf words asked
  pub settled : Result Request Fault
  pub colored : IsSettled asked settled
  pub ending : Answered
  pub answered : IsAnswered watched is_terminal known settled ending old new
  pub ended : status ≡ ending.status
