-- What the program says of a fault, where, and its status.
use Rattle.std.specs.Prelude.{◌≡◌, ℕ, Bool, true, false, List, [], ◌∷◌, ◌++◌, ◌&&◌, if◌then◌else◌, codes, Option, Some, None, IfSome}
use Rattle.std.specs.Io.KnownBytes.{Appends, Keeps}
use Rattle.std.specs.Str.{bytes_eq}
use Rattle.std.specs.String.{string_bytes}
use Rattle.program_edge.specs.declared.fault.Fault.{Fault}
use Rattle.program_edge.specs.declared.fault.Fault.TheVariants.{Help, Words, NoText, Predict, Emit, PredictValues, EmitValues, OutOfMemory, InputTwice, File, Explained, NoProgram, Serve}
use Rattle.program_edge.specs.declared.unread.Unread.{Unread}
use Rattle.jobs.specs.declared.job.Job.{Job}
use Rattle.jobs.specs.declared.job.Job.TheVariants.{Check, Explain}
use Rattle.jobs.specs.declared.job.CertificateSource.TheVariants.{Least}
use Rattle.clap.specs.Values.{kind_of}
use Rattle.clap.specs.declared.error.kind.ErrorKind.{ErrorKind}
use Rattle.clap.specs.declared.error.kind.ErrorKind.TheVariants as kind
use Rattle.command_line.specs.declared.words.UsageFault.{UsageFault}
use Rattle.command_line.specs.declared.words.UsageFault.TheVariants as usage
use Rattle.verdict_report.specs.FaultText.{serve_fault_text}
use Rattle.result_files.specs.Writing.{Begins}
use Rattle.shown_names.specs.Shown.{shown}

-- help or the version, which the words asked for
abbrev pub is_shown : ErrorKind → Bool
is_shown kind.DisplayHelp = true
is_shown kind.DisplayVersion = true
is_shown _ = false

-- a line that names a fault
abbrev pub line : (name : List ℕ) → List ℕ
line name = codes "multiscalar: " ++ (name ++ 10 ∷ [])

-- a line that names a file, as it is shown
abbrev pub file_line : (path : List ℕ) → List ℕ
file_line path = codes "multiscalar: file " ++ (shown path ++ 10 ∷ [])

-- the text for a fault, where its words are fixed: that of `clap`, or one line. Why a file is of no use is tested
abbrev pub said_of : Fault → Option (List ℕ)
said_of (Help usage) = Some (string_bytes usage.text)
said_of (Words usage) = Some (string_bytes usage.text)
said_of NoText = Some (line (codes "1 Words"))
said_of Predict = Some (line (codes "2 Predict"))
said_of PredictValues = Some (line (codes "2 Predict: the value of --predict is first, last, or 1 to 64 numbers 0 to 15 separated by commas, as in 1,0"))
said_of Emit = Some (line (codes "3 Emit"))
said_of EmitValues = Some (line (codes "3 Emit: the value of --emit is text, cert, keep or marks"))
said_of OutOfMemory = Some (line (codes "4 OutOfMemory"))
said_of InputTwice = Some (line (codes "5 InputTwice: only one file can be - (standard input)"))
said_of (Serve fault) = Some (line (serve_fault_text fault))
said_of (File path) = Some (file_line (string_bytes path))
said_of _ = None

-- help is no fault
abbrev pub is_help : Fault → Bool
is_help (Help usage) = true
is_help _ = false

-- a fault was reported: help on standard output, any other fault on standard error, and the other stream stays as it
-- was; the status is 0 for help that was written whole, else 2. Where not all of it was written, what went out is a
-- beginning of it
abbrev pub IsTold : Fault → (status : ℕ) → (is_told : Bool) → (output output' errors errors' : Option (List ℕ)) → Type 0
IsTold fault status is_told output output' errors errors' =
    (status ≡ (if is_help fault && is_told then 0 else 2))
    × (is_told ≡ true → IfSome (said_of fault) (Appends (if is_help fault then output else errors) (if is_help fault then output' else errors')))
    × IfSome (said_of fault) (Begins (if is_help fault then output else errors) (if is_help fault then output' else errors'))
    × Keeps (if is_help fault then errors else output) (if is_help fault then errors' else output')

-- the fault of a file that gives no text: `explain` and `check --least` say why
abbrev pub unread_fault : Job → Unread → Fault
unread_fault (Explain name certificate script warnings format colors) unread =
    if bytes_eq (string_bytes unread.path) (string_bytes name) then NoProgram unread else Explained unread
unread_fault (Check Least workers format) unread = NoProgram unread
unread_fault _ unread = File unread.path

-- a terminal hears which values there are
abbrev pub told_as : (is_terminal : Bool) → Fault → Fault
told_as true Predict = PredictValues
told_as true Emit = EmitValues
told_as _ fault = fault

-- the fault of the words: of `clap`'s own faults the text that is made of it
abbrev pub IsFaultOf : UsageFault → Fault → Type 0
IsFaultOf (usage.Words error) (Help text) = (text.error ≡ error) × (is_shown (kind_of error) ≡ true)
IsFaultOf (usage.Words error) (Words text) = (text.error ≡ error) × (is_shown (kind_of error) ≡ false)
IsFaultOf (usage.Words error) fault = fault ≡ OutOfMemory
IsFaultOf usage.Predict fault = fault ≡ Predict
IsFaultOf usage.Emit fault = fault ≡ Emit
IsFaultOf usage.OutOfMemory fault = fault ≡ OutOfMemory
