-- What words and the values of a subcommand ask for, and when they have one of the two faults that have a name of their
-- own. What the words of an option stand for is said here of `--predict`, and of `--emit` of `annotate`.
use Rattle.std.specs.Prelude.{◌≡◌, ◌||◌, ◌≢◌, ℕ, Bool, true, false, not, List, [], map, Option, Some, None, ⊤, Contains, if◌then◌else◌, codes, is_some, option_and_then, slice_get, unwrap_or}
use Rattle.std.specs.String.{string_bytes}
use Rattle.std.specs.Option.{option_map, option_map_or}
use Rattle.std.specs.Str.{bytes_eq}
use Rattle.std.specs.Str.Parse.{digits_value, without_leading_plus}
use Rattle.clap.specs.Words.{Row, Text, all_of, first_of, found_of, kind_of, one_of, rows_of}
use Rattle.clap.specs.ValueTests.{is_unsigned_in}
use Rattle.clap.specs.declared.parser.matches.ArgMatches.{ArgMatches}
use Rattle.clap.specs.declared.error.kind.ErrorKind.TheVariants as kind
use Rattle.clap.specs.declared.error.Error.{Error}
use Rattle.jobs.specs.Files.{has_certificate, has_script, is_in_file}
use Rattle.jobs.specs.declared.job.CertificateSource.{CertificateSource}
use Rattle.jobs.specs.declared.job.CertificateSource.TheVariants.{Least}
use Rattle.jobs.specs.declared.job.Emit.{Emit}
use Rattle.jobs.specs.declared.job.Prediction.{Prediction}
use Rattle.jobs.specs.declared.job.Warnings.{Warnings}
use Rattle.jobs.specs.declared.job.Warnings.TheVariants.{Silent, Told, AsErrors}
use Rattle.jobs.specs.declared.job.Job.{Job}
use Rattle.jobs.specs.declared.job.Job.TheVariants.{Seq, Print, Annotate, Explain, Check, Replay, ReplayStrictly, Run, Curve, Demonstrate}
use Rattle.jobs.specs.declared.job.Paths.{Paths}
use Rattle.command_line.specs.Words.{emit_of, prediction_of}
use Rattle.command_line.specs.declared.request.Request.{Request}
use Rattle.command_line.specs.declared.words.UsageFault.{UsageFault}
use Rattle.command_line.specs.declared.words.UsageFault.TheVariants.{Words, Predict, Emit as EmitFault, OutOfMemory}

-- the values of a subcommand's files and options
abbrev pub values_in : ArgMatches → List Row
values_in matches = rows_of (found_of matches)

-- each value of a file, in the order of the words
abbrev pub values_at : Text → List Row → List Text
values_at id values = unwrap_or (all_of id values) []

-- a number of 32 bits in decimal digits, where a plus may stand first
abbrev pub number_of : Text → Option ℕ
number_of text =
    if is_unsigned_in 0 4294967295 text then Some (digits_value 10 (without_leading_plus text)) else None

-- the value of an option with a number
abbrev pub number_at : Text → List Row → Option ℕ
number_at id values = option_and_then number_of (one_of id values)

-- an option without a value is given
abbrev pub is_given : Text → List Row → Bool
is_given id values = option_map_or (λ word. bytes_eq word (codes "true")) (first_of id values) false

-- the value of `--predict`
abbrev pub predict_in : List Row → Option Prediction
predict_in values = option_and_then prediction_of (first_of (codes "predict") values)

-- the value of `--emit` of `annotate`
abbrev pub emit_in : List Row → Option Emit
emit_in values =
    emit_of (unwrap_or (first_of (codes "emit") values) (if is_given (codes "in-place") values || is_given (codes "releases") values then codes "marks" else codes "text"))

-- what `explain` does about marks that cost speed
abbrev pub warnings_in : List Row → Warnings
warnings_in values =
    if is_given (codes "no-warnings") values then Silent
    else (if is_given (codes "werror") values then AsErrors else Told)

-- the certificate is in a file exactly where `--least` is not given
abbrev pub IsSource : List Row → CertificateSource → Type 0
IsSource values source = is_in_file source ≡ not (is_given (codes "least") values)

-- a subcommand of this name with these values gives the job: each number, file and flag is the value of its own name
abbrev pub Gives : Text → List Row → Job → Type 0
Gives name values (Seq budget) = (name ≡ codes "seq") × (number_at (codes "budget") values ≡ Some budget)
Gives name values (Print listing) = (name ≡ codes "print") × (listing ≡ is_given (codes "listing") values)
Gives name values (Annotate emit) = (name ≡ codes "annotate") × (emit_in values ≡ Some emit)
Gives name values (Explain file certificate script warnings format colors) = (name ≡ codes "explain")
    × (first_of (codes "program") values ≡ Some (string_bytes file))
    × (first_of (codes "certificate") values ≡ option_map string_bytes certificate)
    × (first_of (codes "script") values ≡ option_map string_bytes script)
    × (warnings ≡ warnings_in values)
Gives name values (Check source workers format) =
    (name ≡ codes "check") × IsSource values source × (number_at (codes "workers") values ≡ Some workers)
Gives name values (Replay source units emit until) = (name ≡ codes "replay") × IsSource values source
    × (number_at (codes "units") values ≡ Some units) × (number_at (codes "until") values ≡ until)
    × (is_given (codes "strict") values ≡ false)
Gives name values (ReplayStrictly source units complete format) = (name ≡ codes "replay") × IsSource values source
    × (number_at (codes "units") values ≡ Some units) × (number_at (codes "until") values ≡ None)
    × (is_given (codes "strict") values ≡ true) × (is_given (codes "complete") values ≡ complete)
Gives name values (Run source schedule units workers budget predict emit) = (name ≡ codes "run") × IsSource values source
    × (number_at (codes "units") values ≡ Some units) × (workers ≡ unwrap_or (number_at (codes "workers") values) units)
    × (number_at (codes "budget") values ≡ Some budget) × (predict_in values ≡ Some predict)
Gives name values (Curve source units budget predict emit) = (name ≡ codes "curve") × IsSource values source
    × (number_at (codes "units") values ≡ Some units) × (number_at (codes "budget") values ≡ Some budget)
    × (predict_in values ≡ Some predict)
Gives name values (Demonstrate units steps emit) = (name ≡ codes "demonstrate")
    × (number_at (codes "units") values ≡ Some units) × (number_at (codes "steps") values ≡ Some steps)

-- where the script stands: of `replay` without a certificate in its place
abbrev pub place_of_script : Job → Text
place_of_script (Explain file certificate script warnings format colors) = codes "script"
place_of_script job = if has_certificate job then codes "script" else codes "certificate"

-- each file of the job has the name that stands in its place
abbrev pub Names : List Row → Job → Paths → Type 0
Names values job paths = (first_of (codes "program") values ≡ Some (string_bytes paths.program))
    × (has_certificate job ≡ true → first_of (codes "certificate") values ≡ Some (string_bytes paths.certificate))
    × (has_script job ≡ true → first_of (place_of_script job) values ≡ Some (string_bytes paths.script))

-- the file of this name, where it is not `-`, standard output
abbrev pub but_standard : Text → Option Text
but_standard name = if bytes_eq name (codes "-") then None else Some name

-- the file that is named for a result, none for standard output
abbrev pub file_in : List Row → Option Text
file_in values =
    if is_given (codes "in-place") values then first_of (codes "program") values
    else option_and_then but_standard (first_of (codes "output") values)

-- the file that takes the result, none for standard output, and the one that takes the text with fixes: the file that is
-- named is one or the other
abbrev pub destination_in : List Row → Option Text
destination_in values = if is_given (codes "fix") values then None else file_in values

abbrev pub fixes_in : List Row → Option Text
fixes_in values = if is_given (codes "fix") values then file_in values else None

-- the programs after the first
abbrev pub further_in : Job → List Row → List Text
further_in (Explain file certificate script warnings format colors) values = values_at (codes "further") values
further_in (Check Least workers format) values = values_at (codes "certificate") values
further_in _ values = []

-- the request of a subcommand of this name with these values
abbrev pub IsRequested : Text → List Row → Request → Type 0
IsRequested name values request = Gives name values request.job × Names values request.job request.paths
    × (option_map string_bytes request.output ≡ destination_in values)
    × (option_map string_bytes request.fixes ≡ fixes_in values)
    × (is_some request.fixes ≡ is_given (codes "fix") values)
    × (map string_bytes request.further.items ≡ further_in request.job values)
    × (request.releases ≡ is_given (codes "releases") values)
    × (request.report ≡ is_given (codes "report") values)
    × (request.progress ≡ is_given (codes "progress") values)

-- only `run` has the fault `Predict`, and only `annotate` the fault `Emit`, where the value stands for nothing
abbrev pub Refuses : Text → List Row → UsageFault → Type 0
Refuses name values Predict = (name ≡ codes "run") × (predict_in values ≡ None)
Refuses name values EmitFault = (name ≡ codes "annotate") × (emit_in values ≡ None)
Refuses name values fault = ⊤

-- the words ask for this: the second names a subcommand, whose values give the request, and one is the program's file
pub record IsRequestOf (words : List Text) (request : Request) : Type 0 where
  pub name : Text
  pub subcommand : slice_get words 1 ≡ Some name
  pub values : List Row
  pub requested : IsRequested name values request
  pub program : Contains words (string_bytes request.paths.program)

-- a fault that the words can have
abbrev pub IsFaultOf : List Text → UsageFault → Type 0
IsFaultOf words Predict = slice_get words 1 ≡ Some (codes "run")
IsFaultOf words EmitFault = slice_get words 1 ≡ Some (codes "annotate")
IsFaultOf words fault = ⊤

-- a fault of `clap`'s, or memory ran out
abbrev pub IsFrom : Error → UsageFault → Type 0
IsFrom error (Words same) = (same ≡ error) × (kind_of error ≢ kind.OutOfMemory)
IsFrom error fault = (fault ≡ OutOfMemory) × (kind_of error ≡ kind.OutOfMemory)
