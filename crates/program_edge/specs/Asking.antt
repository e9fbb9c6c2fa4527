-- What the program is asked for by its words.
use Rattle.std.specs.Prelude.{◌≡◌, ◌⊎◌, ℕ, ◌+◌, ◌<◌, ◌≤◌, ⊤, map, List, if◌then◌else◌, codes, Result, Ok, Err}
use Rattle.std.specs.List.{sum_by}
use Rattle.std.specs.String.{string_bytes}
use Rattle.std.specs.Str.{bytes_eq}
use Rattle.std.specs.declared.alloc.Global.{Global}
use Rattle.std.specs.declared.string.String.{String}
use Rattle.std.specs.declared.vec.Vec.{Vec}
use Rattle.clap.specs.Words.{Text}
use Rattle.jobs.specs.Files.{HasFilesOf}
use Rattle.command_line.specs.Asked.{IsRequestOf, IsFaultOf as IsFaultOfWords}
use Rattle.command_line.specs.declared.request.Request.{Request}
use Rattle.command_line.specs.declared.words.UsageFault.{UsageFault}
use Rattle.program_edge.specs.declared.fault.Fault.{Fault}
use Rattle.program_edge.specs.declared.fault.Fault.TheVariants.{InputTwice, NoText, OutOfMemory}
use Rattle.program_edge.specs.Telling.{IsFaultOf}

-- a file of the name `-` is standard input
abbrev pub input_of : List ℕ → ℕ
input_of name = if bytes_eq name (codes "-") then 1 else 0

-- how many files of a request are standard input, those of further programs, too
abbrev pub input_count : Request → ℕ
input_count request = input_of (string_bytes request.paths.program) + input_of (string_bytes request.paths.certificate)
    + input_of (string_bytes request.paths.script) + sum_by (λ name. input_of (string_bytes name)) request.further.items

-- the words ask for this
abbrev pub Ask : List Text → Request → Type 0
Ask words request = IsRequestOf words request × HasFilesOf request.job request.paths

-- the words ask for a job of which more than one file is standard input
pub record AskForInputTwice (words : List Text) : Type 0 where
  pub request : Request
  pub asked : Ask words request
  pub twice : 1 < input_count request

-- the words ask for no job: the fault that is reported is one that they have
pub record IsTheirFault (words : List Text) (told : Fault) : Type 0 where
  pub fault : UsageFault
  pub theirs : IsFaultOfWords words fault
  pub told_so : IsFaultOf fault told

-- the result of the words: a job of which at most one file is standard input, or why there is none
abbrev pub IsAskedBy : List Text → Result Request Fault → Type 0
IsAskedBy words (Ok asked) = Ask words asked × (input_count asked ≤ 1)
IsAskedBy words (Err InputTwice) = AskForInputTwice words
IsAskedBy words (Err told) = IsTheirFault words told

-- what is known of the words of a process: nothing, that one of them is no text, or which they are
pub data KnownWords : Type 0 where
  AnyWords : KnownWords
  NotAllTexts : KnownWords
  Are : List Text → KnownWords

-- what reading them gives
abbrev pub AreWordsOf : KnownWords → Result (Vec (String Global) Global) Fault → Type 0
AreWordsOf AnyWords (Ok read) = ⊤
AreWordsOf NotAllTexts (Ok read) = ⊥
AreWordsOf (Are words) (Ok read) = map string_bytes read.items ≡ words
AreWordsOf (Are words) (Err fault) = fault ≡ OutOfMemory
AreWordsOf known (Err fault) = (fault ≡ NoText) ⊎ (fault ≡ OutOfMemory)

-- what a process is asked for whose words are known so far: the job that these words ask for, or their
-- fault; `NoText` where one of them is no text. Memory may run out
abbrev pub IsAskedOf : KnownWords → Result Request Fault → Type 0
IsAskedOf AnyWords asked = (asked ≡ Err NoText) ⊎ ((words : List Text) × IsAskedBy words asked)
IsAskedOf NotAllTexts asked = (asked ≡ Err NoText) ⊎ (asked ≡ Err OutOfMemory)
IsAskedOf (Are words) asked = IsAskedBy words asked
