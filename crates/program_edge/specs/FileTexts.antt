-- Which files give the texts of a job, which file is at fault, and why.
use Rattle.std.specs.Prelude.{◌≡◌, ◌≢◌, ◌≤◌, ◌+◌, ◌==◌, nat_le, ℕ, Bool, true, false, if◌then◌else◌, List, [], codes, length, take, ⊤, Option, Some, Result, Ok, Err}
use Rattle.std.specs.IoError.{error_kind}
use Rattle.std.specs.List.{after_last}
use Rattle.std.specs.Str.{bytes_eq}
use Rattle.std.specs.String.{string_bytes}
use Rattle.std.specs.declared.io.Error.{Error}
use Rattle.std.specs.declared.io.ErrorKind.{ErrorKind}
use Rattle.std.specs.declared.io.ErrorKind.TheVariants as kind
use Rattle.std.specs.declared.string.String.{String}
use Rattle.std.specs.declared.alloc.Global.{Global}
use Rattle.jobs.specs.declared.job.Job.{Job}
use Rattle.jobs.specs.declared.job.Paths.{Paths}
use Rattle.jobs.specs.declared.job.Texts.{Texts}
use Rattle.jobs.specs.Files.{has_certificate, has_script}
use Rattle.program_edge.specs.declared.unread.UnreadReason.{UnreadReason}
use Rattle.program_edge.specs.declared.unread.UnreadReason.TheVariants.{NoSuchFile, IsDirectory, NotPermitted, TooLong, OutOfMemory, Other}
use Rattle.program_edge.specs.declared.unread.Unread.{Unread}

-- what is known of a file: nothing, that opening it fails with an error of this kind, or the bytes that it
-- holds
pub data Known : Type 0 where
  Unknown : Known
  Refuses : ErrorKind → Known
  Holds : List ℕ → Known

-- why a file is not opened, for the kind of the error
abbrev pub opening_reason : ErrorKind → UnreadReason
opening_reason kind.NotFound = NoSuchFile
opening_reason kind.IsADirectory = IsDirectory
opening_reason kind.PermissionDenied = NotPermitted
opening_reason kind.OutOfMemory = OutOfMemory
opening_reason _ = Other

-- an open file has left what is known of it, and a file that can't be opened fails as is known. A file that
-- holds bytes is opened unless memory runs out
abbrev pub OpensAs : {F : Type 0} → (F → Option (List ℕ)) → Known → Result F Error → Type 0
OpensAs remaining Unknown opened = ⊤
OpensAs remaining (Refuses kind) (Ok file) = ⊥
OpensAs remaining (Refuses kind) (Err error) = error_kind error ≡ kind
OpensAs remaining (Holds bytes) (Ok file) = remaining file ≡ Some bytes
OpensAs remaining (Holds bytes) (Err error) = error_kind error ≡ kind.OutOfMemory

-- the most bytes of a program text, and of any other file
abbrev pub most_program : ℕ
most_program = 4194304

abbrev pub most_file : ℕ
most_file = 134217728

-- why a file of which this is known may not be read. Too long is none of these: then it was read
abbrev pub IsUnread : Known → UnreadReason → Type 0
IsUnread Unknown reason = reason ≢ TooLong
IsUnread (Refuses kind) reason = reason ≡ opening_reason kind
IsUnread (Holds bytes) reason = reason ≡ OutOfMemory

-- why an open file of which this is known is not read: one that holds bytes is read unless memory runs out
abbrev pub IsUnreadOpen : Known → UnreadReason → Type 0
IsUnreadOpen (Refuses kind) reason = ⊤
IsUnreadOpen known reason = IsUnread known reason

-- what reading a file may find: its bytes, or the first `most + 1` of them; or why it can't be read
abbrev pub IsFound : Known → (most : ℕ) → Result (List ℕ) UnreadReason → Type 0
IsFound Unknown most (Ok found) = length found ≤ most + 1
IsFound (Refuses kind) most (Ok found) = ⊥
IsFound (Holds bytes) most (Ok found) = found ≡ take (most + 1) bytes
IsFound known most (Err reason) = IsUnread known reason

-- the text of a file beside the program: whole, empty where the job has no such file, and none where it
-- can't be read or is too long
abbrev pub text_of : (is_there : Bool) → Result (List ℕ) UnreadReason → Result (List ℕ) UnreadReason
text_of false found = Ok []
text_of true (Err reason) = Err reason
text_of true (Ok found) = if nat_le (length found) most_file then Ok found else Err TooLong

-- the part of a path that follows its last slash, or all of it
abbrev pub last_part : (path : List ℕ) → List ℕ
last_part path = after_last (λ b. b == 47) path

-- the name that pictures give the program in the file of this path; standard input has none
abbrev pub program_name : (path : List ℕ) → List ℕ
program_name path = if bytes_eq path (codes "-") then [] else last_part path

-- the file of this path gives no text, for this reason
abbrev pub Names : Unread → String Global → UnreadReason → Type 0
Names unread path reason = (unread.path ≡ path) × (unread.reason ≡ reason)

-- the texts of a job, with the name of its program, or the first file, in the order program, certificate,
-- script, that gives none
abbrev pub Gives : Job → Paths → (program certificate script : Result (List ℕ) UnreadReason) → Result Texts Unread → Type 0
Gives job paths program certificate script (Ok texts) =
    (string_bytes texts.name ≡ program_name (string_bytes paths.program))
    × (program ≡ Ok texts.program.items)
    × (certificate ≡ Ok texts.certificate)
    × (script ≡ Ok texts.script.items)
Gives job paths (Err reason) certificate script (Err unread) = Names unread paths.program reason
Gives job paths (Ok program) (Err reason) script (Err unread) = Names unread paths.certificate reason
Gives job paths (Ok program) (Ok certificate) (Err reason) (Err unread) = Names unread paths.script reason
Gives job paths (Ok program) (Ok certificate) (Ok script) (Err unread) = ⊥

-- the texts of a job, or why there are none, for what was found in each file
pub record AreTextsOf (known : List ℕ → Known) (job : Job) (paths : Paths) (result : Result Texts Unread) : Type 0 where
  pub program : Result (List ℕ) UnreadReason
  pub certificate : Result (List ℕ) UnreadReason
  pub script : Result (List ℕ) UnreadReason
  pub found_program : IsFound (known (string_bytes paths.program)) most_program program
  pub found_certificate : IsFound (known (string_bytes paths.certificate)) most_file certificate
  pub found_script : IsFound (known (string_bytes paths.script)) most_file script
  pub gives : Gives job paths program (text_of (has_certificate job) certificate) (text_of (has_script job) script) result
