-- Reading the text of a certificate: the certificate whose text it is in one of the two spellings, or
-- the first fault. A fault of the first line comes first, then the first line with a fault of its own,
-- then a task without a line, then lists that do not rise.
use Rattle.std.specs.Prelude.{◌≡◌, ℕ, ◌+◌, ◌^◌, Bool, true, false, ◌&&◌, ◌||◌, not, List, [], ◌∷◌, length, map, drop, Option, None, Some, is_none, Result, Ok, Err, nat_eq, nat_lt, nat_le, ◌==◌, if◌then◌else◌, slice_index, codes}
use Rattle.std.specs.Char.{is_ascii_digit, digit_value}
use Rattle.std.specs.Int.{is_in_range}
use Rattle.std.specs.List.{list_all, All, before_first, after_first, slice_split, starts_with}
use Rattle.std.specs.Str.{bytes_eq}
use Rattle.std.specs.Str.Parse.{digits_value}
use Rattle.task_descriptor.specs.Names.{is_name}
use Rattle.task_descriptor.specs.Listing.{Listing}
use Rattle.task_descriptor.specs.declared.descriptor.Descriptor.{Descriptor}
use Rattle.mask_certificate.specs.declared.fault.CertFault.{CertFault}
use Rattle.mask_certificate.specs.declared.fault.CertFault.TheVariants.{Header, Line, TaskName, MissingTask, Shape, OutOfMemory}
use Rattle.mask_certificate.specs.declared.fault.MaskSpelling.{MaskSpelling}
use Rattle.mask_certificate.specs.declared.fault.MaskSpelling.TheVariants.{Narrow, Wide}
use Rattle.mask_certificate.specs.Lists.{first_fault}
use Rattle.mask_certificate.specs.CertificateText.{first_line, mask_digits}

-- an index: 1 to 5 decimal digits without leading zeros
abbrev pub is_index : List ℕ → Bool
is_index digits = nat_le 1 (length digits) && (nat_le (length digits) 5 && (not (slice_index digits 0 == 48 && nat_lt 1 (length digits)) && list_all is_ascii_digit digits))

abbrev pub index_in : List ℕ → Option ℕ
index_in digits = if is_index digits then Some (digits_value 10 digits) else None

-- `0` to `9` and `a` to `f`
abbrev pub is_mask_digit : ℕ → Bool
is_mask_digit byte = is_ascii_digit byte || is_in_range 97 102 byte

-- the value of a digit of a mask; for any other byte, a value above every mask
abbrev pub mask_digit : ℕ → ℕ
mask_digit byte = if is_mask_digit byte then digit_value byte else 2 ^ 34

-- a mask: as many digits as the spelling prescribes, and no bit above 33
abbrev pub is_mask : MaskSpelling → List ℕ → Bool
is_mask spelling digits = length digits == mask_digits spelling && (list_all is_mask_digit digits && nat_lt (digits_value 16 digits) (2 ^ 34))

abbrev pub mask_in : MaskSpelling → List ℕ → Option ℕ
mask_in spelling digits = if is_mask spelling digits then Some (digits_value 16 digits) else None

abbrev pub both : Option ℕ → Option ℕ → Option (ℕ × ℕ)
both None mask = None
both (Some index) None = None
both (Some index) (Some mask) = Some (index, mask)

abbrev pub is_space : ℕ → Bool
is_space byte = byte == 32

-- the entry of a line, which is given without its LF
abbrev pub entry_in : MaskSpelling → List ℕ → Option (ℕ × ℕ)
entry_in spelling line = both (index_in (before_first is_space line)) (mask_in spelling (after_first is_space line))

-- the name of a `task` line
abbrev pub name_in : List ℕ → Option (List ℕ)
name_in line = if starts_with nat_eq line (codes "task ") && is_name (drop 5 line) then Some (drop 5 line) else None

-- what a line is
pub data Judged : Type 0 where
  entry_line : ℕ × ℕ → Judged
  task_line : List ℕ → Judged
  no_line : Judged

abbrev pub judged_by : Option (ℕ × ℕ) → Option (List ℕ) → Judged
judged_by (Some entry) name = entry_line entry
judged_by None (Some name) = task_line name
judged_by None None = no_line

abbrev pub judged : MaskSpelling → List ℕ → Judged
judged spelling line = judged_by (entry_in spelling line) (name_in line)

-- The lines among the parts between LFs: the last part is what follows the last LF, so it counts as no
-- line, and as nothing at all where every line ends with LF.
abbrev pub lines_of : MaskSpelling → List (List ℕ) → List Judged
lines_of spelling [] = []
lines_of spelling (last ∷ []) = if length last == 0 then [] else no_line ∷ []
lines_of spelling (part ∷ next ∷ parts) = judged spelling part ∷ lines_of spelling (next ∷ parts)

abbrev pub is_newline : ℕ → Bool
is_newline byte = byte == 10

abbrev pub lines_in : MaskSpelling → List ℕ → List Judged
lines_in spelling text = lines_of spelling (slice_split is_newline text)

-- the entries before the first line that is not an entry
abbrev pub entries_in : List Judged → List (ℕ × ℕ)
entries_in [] = []
entries_in (entry_line entry ∷ lines) = entry ∷ entries_in lines
entries_in (task_line name ∷ lines) = []
entries_in (no_line ∷ lines) = []

infixl 10 ◌>>=◌
abbrev pub ◌>>=◌ : {A B : Type 0} → Result A CertFault → (A → Result B CertFault) → Result B CertFault
(Ok x) >>= f = f x
(Err fault) >>= f = Err fault

-- whether a line is the `task` line of this name
abbrev pub opens : List ℕ → Judged → Bool
opens name (entry_line entry) = false
opens name (task_line found) = bytes_eq found name
opens name no_line = false

-- what is wrong with line n where another `task` line, or no line at all, has to stand
abbrev pub misplaced : ℕ → Judged → CertFault
misplaced n (entry_line entry) = Line n
misplaced n (task_line found) = TaskName n
misplaced n no_line = Line n

-- the lines after the `task` line of this name, where the first of these lines, line n, is that line
abbrev pub behind_task_line : ℕ → List ℕ → List Judged → Result (List Judged) CertFault
behind_task_line n name [] = Err MissingTask
behind_task_line n name (line ∷ lines) = if opens name line then Ok lines else Err (misplaced n line)

-- nothing is left from line n on
abbrev pub at_end : ℕ → List Judged → Result (List (List (ℕ × ℕ))) CertFault
at_end n [] = Ok []
at_end n (line ∷ lines) = Err (misplaced n line)

-- the lists that the lines from line n on spell for the tasks of these names
abbrev pub lists_at : ℕ → List (List ℕ) → List Judged → Result (List (List (ℕ × ℕ))) CertFault
lists_at n [] lines = at_end n lines
lists_at n (name ∷ names) lines = do
  rest ← behind_task_line n name lines
  lists ← lists_at (n + 1 + length (entries_in rest)) names (drop (length (entries_in rest)) rest)
  Ok (entries_in rest ∷ lists)

-- lists that rise
abbrev pub rising : List (List (ℕ × ℕ)) → Result (List (List (ℕ × ℕ))) CertFault
rising lists = if is_none (first_fault 0 lists) then Ok lists else Err Shape

-- the lists that the text after the first line spells
abbrev pub body_of : MaskSpelling → List ℕ → List (List ℕ) → Result (List (List (ℕ × ℕ))) CertFault
body_of spelling text names = lists_at 2 names (lines_in spelling text) >>= rising

-- the spelling that the first line of a text names
abbrev pub spelling_of : List ℕ → Option MaskSpelling
spelling_of text = if starts_with nat_eq text (first_line Wide) then Some Wide else (if starts_with nat_eq text (first_line Narrow) then Some Narrow else None)

abbrev pub parse_by : Option MaskSpelling → List ℕ → List (List ℕ) → Result (List (List (ℕ × ℕ))) CertFault
parse_by None text names = Err Header
parse_by (Some spelling) text names = body_of spelling (drop 7 text) names

-- what a text is for the tasks of these names
abbrev pub cert_parse : List ℕ → List (List ℕ) → Result (List (List (ℕ × ℕ))) CertFault
cert_parse text names = parse_by (spelling_of text) text names

-- the names of tasks, in order
abbrev pub names_in : List Descriptor → List (List ℕ)
names_in tasks = map (λ task. task.name) tasks

-- the names of a program's tasks
abbrev pub names_of : Listing → List (List ℕ)
names_of program = names_in program.tasks

abbrev pub AreNames : List (List ℕ) → Type 0
AreNames names = All (λ name. is_name name ≡ true) names

-- A function of the crate gives what reading gives, seen by view, unless memory ran out.
abbrev pub Fails : {Y : Type 0} → CertFault → Result Y CertFault → Type 0
Fails OutOfMemory read = Unit {0}
Fails fault read = read ≡ Err fault

abbrev pub Gives : {X Y : Type 0} → (X → Y) → Result X CertFault → Result Y CertFault → Type 0
Gives view (Ok x) read = read ≡ Ok (view x)
Gives view (Err fault) read = Fails fault read
