-- Reading the text of an event script: the events that its lines spell, or the first line
-- that spells none. The lines are `assign NAME`, `exec K`, `transfer K $R`, `drain K $R`, `squash K`,
-- `retire`, `fault` and `drop K`, where K is a position in the queue of units and R a register.
use Rattle.std.specs.Prelude.{ℕ, zero, suc, ◌+◌, ◌-◌, Bool, false, ◌&&◌, ◌||◌, not, List, [], ◌∷◌, ◌++◌, length, map, take, drop, position, Option, None, Some, Result, Ok, Err, nat_lt, nat_le, ◌==◌, if◌then◌else◌, codes}
use Rattle.std.specs.Char.{is_ascii_digit}
use Rattle.std.specs.List.{list_all, slice_split}
use Rattle.std.specs.Str.{bytes_eq}
use Rattle.std.specs.Str.Parse.{digits_value}
use Rattle.task_descriptor.specs.Names.{is_name}
use Rattle.task_descriptor.specs.Listing.{Listing}
use Rattle.task_descriptor.specs.declared.descriptor.Descriptor.{Descriptor}
use Rattle.machine_model.specs.declared.event.Event.{Event}
use Rattle.machine_model.specs.declared.event.Event.TheVariants.{Assign, Exec, Transfer, Drain, Squash, Retire, Fault, Drop}
use Rattle.event_script.specs.declared.fault.ScriptFault.{ScriptFault}
use Rattle.event_script.specs.declared.fault.ScriptFault.TheVariants.{Line, TaskName}
use Rattle.event_script.specs.declared.bad_line.BadLine.{BadLine}
use Rattle.event_script.specs.declared.fault.EventFault.{EventFault}
use Rattle.event_script.specs.declared.fault.EventFault.TheVariants.{NoEvent, TooFew, TooMany, NoPosition, NoRegister, NoName, NoTask}

-- ---- the lines of a text

abbrev pub is_newline : ℕ → Bool
is_newline byte = byte == 10

-- without the last part where it is empty
abbrev pub without_empty_last : List (List ℕ) → List (List ℕ)
without_empty_last [] = []
without_empty_last (last ∷ []) = if length last == 0 then [] else last ∷ []
without_empty_last (part ∷ next ∷ parts) = part ∷ without_empty_last (next ∷ parts)

-- the lines, each without the LF at its end, which the last may lack
abbrev pub lines : List ℕ → List (List ℕ)
lines text = without_empty_last (slice_split is_newline text)

-- ---- the words of a line

abbrev pub is_space : ℕ → Bool
is_space byte = byte == 32

-- one space stands between two words, so between two spaces there is an empty word
abbrev pub words : List ℕ → List (List ℕ)
words line = slice_split is_space line

-- a number is 1 to 3 decimal digits without leading zeros
abbrev pub has_leading_zero : List ℕ → Bool
has_leading_zero [] = false
has_leading_zero (digit ∷ []) = false
has_leading_zero (first ∷ second ∷ digits) = first == 48

abbrev pub is_number : List ℕ → Bool
is_number word = nat_le 1 (length word) && (nat_le (length word) 3 && (not (has_leading_zero word) && list_all is_ascii_digit word))

abbrev pub number_in : List ℕ → Option ℕ
number_in word = if is_number word then Some (digits_value 10 word) else None

-- the number, where it is one of a register, 0 to 33
abbrev pub if_register : Option ℕ → Option ℕ
if_register None = None
if_register (Some number) = if nat_lt number 34 then Some number else None

-- a register is `$` and its number
abbrev pub register_in : List ℕ → Option ℕ
register_in [] = None
register_in (first ∷ word) = if first == 36 then if_register (number_in word) else None

-- ---- the event that a line spells

-- how many words follow the first word of an event; None: no event begins with this word
abbrev pub operand_count : (verb : List ℕ) → Option ℕ
operand_count verb =
    if bytes_eq verb (codes "retire") || bytes_eq verb (codes "fault") then Some 0
    else (if bytes_eq verb (codes "transfer") || bytes_eq verb (codes "drain") then Some 2
    else (if bytes_eq verb (codes "assign") || bytes_eq verb (codes "exec") || bytes_eq verb (codes "squash") || bytes_eq verb (codes "drop") then Some 1
    else None))

-- What is wrong with this many words after a first word, if they make no event: no event begins so, they are
-- too few or too many, or else `wrong`.
abbrev pub misfit : (wanted : Option ℕ) → (count : ℕ) → (wrong : EventFault) → EventFault
misfit None count wrong = NoEvent
misfit (Some wanted) count wrong =
    if nat_lt count wanted then TooFew
    else (if nat_lt wanted count then TooMany (wanted + 1)
    else wrong)

-- of a word that stands alone
abbrev pub alone : List ℕ → Result Event EventFault
alone verb =
    if bytes_eq verb (codes "retire") then Ok Retire
    else (if bytes_eq verb (codes "fault") then Ok Fault
    else Err (misfit (operand_count verb) 0 NoEvent))

abbrev pub if_task : Option ℕ → Result Event EventFault
if_task None = Err NoTask
if_task (Some task) = Ok (Assign task)

-- the assignment of the task of a name
abbrev pub assigned : List (List ℕ) → List ℕ → Result Event EventFault
assigned names name = if is_name name then if_task (position (λ other. bytes_eq other name) names) else Err NoName

-- of a verb and a position
abbrev pub at_position : List ℕ → Option ℕ → Result Event EventFault
at_position verb None = Err (misfit (operand_count verb) 1 NoPosition)
at_position verb (Some k) =
    if bytes_eq verb (codes "exec") then Ok (Exec k)
    else (if bytes_eq verb (codes "squash") then Ok (Squash k)
    else (if bytes_eq verb (codes "drop") then Ok (Drop k)
    else Err (misfit (operand_count verb) 1 NoEvent)))

-- of a verb and one word after it
abbrev pub with_one : List (List ℕ) → (verb word : List ℕ) → Result Event EventFault
with_one names verb word = if bytes_eq verb (codes "assign") then assigned names word else at_position verb (number_in word)

-- of a verb, a position and a register
abbrev pub with_two : List ℕ → (position register : Option ℕ) → Result Event EventFault
with_two verb None register = Err (misfit (operand_count verb) 2 NoPosition)
with_two verb (Some k) None = Err (misfit (operand_count verb) 2 NoRegister)
with_two verb (Some k) (Some r) =
    if bytes_eq verb (codes "transfer") then Ok (Transfer k r)
    else (if bytes_eq verb (codes "drain") then Ok (Drain k r)
    else Err (misfit (operand_count verb) 2 NoEvent))

-- of the words of a line, with the names of the tasks
abbrev pub event_of : List (List ℕ) → (words : List (List ℕ)) → Result Event EventFault
event_of names [] = Err NoEvent
event_of names (verb ∷ []) = alone verb
event_of names (verb ∷ word ∷ []) = with_one names verb word
event_of names (verb ∷ first ∷ second ∷ []) = with_two verb (number_in first) (register_in second)
event_of names (verb ∷ first ∷ second ∷ third ∷ more) = Err (misfit (operand_count verb) 3 NoEvent)

abbrev pub event_in : List (List ℕ) → (line : List ℕ) → Result Event EventFault
event_in names line = event_of names (words line)

-- ---- where a line goes wrong

-- what stands before the first space of a text, and after it; nothing where there is none
abbrev pub in_front_of : (space : Option ℕ) → (text : List ℕ) → List ℕ
in_front_of None text = text
in_front_of (Some k) text = take k text

abbrev pub behind : (space : Option ℕ) → (text : List ℕ) → List ℕ
behind None text = []
behind (Some k) text = drop (k + 1) text

abbrev pub first_word : List ℕ → List ℕ
first_word text = in_front_of (position is_space text) text

-- a line from the word of this number on, counted from 0
abbrev pub from_word : ℕ → (line : List ℕ) → List ℕ
from_word zero line = line
from_word (suc k) line = behind (position is_space (from_word k line)) (from_word k line)

-- a part of a line: how many bytes stand before it, and its bytes
pub record LinePart : Type 0 where
  pub before : ℕ
  pub bytes : List ℕ

abbrev pub part_from : (line rest bytes : List ℕ) → LinePart
part_from line rest bytes = record { before = length line - length rest; bytes = bytes }

abbrev pub word_at : ℕ → (line : List ℕ) → LinePart
word_at k line = part_from line (from_word k line) (first_word (from_word k line))

-- the word that is wrong; for too few words, the line's end; for too many, all the extra words
abbrev pub wrong_part : EventFault → (line : List ℕ) → LinePart
wrong_part NoEvent line = word_at 0 line
wrong_part TooFew line = record { before = length line; bytes = [] }
wrong_part (TooMany words) line = part_from line (from_word words line) (from_word words line)
wrong_part NoPosition line = word_at 1 line
wrong_part NoRegister line = word_at 2 line
wrong_part NoName line = word_at 1 line
wrong_part NoTask line = word_at 1 line

-- ---- the events of the lines, or the first line with a fault

abbrev pub fault_at : ℕ → EventFault → ScriptFault
fault_at n NoTask = TaskName n
fault_at n _ = Line n

abbrev pub at_line : ℕ → Result Event EventFault → Result Event ScriptFault
at_line n (Ok event) = Ok event
at_line n (Err fault) = Err (fault_at n fault)

infixl 10 ◌>>=◌
abbrev pub ◌>>=◌ : {A B : Type 0} → Result A ScriptFault → (A → Result B ScriptFault) → Result B ScriptFault
(Ok x) >>= f = f x
(Err fault) >>= f = Err fault

-- the events of the lines from line n on
abbrev pub events_from : ℕ → List (List ℕ) → (lines : List (List ℕ)) → Result (List Event) ScriptFault
events_from n names [] = Ok []
events_from n names (line ∷ lines) = do
  event ← at_line n (event_in names line)
  events ← events_from (n + 1) names lines
  Ok (event ∷ events)

-- what a text is as a script, with the names of the tasks in their order; lines are counted from 1
abbrev pub script_parse : List ℕ → List (List ℕ) → Result (List Event) ScriptFault
script_parse text names = events_from 1 names (lines text)

-- the names of tasks, in order
abbrev pub names_in : List Descriptor → List (List ℕ)
names_in tasks = map (λ task. task.name) tasks

-- what a text is as a script for a program
abbrev pub script_of : Listing → List ℕ → Result (List Event) ScriptFault
script_of program text = script_parse text (names_in program.tasks)

-- ---- all lines with a fault

-- line n spells no event, and why
abbrev pub bad_line : (n : ℕ) → Result Event EventFault → List BadLine
bad_line n (Ok event) = []
bad_line n (Err fault) = record { line = n; fault = fault } ∷ []

-- those of the lines from line n on
abbrev pub bad_from : (n : ℕ) → List (List ℕ) → (lines : List (List ℕ)) → List BadLine
bad_from n names [] = []
bad_from n names (line ∷ lines) = bad_line n (event_in names line) ++ bad_from (n + 1) names lines

-- all lines of a text that spell no event for a program, in their order
abbrev pub bad_lines : Listing → List ℕ → List BadLine
bad_lines program text = bad_from 1 (names_in program.tasks) (lines text)

-- what a script with such lines is refused for: the first of them
abbrev pub first_bad : List BadLine → Option ScriptFault
first_bad [] = None
first_bad (bad ∷ more) = Some (fault_at bad.line bad.fault)
