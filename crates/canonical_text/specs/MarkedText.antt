-- The text of a program with other create masks and forward bits: in each line that has to change, one
-- stretch is replaced, and every other byte of the text stays.
use Rattle.std.specs.Prelude.{◌≡◌, ◌⊎◌, ℕ, ◌+◌, ◌-◌, ◌*◌, ◌<◌, ◌≤◌, ◌==◌, Bool, true, false, List, [], ◌∷◌, ◌++◌, length, take, drop, map, slice_get, codes, Option, Some, None, Result, Ok, Err, if◌then◌else◌}
use Rattle.task_descriptor.specs.Listing.{Listing}
use Rattle.task_descriptor.specs.declared.descriptor.Stop.{Stop}
use Rattle.task_descriptor.specs.declared.descriptor.Stop.TheVariants as stop
use Rattle.task_descriptor.specs.declared.descriptor.Marked.{Marked}
use Rattle.task_descriptor.specs.declared.descriptor.Descriptor.{Descriptor}
use Rattle.program_tokens.specs.Lines.{lines}
use Rattle.program_tokens.specs.Grammar.{is_name_byte, line_tokens}
use Rattle.program_tokens.specs.Spans.{line_spans}
use Rattle.program_tokens.specs.declared.span.TokenSpan.{TokenSpan}
use Rattle.program_tokens.specs.declared.token.Token.{Token}
use Rattle.program_tokens.specs.declared.token.Token.TheVariants as token
use Rattle.program_tokens.specs.declared.token.Mark.TheVariants as mark
use Rattle.program_statements.specs.Steps.{◌>>=◌}
use Rattle.program_statements.specs.Statements.{statement_of}
use Rattle.program_statements.specs.declared.statement.Section.{Section}
use Rattle.program_statements.specs.declared.statement.Section.TheVariants.{Text}
use Rattle.program_statements.specs.declared.statement.Marks.{Marks}
use Rattle.program_statements.specs.declared.statement.Target.{Target}
use Rattle.program_statements.specs.declared.statement.Task.{Task}
use Rattle.program_statements.specs.declared.statement.Statement.{Statement}
use Rattle.program_statements.specs.declared.statement.Statement.TheVariants as statement
use Rattle.annotated_asm.specs.Items.{after_labels, on_line, tokens_on_line, section_after}
use Rattle.annotated_asm.specs.Layout.{instruction_count}
use Rattle.annotated_asm.specs.ProgramText.{Spells}
use Rattle.annotated_asm.specs.declared.fault.AsmFault.{AsmFault}
use Rattle.canonical_text.specs.CanonicalText.{listed, members, register_text}
use Rattle.canonical_text.specs.declared.fault.MarksFault.{MarksFault}
use Rattle.canonical_text.specs.declared.fault.MarksFault.TheVariants as fault

-- How many bytes of a line stand before the end of a token.
abbrev pub behind_token : Option TokenSpan → ℕ
behind_token None = 0
behind_token (Some span) = span.column + span.len - 1

-- The line with other bytes in place of those from the end of one token to the end of another.
abbrev pub replaced : List TokenSpan → (from to : ℕ) → (bytes line : List ℕ) → List ℕ
replaced spans from to bytes line =
    take (behind_token (slice_get spans from)) line ++ (bytes ++ drop (behind_token (slice_get spans to)) line)

-- Forward bits. The tokens and their places are those of the statement, after its labels.

abbrev pub stop_count : Stop → ℕ
stop_count stop.None = 0
stop_count _ = 1

-- `!f` is put after the last operand, with a blank before it
abbrev pub with_forward : List TokenSpan → List Token → Stop → List ℕ → List ℕ
with_forward spans tokens stop line =
    let last = length tokens - (stop_count stop + 1) in replaced spans last last (codes " !f") line

abbrev pub is_forward : Option Token → Bool
is_forward (Some (token.Mark mark.Forward)) = true
is_forward _ = false

-- a `!f` is the last token, or stands before the last one
abbrev pub forward_number : List Token → ℕ
forward_number tokens = length tokens - (if is_forward (slice_get tokens (length tokens - 1)) then 1 else 2)

-- the blanks before a `!f` go with it
abbrev pub without_forward : List TokenSpan → List Token → List ℕ → List ℕ
without_forward spans tokens line = replaced spans (forward_number tokens - 1) (forward_number tokens) [] line

-- the line of an instruction with these marks, whose forward bit is to be this one
abbrev pub code_line : (wanted : Bool) → Marks → List TokenSpan → List Token → List ℕ → List ℕ
code_line true marks spans tokens line = if marks.forward then line else with_forward spans tokens marks.stop line
code_line false marks spans tokens line = if marks.forward then without_forward spans tokens line else line

-- Create masks.

-- how many tokens a list of targets has: a `-`, or the targets with commas between them
abbrev pub list_size : List Target → ℕ
list_size [] = 1
list_size (target ∷ targets) = 1 + 2 * length targets

-- a blank before a byte that would continue a register
abbrev pub separator : List ℕ → List ℕ
separator [] = []
separator (b ∷ bytes) = if is_name_byte b then 32 ∷ [] else []

-- the registers from after `create=` up to the word `targets` are written in their canonical form
abbrev pub with_create : ℕ → List Target → List TokenSpan → List Token → List ℕ → List ℕ
with_create create targets spans tokens line =
    let last = length tokens - (list_size targets + 3) in
    let rest = drop (behind_token (slice_get spans last)) line in
    replaced spans 3 last (listed (map register_text (members create)) ++ separator rest) line

-- the line of a task whose create mask is to be this one
abbrev pub task_line : (wanted : ℕ) → Task → List TokenSpan → List Token → List ℕ → List ℕ
task_line wanted task spans tokens line = if wanted == task.create then line else with_create wanted task.targets spans tokens line

-- Whole texts.

-- A text that is being written, and which of the program's instructions and tasks are still to come.
pub record Written : Type 0 where
  pub text : List ℕ
  pub code : List Marked
  pub tasks : List Descriptor

-- the forward bit of an instruction; where the program has none, that of the text
abbrev pub forward_of : Option Marked → Bool → Bool
forward_of None now = now
forward_of (Some marked) now = marked.forward

abbrev pub create_of : Option Descriptor → ℕ → ℕ
create_of None now = now
create_of (Some task) now = task.create

-- the line of a statement; for an instruction of the text that is two of the machine, the marks are the second's
abbrev pub statement_line : List Marked → List Descriptor → List TokenSpan → List Token → Statement → List ℕ → List ℕ
statement_line code tasks spans tokens (statement.Code i marks) line =
    code_line (forward_of (slice_get code (instruction_count i - 1)) marks.forward) marks spans tokens line
statement_line code tasks spans tokens (statement.Task task) line =
    task_line (create_of (slice_get tasks 0) task.create) task spans tokens line
statement_line code tasks spans tokens _ line = line

-- what is still to come after a statement
abbrev pub code_behind : List Marked → Statement → List Marked
code_behind code (statement.Code i marks) = drop (instruction_count i) code
code_behind code _ = code

abbrev pub tasks_behind : List Descriptor → Statement → List Descriptor
tasks_behind tasks (statement.Task task) = drop 1 tasks
tasks_behind tasks _ = tasks

-- lines have an LF between them
abbrev pub newline_before : ℕ → List ℕ
newline_before n = if n == 1 then [] else 10 ∷ []

-- the tokens of a line's labels, and their places, come before the statement's
abbrev pub own_spans : List ℕ → List Token → List TokenSpan
own_spans line tokens = drop (length tokens - length (after_labels tokens)) (line_spans line)

abbrev pub with_statement : Written → ℕ → List ℕ → List Token → Statement → Written
with_statement front n line tokens s = record {
  text = front.text ++ (newline_before n ++ statement_line front.code front.tasks (own_spans line tokens) (after_labels tokens) s line);
  code = code_behind front.code s;
  tasks = tasks_behind front.tasks s;
}

-- What is written with one more line, which has this number and section, and the section after it.
unfoldable pub with_line : Written → ℕ → Section → List ℕ → Result (Written × Section) AsmFault
with_line front n here line = do
  tokens ← tokens_on_line n (line_tokens line)
  s ← on_line n (statement_of here (after_labels tokens))
  Ok (with_statement front n line tokens s, section_after here s)

-- what is written with these lines, the first of which has this number and section
unfoldable pub with_lines : Written → ℕ → Section → List (List ℕ) → Result Written AsmFault
with_lines front n here [] = Ok front
with_lines front n here (line ∷ lines) = do
  next ← with_line front n here line
  with_lines next.0 (n + 1) next.1 lines

abbrev pub nothing_of : Listing → Written
nothing_of p = record { text = []; code = p.code; tasks = p.tasks }

abbrev pub text_in : Result Written AsmFault → Result (List ℕ) AsmFault
text_in (Ok written) = Ok written.text
text_in (Err fault) = Err fault

-- The text with the create masks and forward bits of a program, if each of its lines can be read.
unfoldable pub marked_text : List ℕ → Listing → Result (List ℕ) AsmFault
marked_text text p = text_in (with_lines (nothing_of p) 1 Text (lines text))

-- What is returned: the text, if it spells the program; else why there is none.
abbrev pub IsAnswer : List ℕ → Listing → Result (List ℕ) MarksFault → Type 0
IsAnswer text p (Ok bytes) = (marked_text text p ≡ Ok bytes) × Spells bytes p
IsAnswer text p (Err fault.TooLong) = (4194304 < length text) ⊎ ((bytes : List ℕ) × (marked_text text p ≡ Ok bytes) × (4194304 < length bytes))
IsAnswer text p (Err fault.Differs) = (bytes : List ℕ) → marked_text text p ≡ Ok bytes → (length bytes ≤ 4194304) × (Spells bytes p → ⊥)
IsAnswer text p (Err fault.OutOfMemory) = Unit {0}
