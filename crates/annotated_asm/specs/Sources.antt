-- Where the parts of a program text stand: the line and the column of each instruction, task,
-- label and piece of data, and how far instructions and the lists of tasks reach. Lines, tokens and statements
-- are the assembler's.
use Rattle.std.specs.Prelude.{◌≡◌, ℕ, ◌+◌, ◌-◌, ◌*◌, Bool, true, false, List, [], ◌∷◌, ◌++◌, length, drop, map as each, take_while, slice_get, replicate, Option, Some, None, Result, Ok, Err, nat_lt, if◌then◌else◌}
use Rattle.std.specs.declared.alloc.Global.{Global}
use Rattle.std.specs.declared.vec.Vec.{Vec}
use Rattle.task_descriptor.specs.Listing.{Listing}
use Rattle.program_tokens.specs.Lines.{lines}
use Rattle.program_tokens.specs.Grammar.{line_tokens}
use Rattle.program_tokens.specs.Spans.{line_spans}
use Rattle.program_tokens.specs.declared.token.Token.{Token}
use Rattle.program_tokens.specs.declared.token.Token.TheVariants as token
use Rattle.program_tokens.specs.declared.span.TokenSpan.{TokenSpan}
use Rattle.program_statements.specs.Steps.{◌>>=◌}
use Rattle.program_statements.specs.Statements.{statement_of}
use Rattle.program_statements.specs.declared.statement.Section.{Section}
use Rattle.program_statements.specs.declared.statement.Section.TheVariants.{Text}
use Rattle.program_statements.specs.declared.statement.Statement.{Statement}
use Rattle.program_statements.specs.declared.statement.Statement.TheVariants as statement
use Rattle.annotated_asm.specs.Items.{labels_of, after_labels, on_line, tokens_on_line, section_after}
use Rattle.annotated_asm.specs.Layout.{instruction_count}
use Rattle.annotated_asm.specs.declared.fault.AsmFault.{AsmFault}
use Rattle.annotated_asm.specs.declared.fault.AsmFault.TheVariants as fault
use Rattle.annotated_asm.specs.declared.position.Position.{Position}
use Rattle.annotated_asm.specs.declared.position.Stretch.{Stretch}
use Rattle.annotated_asm.specs.declared.position.TaskLists.{TaskLists}
use Rattle.annotated_asm.specs.declared.position.LabelSource.{LabelSource}
use Rattle.annotated_asm.specs.declared.position.DataSource.{DataSource}
use Rattle.annotated_asm.specs.declared.position.SourceMap.{SourceMap}

-- a source map as lists
pub record Sources : Type 0 where
  pub code : List Position
  pub widths : List ℕ
  pub tasks : List Position
  pub lists : List TaskLists
  pub targets : List (List Stretch)
  pub labels : List LabelSource
  pub pieces : List DataSource
  pub start : Option Position

abbrev pub sources_in : SourceMap → Sources
sources_in map = record {
  code = map.code.items;
  widths = map.widths.items;
  tasks = map.tasks.items;
  lists = map.lists.items;
  targets = each (λ (list : Vec Stretch Global). list.items) map.targets.items;
  labels = map.labels.items;
  pieces = map.pieces.items;
  start = map.start;
}

abbrev pub no_sources : Sources
no_sources = record { code = []; widths = []; tasks = []; lists = []; targets = []; labels = []; pieces = []; start = None }

-- where the token of this number begins, in line n; after the last token, where the line begins
abbrev pub column_of : Option TokenSpan → ℕ
column_of None = 1
column_of (Some span) = span.column

abbrev pub token_position : ℕ → List TokenSpan → ℕ → Position
token_position n spans number = record { line = n; column = column_of (slice_get spans number) }

-- the column after a token's last byte
abbrev pub end_of : Option TokenSpan → ℕ
end_of None = 1
end_of (Some span) = span.column + span.len

-- the number of bytes from the first byte of one token to the last byte of another
abbrev pub width_between : List TokenSpan → (first last : ℕ) → ℕ
width_between spans first last = end_of (slice_get spans last) - column_of (slice_get spans first)

abbrev pub stretch_between : ℕ → List TokenSpan → (first last : ℕ) → Stretch
stretch_between n spans first last = record { position = token_position n spans first; width = width_between spans first last }

-- the labels at the front of a line's tokens, the first of which has this number: each label is two tokens
abbrev pub label_sources : ℕ → List TokenSpan → ℕ → List Token → List LabelSource
label_sources n spans number (token.Name name ∷ token.Colon ∷ rest) =
    record { name = name; position = token_position n spans number } ∷ label_sources n spans (number + 2) rest
label_sources n spans number _ = []

abbrev pub with_labels : Sources → List LabelSource → Sources
with_labels front labels = record front { labels = front.labels ++ labels }

abbrev pub data_source : Section → Position → DataSource
data_source here at = record { section = here; position = at }

-- The number of the word `targets` among the tokens of a `.task NAME create=REGS targets=TS`: it is the first name
-- after `create=`.
abbrev pub is_no_name : Token → Bool
is_no_name (token.Name name) = false
is_no_name _ = true

abbrev pub targets_number : List Token → ℕ
targets_number tokens = 4 + length (take_while is_no_name (drop 4 tokens))

-- `create=REGS` is what stands from the word `create` to the word `targets`, and `targets=TS` is the rest
abbrev pub task_lists : ℕ → List TokenSpan → List Token → TaskLists
task_lists n spans tokens = record {
  create = stretch_between n spans 2 (targets_number tokens - 1);
  targets = stretch_between n spans (targets_number tokens) (length spans - 1);
}

abbrev pub token_stretch : ℕ → TokenSpan → Stretch
token_stretch n span = record { position = record { line = n; column = span.column }; width = span.len }

-- where the targets stand: each is a token, with commas between them
abbrev pub target_stretches : ℕ → List TokenSpan → List Stretch
target_stretches n [] = []
target_stretches n (last ∷ []) = token_stretch n last ∷ []
target_stretches n (first ∷ comma ∷ rest) = token_stretch n first ∷ target_stretches n rest

-- the map with the statement of these tokens, which stand at these places of line n, in a section
abbrev pub with_statement : Sources → (n : ℕ) → List TokenSpan → List Token → Section → Statement → Sources
with_statement front n spans tokens here (statement.Code i marks) = record front {
  code = front.code ++ replicate (instruction_count i) (token_position n spans 0);
  widths = front.widths ++ replicate (instruction_count i) (width_between spans 0 (length spans - 1));
}
with_statement front n spans tokens here (statement.Task task) = record front {
  tasks = front.tasks ++ token_position n spans 0 ∷ [];
  lists = front.lists ++ task_lists n spans tokens ∷ [];
  targets = front.targets ++ target_stretches n (drop (targets_number tokens + 2) spans) ∷ [];
}
with_statement front n spans tokens here (statement.Bytes bytes) =
    record front { pieces = front.pieces ++ data_source here (token_position n spans 0) ∷ [] }
with_statement front n spans tokens here (statement.Space size) =
    record front { pieces = front.pieces ++ data_source here (token_position n spans 0) ∷ [] }
with_statement front n spans tokens here (statement.Start name) = record front { start = Some (token_position n spans 0) }
with_statement front n spans tokens here _ = front

-- The map with one more line, which has this number and section, and the section after it. The statement
-- begins after the labels, which are two tokens each.
unfoldable pub with_line : Sources → ℕ → Section → List ℕ → Result (Sources × Section) AsmFault
with_line front n here line = do
  tokens ← tokens_on_line n (line_tokens line)
  s ← on_line n (statement_of here (after_labels tokens))
  Ok (
    with_statement (with_labels front (label_sources n (line_spans line) 0 tokens)) n
        (drop (2 * length (labels_of tokens)) (line_spans line)) (after_labels tokens) here s,
    section_after here s,
  )

-- the map with these lines, the first of which has this number and section
unfoldable pub with_lines : Sources → ℕ → Section → List (List ℕ) → Result Sources AsmFault
with_lines front n here [] = Ok front
with_lines front n here (line ∷ lines) = do
  next ← with_line front n here line
  with_lines next.0 (n + 1) next.1 lines

-- The source map of a text if each of its lines can be read, else the first fault of a line.
unfoldable pub sources_of : List ℕ → Result Sources AsmFault
sources_of text =
    if nat_lt 4194304 (length text) then Err fault.TooLong else with_lines no_sources 1 Text (lines text)

-- The map has a place for each instruction and each task of the program, and for no other.
pub record HasPlacesOf (s : Sources) (p : Listing) : Type 0 where
  pub code : length s.code ≡ length p.code
  pub widths : length s.widths ≡ length p.code
  pub tasks : length s.tasks ≡ length p.tasks
  pub lists : length s.lists ≡ length p.tasks
  pub targets : length s.targets ≡ length p.tasks
