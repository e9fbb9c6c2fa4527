-- What diagnostics about marks are about: a program, where in its text it stands, and what the least certificate says of
-- it.
use Rattle.std.specs.Prelude.{◌≡◌, ℕ, ◌==◌, filter, Bool, true, false, List, [], position, slice_get, is_some, Option, Some, None, Ok}
use Rattle.mips_instructions.specs.Instruction.{released}
use Rattle.task_descriptor.specs.Listing.{Listing, registers, is_conditional}
use Rattle.task_descriptor.specs.declared.descriptor.Marked.{Marked}
use Rattle.task_descriptor.specs.declared.descriptor.Descriptor.{Descriptor}
use Rattle.task_descriptor.specs.declared.descriptor.Stop.{Stop}
use Rattle.task_descriptor.specs.declared.descriptor.Stop.TheVariants as stop
use Rattle.task_graph.specs.Edges.{end_of}
use Rattle.annotated_asm.specs.declared.position.Position.{Position}
use Rattle.annotated_asm.specs.declared.position.Stretch.{Stretch}
use Rattle.annotated_asm.specs.declared.position.TaskLists.{TaskLists}
use Rattle.annotated_asm.specs.Sources.{Sources, sources_of}
use Rattle.annotated_asm.specs.ProgramText.{Spells}
use Rattle.mask_certificate.specs.Lists.{list_of}
use Rattle.diagnostics.specs.declared.diagnostic.Span.{Span}

-- a program whose marks are judged
pub record Judged : Type 0 where
  pub program : Listing
  -- where in its text stands what it says
  pub sources : Sources
  pub least : List (List (ℕ × ℕ))

-- The text spells the judged program, whose items stand at these places.
pub record IsJudged (text : List ℕ) (s : Judged) : Type 0 where
  pub spelled : Spells text s.program
  pub places : sources_of text ≡ Ok s.sources

-- the registers that pass a test, rising
unfoldable pub which : (ℕ → Bool) → List ℕ
which test = filter test registers

-- Tasks, by their numbers.

abbrev pub targets_in : Option Descriptor → List ℕ
targets_in None = []
targets_in (Some d) = d.targets

abbrev pub targets_of : Judged → (task : ℕ) → List ℕ
targets_of s task = targets_in (slice_get s.program.tasks task)

-- the instructions that a task reaches, with the registers that it may still write
abbrev pub entries_of : Judged → (task : ℕ) → List (ℕ × ℕ)
entries_of s task = list_of s.least task

-- Places, by the indices of instructions.

-- the task that begins there, if one does
abbrev pub task_at : Judged → (index : ℕ) → Option ℕ
task_at s j = position (λ (d : Descriptor). d.entry == j) s.program.tasks

abbrev pub is_entry : Judged → (index : ℕ) → Bool
is_entry s j = is_some (task_at s j)

abbrev pub is_end : Option ℕ → (to : ℕ) → Bool
is_end None j = false
is_end (Some k) j = k == j

-- Instructions, by their indices.

abbrev pub released_in : Option Marked → (register : ℕ) → Bool
released_in None r = false
released_in (Some m) r = released m.op r

abbrev pub releases : Judged → (index register : ℕ) → Bool
releases s i r = released_in (slice_get s.program.code i) r

abbrev pub conditional_in : Option Marked → Bool
conditional_in None = false
conditional_in (Some m) = is_conditional m.op

abbrev pub is_branch : Judged → (index : ℕ) → Bool
is_branch s i = conditional_in (slice_get s.program.code i)

abbrev pub stop_in : Option Marked → Stop
stop_in None = stop.None
stop_in (Some m) = m.stop

abbrev pub stop_of : Judged → (index : ℕ) → Stop
stop_of s i = stop_in (slice_get s.program.code i)

-- where an edge ends, if it is there and of that kind
abbrev pub end_in : (leaving : Bool) → Option Marked → (index : ℕ) → (taken : Bool) → Option ℕ
end_in leaving None i taken = None
end_in leaving (Some m) i taken = end_of leaving m i taken

-- where the task ends and goes on to, when a branch is taken, or is not
abbrev pub exit_end : Judged → (index : ℕ) → (taken : Bool) → Option ℕ
exit_end s i taken = end_in true (slice_get s.program.code i) i taken

-- where it goes on to without ending
abbrev pub inner_end : Judged → (index : ℕ) → (taken : Bool) → Option ℕ
inner_end s i taken = end_in false (slice_get s.program.code i) i taken

-- Where it stands. What the map does not have is at the text's first byte.

abbrev pub first_byte : Span
first_byte = record { line = 1; column = 1; width = 1 }

abbrev pub span_of : Option Stretch → Span
span_of None = first_byte
span_of (Some stretch) = record { line = stretch.position.line; column = stretch.position.column; width = stretch.width }

abbrev pub span_at : Option Position → Option ℕ → Span
span_at (Some at) (Some width) = record { line = at.line; column = at.column; width = width }
span_at _ _ = first_byte

-- an instruction, from its mnemonic to its last operand or mark
abbrev pub instruction_span : Judged → (index : ℕ) → Span
instruction_span s index = span_at (slice_get s.sources.code index) (slice_get s.sources.widths index)

-- `.task`, with which a task is declared
abbrev pub task_span : Judged → (task : ℕ) → Span
task_span s task = span_at (slice_get s.sources.tasks task) (Some 5)

-- `create=` of a task with its registers, `targets=` with its targets, and the target of a number
abbrev pub create_in : Option TaskLists → Option Stretch
create_in None = None
create_in (Some lists) = Some lists.create

abbrev pub create_span : Judged → (task : ℕ) → Span
create_span s task = span_of (create_in (slice_get s.sources.lists task))

abbrev pub list_in : Option TaskLists → Option Stretch
list_in None = None
list_in (Some lists) = Some lists.targets

abbrev pub targets_span : Judged → (task : ℕ) → Span
targets_span s task = span_of (list_in (slice_get s.sources.lists task))

abbrev pub target_in : Option (List Stretch) → (number : ℕ) → Option Stretch
target_in None number = None
target_in (Some stretches) number = slice_get stretches number

abbrev pub target_span : Judged → (task number : ℕ) → Span
target_span s task number = span_of (target_in (slice_get s.sources.targets task) number)
