-- Where labels stand, and what is defined twice.
use Rattle.std.specs.Prelude.{ℕ, ◌+◌, ◌-◌, ◌^◌, min, Bool, true, false, List, [], ◌∷◌, ◌++◌, length, is_some, Result, Ok, Err, nat_lt, ◌||◌}
use Rattle.program_statements.specs.Steps.{◌>>=◌}
use Rattle.annotated_asm.specs.declared.fault.AsmFault.{AsmFault}
use Rattle.annotated_asm.specs.declared.fault.AsmFault.TheVariants as fault
use Rattle.annotated_asm.specs.declared.table.Symbol.{Symbol}
use Rattle.program_statements.specs.declared.statement.Section.{Section}
use Rattle.program_statements.specs.declared.statement.Section.TheVariants as section
use Rattle.program_statements.specs.declared.statement.Instruction.{Instruction}
use Rattle.program_statements.specs.declared.statement.Instruction.TheVariants as instruction
use Rattle.program_statements.specs.declared.statement.Statement.TheVariants as statement
use Rattle.annotated_asm.specs.declared.item.PlacedStatement.{PlacedStatement}
use Rattle.annotated_asm.specs.declared.layout.Sizes.{Sizes}
use Rattle.annotated_asm.specs.declared.layout.Layout.{Layout}
use Rattle.annotated_asm.specs.Tables.{lookup}

-- how many machine instructions an instruction of the text expands to
abbrev pub instruction_count : Instruction → ℕ
instruction_count (instruction.Two a b) = 2
instruction_count (instruction.LoadAddress rd name) = 2
instruction_count _ = 1

-- a section grown by an amount; no text comes near 2 ^ 64, where counting ends
abbrev pub counted : ℕ → ℕ → ℕ
counted size more = min (size + more) (2 ^ 64 - 1)

abbrev pub grown : Sizes → Section → ℕ → Sizes
grown sizes section.Text more = record sizes { code = counted sizes.code more }
grown sizes section.Data more = record sizes { bytes = counted sizes.bytes more }
grown sizes section.Rodata more = record sizes { fixed = counted sizes.fixed more }

-- the index of the next instruction of a section, or the offset of its next byte
abbrev pub size_of : Sizes → Section → ℕ
size_of sizes section.Text = sizes.code
size_of sizes section.Data = sizes.bytes
size_of sizes section.Rodata = sizes.fixed

abbrev pub symbol_at : Sizes → Section → Symbol
symbol_at sizes here = record { section = here; offset = size_of sizes here }

-- the layout plus what an item adds, and what it defines if that is new
abbrev pub if_new : Bool → ℕ → Layout → Result Layout AsmFault
if_new true n layout = Err (fault.Duplicate n)
if_new false n layout = Ok layout

abbrev pub with_item : Layout → PlacedStatement → Result Layout AsmFault
with_item layout item = elim item.statement [
  | statement.Label name ↦ if_new (is_some (lookup layout.labels name)) item.line
      (record layout { labels = layout.labels ++ (name, symbol_at layout.sizes item.section) ∷ [] })
  | statement.Task task ↦ if_new (is_some (lookup layout.tasks task.name)) item.line
      (record layout { tasks = layout.tasks ++ (task.name, symbol_at layout.sizes item.section) ∷ [] })
  | statement.Start name ↦ if_new layout.started item.line (record layout { started = true })
  | statement.Empty ↦ Ok layout
  | statement.Section other ↦ Ok layout
  | statement.Bytes bytes ↦ Ok (record layout { sizes = grown layout.sizes item.section (length bytes) })
  | statement.Space size ↦ Ok (record layout { sizes = grown layout.sizes item.section size })
  | statement.Code i marks ↦ Ok (record layout { sizes = grown layout.sizes item.section (instruction_count i) })
]

abbrev pub no_layout : Layout
no_layout = record {
  sizes = record { code = 0; bytes = 0; fixed = 0 };
  labels = [];
  tasks = [];
  started = false;
}

-- the layout of these items after what is already laid out, or the line of the first that defines a label, a task
-- or the start a second time
abbrev pub laid : Layout → List PlacedStatement → Result Layout AsmFault
laid layout [] = Ok layout
laid layout (item ∷ items) = with_item layout item >>= λ next. laid next items

-- more instructions or bytes than a program may have
abbrev pub is_beyond : Sizes → Bool
is_beyond sizes = nat_lt 4096 sizes.code || nat_lt 65536 sizes.bytes || nat_lt 65536 sizes.fixed
