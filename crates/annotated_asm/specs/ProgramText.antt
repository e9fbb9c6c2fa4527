-- The program that a text spells, or the first fault of the text.
use Rattle.std.specs.Prelude.{◌≡◌, ℕ, List, length, Option, Some, None, Result, Ok, Err, nat_lt, if◌then◌else◌}
use Rattle.program_tokens.specs.Lines.{lines}
use Rattle.task_descriptor.specs.Listing.{Listing, build_fault}
use Rattle.task_descriptor.specs.declared.program.BuildFault.{BuildFault}
use Rattle.task_descriptor.specs.declared.program.BuildFault.TheVariants.{TooMany}
use Rattle.program_statements.specs.Steps.{◌>>=◌}
use Rattle.annotated_asm.specs.Items.{items_from}
use Rattle.annotated_asm.specs.Layout.{laid, no_layout, is_beyond}
use Rattle.annotated_asm.specs.Resolve.{known, parts, no_parts}
use Rattle.annotated_asm.specs.declared.fault.AsmFault.{AsmFault}
use Rattle.annotated_asm.specs.declared.fault.AsmFault.TheVariants as fault
use Rattle.program_statements.specs.declared.statement.Section.TheVariants.{Text}
use Rattle.annotated_asm.specs.declared.item.PlacedStatement.{PlacedStatement}
use Rattle.annotated_asm.specs.declared.layout.Layout.{Layout}

-- a well-formed program
abbrev pub built : Listing → Option BuildFault → Result Listing AsmFault
built p None = Ok p
built p (Some f) = Err (fault.Build f)

-- the program of items whose layout is known
unfoldable pub program_of : List PlacedStatement → Layout → Result Listing AsmFault
program_of items layout = do
  _ ← known layout.labels items
  if is_beyond layout.sizes then Err (fault.Build TooMany) else (do
    p ← parts layout.labels no_parts items
    built p (build_fault p))

-- Judged in this order: the length (1); each line, the first with a fault (2 to 7); what is defined twice
-- (8); names that are no labels of the wanted kind (9); parts that make no well-formed program (10).
unfoldable pub parse : List ℕ → Result Listing AsmFault
parse text =
    if nat_lt 4194304 (length text) then Err fault.TooLong
    else (do
      items ← items_from 1 Text (lines text)
      layout ← laid no_layout items
      program_of items layout)

-- the text spells the program
abbrev pub Spells : List ℕ → Listing → Type 0
Spells text p = parse text ≡ Ok p
