-- The program that items make, with their names resolved.
use Rattle.std.specs.Prelude.{ℕ, ◌+◌, ◌*◌, ◌/◌, ◌%◌, ◌^◌, Bool, true, ◌&&◌, List, [], ◌∷◌, ◌++◌, replicate, Option, Some, None, is_some, Result, Ok, Err, nat_le, if◌then◌else◌}
use Rattle.std.specs.List.{list_all}
use Rattle.mips_instructions.specs.declared.instruction.Op.{Op}
use Rattle.mips_instructions.specs.declared.instruction.Op.TheVariants as op
use Rattle.mips_instructions.specs.declared.instruction.LogicKind.TheVariants.{Ori}
use Rattle.task_descriptor.specs.Listing.{Listing}
use Rattle.task_descriptor.specs.declared.descriptor.Marked.{Marked}
use Rattle.task_descriptor.specs.declared.descriptor.Descriptor.{Descriptor}
use Rattle.task_descriptor.specs.declared.program.BuildFault.TheVariants.{TooMany}
use Rattle.program_statements.specs.Steps.{◌>>=◌}
use Rattle.annotated_asm.specs.Tables.{Names, lookup}
use Rattle.program_statements.specs.Statements.{no_marks}
use Rattle.annotated_asm.specs.declared.fault.AsmFault.{AsmFault}
use Rattle.annotated_asm.specs.declared.fault.AsmFault.TheVariants as fault
use Rattle.annotated_asm.specs.declared.table.Symbol.{Symbol}
use Rattle.program_statements.specs.declared.statement.Section.{Section}
use Rattle.program_statements.specs.declared.statement.Section.TheVariants as section
use Rattle.program_statements.specs.declared.statement.Target.{Target}
use Rattle.program_statements.specs.declared.statement.Target.TheVariants as target
use Rattle.program_statements.specs.declared.statement.Marks.{Marks}
use Rattle.program_statements.specs.declared.statement.Instruction.{Instruction}
use Rattle.program_statements.specs.declared.statement.Instruction.TheVariants as instruction
use Rattle.program_statements.specs.declared.statement.Statement.{Statement}
use Rattle.program_statements.specs.declared.statement.Statement.TheVariants as statement
use Rattle.program_statements.specs.declared.statement.Task.{Task}
use Rattle.annotated_asm.specs.declared.item.PlacedStatement.{PlacedStatement}

-- What names stand for.

-- the index of a label in code
abbrev pub index_of_symbol : Option Symbol → Option ℕ
index_of_symbol None = None
index_of_symbol (Some symbol) = elim symbol.section [
  | section.Text ↦ Some symbol.offset
  | section.Data ↦ None
  | section.Rodata ↦ None
]

abbrev pub code_label : Names → List ℕ → Option ℕ
code_label labels name = index_of_symbol (lookup labels name)

-- the address of a label: code begins at 0x400000, data at 0x10010000, read-only data at 0x10000000
abbrev pub address_of : Symbol → ℕ
address_of symbol = elim symbol.section [
  | section.Text ↦ 0x400000 + 4 * symbol.offset
  | section.Data ↦ 0x10010000 + symbol.offset
  | section.Rodata ↦ 0x10000000 + symbol.offset
]

-- Whether the names of an item are labels of the wanted kinds.

abbrev pub is_known_target : Names → Target → Bool
is_known_target labels (target.Label name) = is_some (code_label labels name)
is_known_target labels (target.Index index) = true

abbrev pub is_known_instruction : Names → Instruction → Bool
is_known_instruction labels (instruction.BranchTwo kind rs rt place) = is_known_target labels place
is_known_instruction labels (instruction.BranchOne kind rs place) = is_known_target labels place
is_known_instruction labels (instruction.Jump place) = is_known_target labels place
is_known_instruction labels (instruction.JumpLink place) = is_known_target labels place
is_known_instruction labels (instruction.LoadAddress rd name) = is_some (lookup labels name)
is_known_instruction labels _ = true

abbrev pub is_known : Names → Statement → Bool
is_known labels (statement.Start name) = is_some (code_label labels name)
is_known labels (statement.Task task) =
    is_some (code_label labels task.name) && list_all (is_known_target labels) task.targets
is_known labels (statement.Code i marks) = is_known_instruction labels i
is_known labels _ = true

-- the line of the first item that uses a name that is no label of the wanted kind
abbrev pub known : Names → List PlacedStatement → Result (Unit {0}) AsmFault
known labels [] = Ok tt
known labels (item ∷ items) = if is_known labels item.statement then known labels items else Err (fault.Unknown item.line)

-- What items become, given the places of their labels. A place beyond 4096, or an offset beyond 65536, is
-- beyond what a program may have.

abbrev pub limit : Section → ℕ
limit section.Text = 4096
limit section.Data = 65536
limit section.Rodata = 65536

abbrev pub place_of : ℕ → Option ℕ → Result ℕ AsmFault
place_of n None = Err (fault.Unknown n)
place_of n (Some index) = if nat_le index 4096 then Ok index else Err (fault.Build TooMany)

abbrev pub target_place : Names → ℕ → Target → Result ℕ AsmFault
target_place labels n (target.Label name) = place_of n (code_label labels name)
target_place labels n (target.Index index) = Ok index

abbrev pub label_address : ℕ → Option Symbol → Result ℕ AsmFault
label_address n None = Err (fault.Unknown n)
label_address n (Some symbol) =
    if nat_le symbol.offset (limit symbol.section) then Ok (address_of symbol) else Err (fault.Build TooMany)

-- the machine instructions
abbrev pub spelled : Names → ℕ → Instruction → Result (List Op) AsmFault
spelled labels n (instruction.One o) = Ok (o ∷ [])
spelled labels n (instruction.Two a b) = Ok (a ∷ b ∷ [])
spelled labels n (instruction.BranchTwo kind rs rt target) =
    target_place labels n target >>= λ place. Ok (op.BranchTwo kind rs rt place ∷ [])
spelled labels n (instruction.BranchOne kind rs target) =
    target_place labels n target >>= λ place. Ok (op.BranchOne kind rs place ∷ [])
spelled labels n (instruction.Jump target) = target_place labels n target >>= λ place. Ok (op.Jump place ∷ [])
spelled labels n (instruction.JumpLink target) = target_place labels n target >>= λ place. Ok (op.JumpLink place ∷ [])
spelled labels n (instruction.LoadAddress rd name) =
    label_address n (lookup labels name) >>= λ at.
    Ok (op.Lui rd (at / 2 ^ 16) ∷ op.Logic Ori rd rd (at % 2 ^ 16) ∷ [])

-- the marks stand on the last of them
abbrev pub marked : Op → Marks → Marked
marked o marks = record { op = o; forward = marks.forward; stop = marks.stop }

abbrev pub all_marked : Marks → List Op → List Marked
all_marked marks [] = []
all_marked marks (o ∷ []) = marked o marks ∷ []
all_marked marks (o ∷ more ∷ os) = marked o no_marks ∷ all_marked marks (more ∷ os)

abbrev pub target_places : Names → ℕ → List Target → Result (List ℕ) AsmFault
target_places labels n [] = Ok []
target_places labels n (target ∷ targets) =
    target_place labels n target >>= λ first. target_places labels n targets >>= λ others. Ok (first ∷ others)

abbrev pub with_data : Listing → Section → List ℕ → Listing
with_data p section.Text more = p
with_data p section.Data more = record p { bytes = p.bytes ++ more }
with_data p section.Rodata more = record p { fixed = p.fixed ++ more }

abbrev pub with_code : Listing → List Marked → Listing
with_code p more = record p { code = p.code ++ more }

-- a task's descriptor
abbrev pub descriptor : Names → ℕ → Task → Result Descriptor AsmFault
descriptor labels n task =
    place_of n (code_label labels task.name) >>= λ entry.
    target_places labels n task.targets >>= λ targets.
    Ok (record { name = task.name; entry = entry; create = task.create; targets = targets })

-- the program so far, with what an item adds
abbrev pub with_part : Names → Listing → PlacedStatement → Result Listing AsmFault
with_part labels p item = elim item.statement [
  | statement.Start name ↦ place_of item.line (code_label labels name) >>= λ place. Ok (record p { start = place })
  | statement.Task task ↦
      descriptor labels item.line task >>= λ new. Ok (record p { tasks = p.tasks ++ new ∷ [] })
  | statement.Bytes bytes ↦ Ok (with_data p item.section bytes)
  | statement.Space size ↦ Ok (with_data p item.section (replicate size 0))
  | statement.Code i marks ↦ spelled labels item.line i >>= λ code. Ok (with_code p (all_marked marks code))
  | statement.Empty ↦ Ok p
  | statement.Label name ↦ Ok p
  | statement.Section other ↦ Ok p
]

abbrev pub parts : Names → Listing → List PlacedStatement → Result Listing AsmFault
parts labels p [] = Ok p
parts labels p (item ∷ items) = with_part labels p item >>= λ next. parts labels next items

-- without a `.start` the program starts at index 0
abbrev pub no_parts : Listing
no_parts = record { code = []; bytes = []; fixed = []; tasks = []; start = 0 }
