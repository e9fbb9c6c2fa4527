-- The items of a canonical text, line by line.
use Rattle.canonical_text.proofs.Imports.{ℕ, ◌+◌, List, [], ◌∷◌, ◌++◌, Option, Some, None, map, ◌==◌, find, Listing, Marked, Descriptor, PlacedStatement, Section, Statement}
use Rattle.program_statements.specs.declared.statement.Section.TheVariants as section
use Rattle.program_statements.specs.declared.statement.Statement.TheVariants as statement
use Rattle.canonical_text.proofs.Meanings.{target_of, written}

abbrev pub item : ℕ → Section → Statement → PlacedStatement
item n here s = record { line = n; section = here; statement = s }

-- Each with the number of its line, and the number of the line after it.

abbrev pub start_items : ℕ → Option Descriptor → List PlacedStatement
start_items n None = []
start_items n (Some task) = item n section.Text (statement.Start task.name) ∷ []

abbrev pub behind_one : ℕ → Option Descriptor → ℕ
behind_one n None = n
behind_one n (Some task) = n + 1

abbrev pub task_statement : List Descriptor → Descriptor → Statement
task_statement tasks task =
    statement.Task (record { name = task.name; create = task.create; targets = map (target_of tasks) task.targets })

abbrev pub task_items : List Descriptor → ℕ → List Descriptor → List PlacedStatement
task_items tasks n [] = []
task_items tasks n (task ∷ others) = (item n section.Text (task_statement tasks task) ∷ []) ++ task_items tasks (n + 1) others

abbrev pub behind_tasks : ℕ → List Descriptor → ℕ
behind_tasks n [] = n
behind_tasks n (task ∷ others) = behind_tasks (n + 1) others

abbrev pub label_items : ℕ → Option Descriptor → List PlacedStatement
label_items n None = []
label_items n (Some task) = item n section.Text (statement.Label task.name) ∷ []

abbrev pub code_statement : List Descriptor → Marked → Statement
code_statement tasks m = statement.Code (written tasks m.op) (record { forward = m.forward; stop = m.stop })

abbrev pub code_items : List Descriptor → (n index : ℕ) → List Marked → List PlacedStatement
code_items tasks n index [] = []
code_items tasks n index (m ∷ code) =
    let at = find (λ t. t.entry == index) tasks in
    (label_items n at ++ (item (behind_one n at) section.Text (code_statement tasks m) ∷ [])) ++ code_items tasks (behind_one n at + 1) (index + 1) code

abbrev pub behind_code : List Descriptor → (n index : ℕ) → List Marked → ℕ
behind_code tasks n index [] = n
behind_code tasks n index (m ∷ code) =
    behind_code tasks (behind_one n (find (λ t. t.entry == index) tasks) + 1) (index + 1) code

abbrev pub byte_items : ℕ → Section → List ℕ → List PlacedStatement
byte_items n here [] = []
byte_items n here (b ∷ bytes) = (item n here (statement.Bytes (b ∷ [])) ∷ []) ++ byte_items (n + 1) here bytes

abbrev pub behind_bytes : ℕ → List ℕ → ℕ
behind_bytes n [] = n
behind_bytes n (b ∷ bytes) = behind_bytes (n + 1) bytes

abbrev pub data_items : ℕ → Section → List ℕ → List PlacedStatement
data_items n here (a ∷ b ∷ c ∷ d ∷ bytes) =
    (item n here (statement.Bytes (a ∷ b ∷ c ∷ d ∷ [])) ∷ []) ++ data_items (n + 1) here bytes
data_items n here bytes = byte_items n here bytes

abbrev pub behind_data : ℕ → List ℕ → ℕ
behind_data n (a ∷ b ∷ c ∷ d ∷ bytes) = behind_data (n + 1) bytes
behind_data n bytes = behind_bytes n bytes

-- the directive of a section stands in the section before it
abbrev pub section_items : ℕ → (before here : Section) → List ℕ → List PlacedStatement
section_items n before here [] = []
section_items n before here (b ∷ bytes) = (item n before (statement.Section here) ∷ []) ++ data_items (n + 1) here (b ∷ bytes)

abbrev pub behind_section : ℕ → List ℕ → ℕ
behind_section n [] = n
behind_section n (b ∷ bytes) = behind_data (n + 1) (b ∷ bytes)

abbrev pub section_behind : (before here : Section) → List ℕ → Section
section_behind before here [] = before
section_behind before here (b ∷ bytes) = here

abbrev pub items : Listing → List PlacedStatement
items p =
    let start = find (λ t. t.entry == p.start) p.tasks in
    let tasks_at = behind_one 1 start in
    let code_at = behind_tasks tasks_at p.tasks in
    let data_at = behind_code p.tasks code_at 0 p.code in
    start_items 1 start
    ++ (task_items p.tasks tasks_at p.tasks
    ++ (code_items p.tasks code_at 0 p.code
    ++ (section_items data_at section.Text section.Data p.bytes
    ++ section_items (behind_section data_at p.bytes) (section_behind section.Text section.Data p.bytes) section.Rodata p.fixed)))
