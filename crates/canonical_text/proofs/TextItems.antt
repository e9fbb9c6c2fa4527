-- A canonical text is read as its items.
use Rattle.canonical_text.proofs.Imports.{◌≡◌, ℕ, ◌+◌, ◌*◌, ◌<◌, ◌≤◌, ◌^◌, List, [], ◌∷◌, ◌++◌, true, Option, Some, None, Ok, map, arith, refl, sym, subst, ◌==◌, find, IfSome, codes, flat_map, is_name, Listing, release_fits, Marked, Descriptor, lines, line, start_line, task_line, label_line, marked_text, code_lines, word_line, byte_line, data_lines, section, canonical_text, label_item, items_from, Section, IsInRange}
use Rattle.std.specs.List.{AllByRecursion as All}
use Rattle.program_statements.specs.declared.statement.Section.TheVariants as section
use Rattle.program_statements.specs.declared.statement.Statement.TheVariants as statement
use Rattle.canonical_text.proofs.Spelling.{blank, nothing, joined as joined_texts}
use Rattle.canonical_text.proofs.PiecesReadBack.{name_reads, colon}
use Rattle.canonical_text.proofs.Operations.{found_passes, op_reads, marks_read}
use Rattle.canonical_text.proofs.Meanings.{is_named}
use Rattle.canonical_text.proofs.CodeLines.{code_said}
use Rattle.canonical_text.proofs.TaskLines.{task_line_is, task_reads, task_said}
use Rattle.canonical_text.proofs.CanonicalRoundTripDataLines.{IsData, start_reads, data_reads, rodata_reads, word_line_reads, byte_line_reads, word_said, byte_said, bytes_back}
use Rattle.canonical_text.proofs.Chunks.{Chunk, no_lines, joined, line_chunk, all_items}
use Rattle.canonical_text.proofs.SourceItems.{item, start_items, behind_one, task_statement, task_items, behind_tasks, label_items, code_statement, code_items, behind_code, byte_items, behind_bytes, data_items, behind_data, section_items, behind_section, section_behind, items}

-- what is known of a program's numbers and names
pub record IsSpellable (p : Listing) : Type 0 where
  pub names : All (λ t. is_name t.name ≡ true) p.tasks
  pub creates : All (λ t. t.create < 2 ^ 34) p.tasks
  pub targets : All (λ t. All (λ place. place ≤ 4096) t.targets) p.tasks
  pub code : All (λ m. IsInRange m.op) p.code
  pub releases : All (λ m. release_fits m.op ≡ true) p.code
  pub bytes : All (λ b. b < 256) p.bytes
  pub fixed : All (λ b. b < 256) p.fixed

-- The start and the tasks.

start_chunk : (n : ℕ) (at : Option Descriptor) → IfSome at (λ t. is_name t.name ≡ true)
    → Chunk n section.Text (start_line at) (behind_one n at) section.Text (start_items n at)
start_chunk n None named = no_lines n section.Text
start_chunk n (Some task) named =
    line_chunk n section.Text (statement.Start task.name) (joined_texts 32 refl start_reads (blank (name_reads task.name named))) refl

task_chunk : (tasks : List Descriptor) (n : ℕ) (task : Descriptor) → All (λ t. is_name t.name ≡ true) tasks → is_name task.name ≡ true
    → task.create < 2 ^ 34 → All (λ place. place ≤ 4096) task.targets
    → Chunk n section.Text (task_line tasks task) (n + 1) section.Text (item n section.Text (task_statement tasks task) ∷ [])
task_chunk tasks n task all named small within =
    subst (λ (text : List ℕ). Chunk n section.Text text (n + 1) section.Text (item n section.Text (task_statement tasks task) ∷ [])) (sym (task_line_is tasks task))
    (line_chunk n section.Text (task_statement tasks task) (task_reads tasks task all named within) (task_said tasks task small within))

task_chunks : (tasks : List Descriptor) (n : ℕ) (others : List Descriptor) → All (λ t. is_name t.name ≡ true) tasks → All (λ t. is_name t.name ≡ true) others
    → All (λ t. t.create < 2 ^ 34) others → All (λ t. All (λ place. place ≤ 4096) t.targets) others
    → Chunk n section.Text (flat_map (task_line tasks) others) (behind_tasks n others) section.Text (task_items tasks n others)
task_chunks tasks n [] all names small within = no_lines n section.Text
task_chunks tasks n (task ∷ others) all names small within =
    joined (task_chunk tasks n task all names.0 small.0 within.0) (task_chunks tasks (n + 1) others all names.1 small.1 within.1)

-- The code.

label_chunk : (n : ℕ) (at : Option Descriptor) → IfSome at (λ t. is_name t.name ≡ true)
    → Chunk n section.Text (label_line at) (behind_one n at) section.Text (label_items n at)
label_chunk n None named = no_lines n section.Text
label_chunk n (Some task) named =
    line_chunk n section.Text statement.Empty (joined_texts 58 refl (name_reads task.name named) (colon nothing)) refl

instruction_chunk : (tasks : List Descriptor) (n : ℕ) (m : Marked) → All (λ t. is_name t.name ≡ true) tasks → IsInRange m.op → release_fits m.op ≡ true
    → Chunk n section.Text (line (marked_text tasks m)) (n + 1) section.Text (item n section.Text (code_statement tasks m) ∷ [])
instruction_chunk tasks n m all range fits =
    let said = code_said tasks m range fits in
    subst (λ (names : List (List ℕ)). Chunk n section.Text (line (marked_text tasks m)) (n + 1) section.Text (map (label_item n section.Text) names ++ (item n section.Text (code_statement tasks m) ∷ []))) said.0
    (line_chunk n section.Text (code_statement tasks m) (marks_read m.forward m.stop (op_reads tasks m.op all (is_named m.op) range)) said.1)

code_chunks : (tasks : List Descriptor) (n index : ℕ) (code : List Marked) → All (λ t. is_name t.name ≡ true) tasks
    → All (λ m. IsInRange m.op) code → All (λ m. release_fits m.op ≡ true) code
    → Chunk n section.Text (code_lines tasks index code) (behind_code tasks n index code) section.Text (code_items tasks n index code)
code_chunks tasks n index [] all range fits = no_lines n section.Text
code_chunks tasks n index (m ∷ code) all range fits =
    let at = find (λ t. t.entry == index) tasks in
    joined (joined (label_chunk n at (found_passes (λ t. is_name t.name ≡ true) (λ t. t.entry == index) tasks all)) (instruction_chunk tasks (behind_one n at) m all range.0 fits.0))
    (code_chunks tasks (behind_one n at + 1) (index + 1) code all range.1 fits.1)

-- The data.

byte_chunk : (n : ℕ) (here : Section) (b : ℕ) → IsData here → b < 256 → Chunk n here (byte_line b) (n + 1) here (item n here (statement.Bytes (b ∷ [])) ∷ [])
byte_chunk n here b region small = line_chunk n here (statement.Bytes (b ∷ [])) (byte_line_reads b small) (byte_said here b region small)

byte_chunks : (n : ℕ) (here : Section) (bytes : List ℕ) → IsData here → All (λ b. b < 256) bytes
    → Chunk n here (flat_map byte_line bytes) (behind_bytes n bytes) here (byte_items n here bytes)
byte_chunks n here [] region small = no_lines n here
byte_chunks n here (b ∷ bytes) region small = joined (byte_chunk n here b region small.0) (byte_chunks (n + 1) here bytes region small.1)

word_chunk : (n : ℕ) (here : Section) (a b c d : ℕ) → IsData here → a < 256 → b < 256 → c < 256 → d < 256
    → Chunk n here (word_line (a + 256 * (b + 256 * (c + 256 * d)))) (n + 1) here (item n here (statement.Bytes (a ∷ b ∷ c ∷ d ∷ [])) ∷ [])
word_chunk n here a b c d region p q r s =
    let small : a + 256 * (b + 256 * (c + 256 * d)) < 2 ^ 32 = omega arith in
    line_chunk n here (statement.Bytes (a ∷ b ∷ c ∷ d ∷ [])) (word_line_reads (a + 256 * (b + 256 * (c + 256 * d))) small)
    (word_said here (a + 256 * (b + 256 * (c + 256 * d))) (a ∷ b ∷ c ∷ d ∷ []) region small (bytes_back a b c d p q r s))

data_chunks : (n : ℕ) (here : Section) (bytes : List ℕ) → IsData here → All (λ b. b < 256) bytes
    → Chunk n here (data_lines bytes) (behind_data n bytes) here (data_items n here bytes)
data_chunks n here [] region small = no_lines n here
data_chunks n here (a ∷ []) region small = byte_chunks n here (a ∷ []) region small
data_chunks n here (a ∷ b ∷ []) region small = byte_chunks n here (a ∷ b ∷ []) region small
data_chunks n here (a ∷ b ∷ c ∷ []) region small = byte_chunks n here (a ∷ b ∷ c ∷ []) region small
data_chunks n here (a ∷ b ∷ c ∷ d ∷ bytes) region small =
    joined (word_chunk n here a b c d region small.0 small.1.0 small.1.1.0 small.1.1.1.0) (data_chunks (n + 1) here bytes region small.1.1.1.1)

data_section : (n : ℕ) (before : Section) (bytes : List ℕ) → All (λ b. b < 256) bytes
    → Chunk n before (section (codes ".data") bytes) (behind_section n bytes) (section_behind before section.Data bytes) (section_items n before section.Data bytes)
data_section n before [] small = no_lines n before
data_section n before (b ∷ bytes) small =
    joined (line_chunk n before (statement.Section section.Data) data_reads refl) (data_chunks (n + 1) section.Data (b ∷ bytes) (λ s. refl) small)

rodata_section : (n : ℕ) (before : Section) (bytes : List ℕ) → All (λ b. b < 256) bytes
    → Chunk n before (section (codes ".rodata") bytes) (behind_section n bytes) (section_behind before section.Rodata bytes) (section_items n before section.Rodata bytes)
rodata_section n before [] small = no_lines n before
rodata_section n before (b ∷ bytes) small =
    joined (line_chunk n before (statement.Section section.Rodata) rodata_reads refl) (data_chunks (n + 1) section.Rodata (b ∷ bytes) (λ s. refl) small)

-- The whole text.

pub text_items : (p : Listing) → IsSpellable p → items_from 1 section.Text (lines (canonical_text p)) ≡ Ok (items p)
text_items p h =
    let start = find (λ t. t.entry == p.start) p.tasks in
    let tasks_at = behind_one 1 start in
    let code_at = behind_tasks tasks_at p.tasks in
    let data_at = behind_code p.tasks code_at 0 p.code in
    let before = section_behind section.Text section.Data p.bytes in
    all_items
    (joined (start_chunk 1 start (found_passes (λ t. is_name t.name ≡ true) (λ t. t.entry == p.start) p.tasks h.names))
    (joined (task_chunks p.tasks tasks_at p.tasks h.names h.names h.creates h.targets)
    (joined (code_chunks p.tasks code_at 0 p.code h.names h.code h.releases)
    (joined (data_section data_at section.Text p.bytes h.bytes) (rodata_section (behind_section data_at p.bytes) before p.fixed h.fixed)))))
