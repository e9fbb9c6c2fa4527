-- The layout of a canonical text's items: nothing is defined twice, and each task's label stands at its
-- entry.
use Rattle.canonical_text.proofs.Imports.{◌≡◌, ℕ, ◌+◌, ◌≤◌, List, [], ◌∷◌, ◌++◌, Bool, false, Option, Some, None, Result, Ok, Err, length, map, arith, refl, ap, sym, ◌∙◌, append_assoc, ◌==◌, find, slice_get, is_some, list_any, bytes_eq, or_parts, or_from, cond-false, eqb-true, le-ltb, append-nil, Op, Halt, Listing, collide, has_duplicate, Descriptor, Marked, ◌>>=◌, Names, lookup, instruction_count, counted, grown, if_new, with_item, no_layout, laid, is_beyond, AsmFault, Layout, PlacedStatement, Section, Symbol}
use Rattle.std.specs.List.{AllByRecursion as All}
use Rattle.annotated_asm.specs.declared.layout.Sizes.{Sizes}
use Rattle.program_statements.specs.declared.statement.Section.TheVariants as section
use Rattle.canonical_text.proofs.Meanings.{written}
use Rattle.canonical_text.proofs.Layouts.{found, swap_bytes, code_symbol, label_rows, rows, lookup-append, other_label}
use Rattle.canonical_text.proofs.SectionItems.{section_alike}
use Rattle.canonical_text.proofs.SourceItems.{item, start_items, behind_one, task_items, behind_tasks, label_items, code_statement, code_items, behind_code, section_items, behind_section, section_behind, items}

-- One list of items after another.

after_first : (read : Result Layout AsmFault) (xs ys : List PlacedStatement)
    → ((layout : Layout) → laid layout (xs ++ ys) ≡ (laid layout xs >>= λ next. laid next ys))
    → (read >>= λ next. laid next (xs ++ ys)) ≡ ((read >>= λ next. laid next xs) >>= λ next. laid next ys)
after_first (Ok layout) xs ys each = each layout
after_first (Err fault) xs ys each = refl

pub laid-append : (layout : Layout) (xs ys : List PlacedStatement) → laid layout (xs ++ ys) ≡ (laid layout xs >>= λ next. laid next ys)
laid-append layout [] ys = refl
laid-append layout (x ∷ xs) ys = after_first (with_item layout x) xs ys (λ next. laid-append next xs ys)

-- The tasks.

abbrev pub layout : (code bytes fixed : ℕ) (labels tasks : Names) (started : Bool) → Layout
layout code bytes fixed labels tasks started = record {
  sizes = record { code = code; bytes = bytes; fixed = fixed };
  labels = labels;
  tasks = tasks;
  started = started;
}

abbrev pub task_rows : ℕ → List Descriptor → Names
task_rows index tasks = map (λ t. (t.name, code_symbol index)) tasks

still_new : (task : Descriptor) (index : ℕ) (names : Names) (others : List Descriptor) → list_any (collide task) others ≡ false
    → All (λ t. lookup names t.name ≡ None) others → All (λ t. lookup (names ++ (task.name, code_symbol index) ∷ []) t.name ≡ None) others
still_new task index names [] apart new = tt
still_new task index names (t ∷ others) apart new =
    let parts = or_parts (collide task t) (list_any (collide task) others) apart in
    let other = swap_bytes task.name t.name (or_parts (task.entry == t.entry) (bytes_eq task.name t.name) parts.0).1 in (
      lookup-append names ((task.name, code_symbol index) ∷ []) t.name new.0 ∙ cond-false (bytes_eq t.name task.name) (Some (code_symbol index)) None other,
      still_new task index names others parts.1 new.1,
    )

laid_tasks : (tasks : List Descriptor) (n : ℕ) (others : List Descriptor) (c b f : ℕ) (labels names : Names) (started : Bool)
    → has_duplicate others ≡ false → All (λ t. lookup names t.name ≡ None) others
    → laid (layout c b f labels names started) (task_items tasks n others) ≡ Ok (layout c b f labels (names ++ task_rows c others) started)
laid_tasks tasks n [] c b f labels names started apart new =
    ap (λ (ns : Names). Ok (layout c b f labels ns started)) (sym (append-nil names))
laid_tasks tasks n (task ∷ others) c b f labels names started apart new =
    let parts = or_parts (list_any (collide task) others) (has_duplicate others) apart in
    let more = names ++ (task.name, code_symbol c) ∷ [] in
    ap (λ (o : Option Symbol). if_new (is_some o) n (layout c b f labels more started) >>= λ next. laid next (task_items tasks (n + 1) others)) new.0
    ∙ laid_tasks tasks (n + 1) others c b f labels more started parts.1 (still_new task c names others parts.0 new.1)
    ∙ ap (λ (ns : Names). Ok (layout c b f labels ns started)) (append_assoc names ((task.name, code_symbol c) ∷ []) (task_rows c others))

-- The code.

one_word : (tasks : List Descriptor) (o : Op) → instruction_count (written tasks o) ≡ 1
one_word tasks Halt = refl
one_word tasks _ = refl

one_instruction : (tasks : List Descriptor) (m : Marked) (index : ℕ) → index + 1 ≤ 4096 → counted index (instruction_count (written tasks m.op)) ≡ index + 1
one_instruction tasks m index small = ap (counted index) (one_word tasks m.op) ∙ omega arith

-- no label that is yet to come is among these
abbrev IsNew : List Descriptor → ℕ → Names → Type 0
IsNew tasks index labels = (k : ℕ) (t : Descriptor) → slice_get tasks k ≡ Some t → index ≤ t.entry → lookup labels t.name ≡ None

laid_instruction : (tasks : List Descriptor) (n index : ℕ) (m : Marked) (rest : List PlacedStatement) (b f : ℕ) (labels names : Names) (started : Bool) → index + 1 ≤ 4096
    → laid (layout index b f labels names started) (item n section.Text (code_statement tasks m) ∷ rest) ≡ laid (layout (index + 1) b f labels names started) rest
laid_instruction tasks n index m rest b f labels names started small =
    ap (λ c. laid (layout c b f labels names started) rest) (one_instruction tasks m index small)

laid_line : (tasks : List Descriptor) (n index : ℕ) (at : Option Descriptor) (m : Marked) (rest : List PlacedStatement) (b f : ℕ) (labels names : Names) (started : Bool)
    → index + 1 ≤ 4096 → IsNew tasks index labels → find (λ t. t.entry == index) tasks ≡ at
    → laid (layout index b f labels names started) ((label_items n at ++ (item (behind_one n at) section.Text (code_statement tasks m) ∷ [])) ++ rest)
    ≡ laid (layout (index + 1) b f (labels ++ label_rows index at) names started) rest
laid_line tasks n index None m rest b f labels names started small new is =
    laid_instruction tasks n index m rest b f labels names started small
    ∙ ap (λ (ls : Names). laid (layout (index + 1) b f ls names started) rest) (sym (append-nil labels))
laid_line tasks n index (Some t) m rest b f labels names started small new is =
    let there = found (λ t. t.entry == index) tasks t is in
    let entry = eqb-true t.entry index there.passes in
    let none = new there.place t there.there (omega arith) in
    ap (λ (o : Option Symbol). if_new (is_some o) n (layout index b f (labels ++ (t.name, code_symbol index) ∷ []) names started)
    >>= λ next. laid next (item (n + 1) section.Text (code_statement tasks m) ∷ rest)) none
    ∙ laid_instruction tasks (n + 1) index m rest b f (labels ++ (t.name, code_symbol index) ∷ []) names started small

laid_code : (tasks : List Descriptor) (n index : ℕ) (code : List Marked) (b f : ℕ) (labels names : Names) (started : Bool)
    → has_duplicate tasks ≡ false → index + length code ≤ 4096 → IsNew tasks index labels
    → laid (layout index b f labels names started) (code_items tasks n index code)
    ≡ Ok (layout (index + length code) b f (labels ++ rows tasks index code) names started)
laid_code tasks n index [] b f labels names started apart small new =
    let same : index ≡ index + length {A = Marked} [] = omega arith in
    ap (λ c. Ok (layout c b f labels names started)) same
    ∙ ap (λ (ls : Names). Ok (layout (index + length {A = Marked} []) b f ls names started)) (sym (append-nil labels))
laid_code tasks n index (m ∷ code) b f labels names started apart small new =
    let at = find (λ t. t.entry == index) tasks in
    let one : index + 1 ≤ 4096 = omega arith in
    let others : (index + 1) + length code ≤ 4096 = omega arith in
    let still : IsNew tasks (index + 1) (labels ++ label_rows index at) = λ k t there above.
    lookup-append labels (label_rows index at) t.name (new k t there (omega arith)) ∙ other_label tasks apart k t there index (λ e. omega arith) at refl in
    let same : (index + 1) + length code ≡ index + length (m ∷ code) = omega arith in
    laid_line tasks n index at m (code_items tasks (behind_one n at + 1) (index + 1) code) b f labels names started one new refl
    ∙ laid_code tasks (behind_one n at + 1) (index + 1) code b f (labels ++ label_rows index at) names started apart others still
    ∙ ap (λ c. Ok (layout c b f ((labels ++ label_rows index at) ++ rows tasks (index + 1) code) names started)) same
    ∙ ap (λ (ls : Names). Ok (layout (index + length (m ∷ code)) b f ls names started)) (append_assoc labels (label_rows index at) (rows tasks (index + 1) code))

-- The data.

abbrev with_sizes : Layout → Sizes → Layout
with_sizes l sizes = record l { sizes = sizes }

laid_section : (n : ℕ) (before here : Section) (bytes : List ℕ) (l : Layout) (sizes : Sizes) → grown sizes here 0 ≡ sizes
    → laid (with_sizes l sizes) (section_items n before here bytes) ≡ Ok (with_sizes l (grown sizes here (length bytes)))
laid_section n before here [] l sizes none = ap (λ s. Ok (with_sizes l s)) (sym none)
laid_section n before here (b ∷ bytes) l sizes none = sym ((section_alike n before here b bytes).layout (with_sizes l sizes))

-- The whole program.

abbrev pub sizes : Listing → Sizes
sizes p = record { code = 0 + length p.code; bytes = counted 0 (length p.bytes); fixed = counted 0 (length p.fixed) }

abbrev pub final_layout : Listing → Bool → Layout
final_layout p started = record {
  sizes = sizes p;
  labels = [] ++ rows p.tasks 0 p.code;
  tasks = [] ++ task_rows 0 p.tasks;
  started = started;
}

no_names : (tasks : List Descriptor) → All (λ t. lookup [] t.name ≡ None) tasks
no_names [] = tt
no_names (t ∷ tasks) = (refl, no_names tasks)

laid_start : (n : ℕ) (at : Option Descriptor) → laid no_layout (start_items n at) ≡ Ok (layout 0 0 0 [] [] (is_some at))
laid_start n None = refl
laid_start n (Some task) = refl

then_laid : (l m : Layout) (xs ys : List PlacedStatement) (last : Result Layout AsmFault) → laid l xs ≡ Ok m → laid m ys ≡ last → laid l (xs ++ ys) ≡ last
then_laid l m xs ys last first second = laid-append l xs ys ∙ ap (λ (r : Result Layout AsmFault). r >>= λ next. laid next ys) first ∙ second

pub laid_out : (p : Listing) → has_duplicate p.tasks ≡ false → length p.code ≤ 4096
    → laid no_layout (items p) ≡ Ok (final_layout p (is_some (find (λ t. t.entry == p.start) p.tasks)))
laid_out p apart small =
    let start = find (λ t. t.entry == p.start) p.tasks in
    let tasks_at = behind_one 1 start in
    let code_at = behind_tasks tasks_at p.tasks in
    let data_at = behind_code p.tasks code_at 0 p.code in
    let before = section_behind section.Text section.Data p.bytes in
    let names = [] ++ task_rows 0 p.tasks in
    let few : 0 + length p.code ≤ 4096 = omega arith in
    let labels = [] ++ rows p.tasks 0 p.code in
    then_laid no_layout (layout 0 0 0 [] [] (is_some start)) (start_items 1 start) _ _ (laid_start 1 start)
    (then_laid (layout 0 0 0 [] [] (is_some start)) (layout 0 0 0 [] names (is_some start)) (task_items p.tasks tasks_at p.tasks) _ _ (laid_tasks p.tasks tasks_at p.tasks 0 0 0 [] [] (is_some start) apart (no_names p.tasks))
    (then_laid (layout 0 0 0 [] names (is_some start)) (layout (0 + length p.code) 0 0 labels names (is_some start)) (code_items p.tasks code_at 0 p.code) _ _ (laid_code p.tasks code_at 0 p.code 0 0 [] names (is_some start) apart few (λ k t there above. refl))
    (then_laid (layout (0 + length p.code) 0 0 labels names (is_some start)) (layout (0 + length p.code) (counted 0 (length p.bytes)) 0 labels names (is_some start)) (section_items data_at section.Text section.Data p.bytes) _ _
    (laid_section data_at section.Text section.Data p.bytes (layout (0 + length p.code) 0 0 labels names (is_some start)) (record { code = 0 + length p.code; bytes = 0; fixed = 0 }) refl)
    (laid_section (behind_section data_at p.bytes) before section.Rodata p.fixed (layout (0 + length p.code) (counted 0 (length p.bytes)) 0 labels names (is_some start)) (record { code = 0 + length p.code; bytes = counted 0 (length p.bytes); fixed = 0 }) refl))))

pub within_limits : (p : Listing) → length p.code ≤ 4096 → length p.bytes ≤ 65536 → length p.fixed ≤ 65536 → is_beyond (sizes p) ≡ false
within_limits p code bytes fixed =
    let few : 0 + length p.code ≤ 4096 = omega arith in
    let some : counted 0 (length p.bytes) ≤ 65536 = omega arith in
    let others : counted 0 (length p.fixed) ≤ 65536 = omega arith in
    or_from _ _ (or_from _ _ (le-ltb 4096 (0 + length p.code) few) (le-ltb 65536 (counted 0 (length p.bytes)) some)) (le-ltb 65536 (counted 0 (length p.fixed)) others)
