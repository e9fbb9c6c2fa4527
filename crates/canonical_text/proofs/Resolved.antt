-- Every name of a canonical text stands for a place in code, so the items become the program again.
use Rattle.canonical_text.proofs.Imports.{◌≡◌, ℕ, ◌+◌, ◌≤◌, List, [], ◌∷◌, ◌++◌, Bool, true, false, cond, Option, Some, None, Result, Ok, Err, map, refl, ap, sym, ◌∙◌, append_assoc, ◌==◌, find, is_some, nat_le, IfSome, cond-true, eqb-true, le-leb, append-nil, Op, Listing, Descriptor, Marked, ◌>>=◌, Names, code_label, place_of, target_place, all_marked, target_places, descriptor, with_data, parts, no_parts, AsmFault, PlacedStatement, Section, parts_append}
use Rattle.std.specs.List.{AllByRecursion as All}
use Rattle.annotated_asm.specs.Resolve.{spelled}
use Rattle.annotated_asm.specs.declared.fault.AsmFault.TheVariants as fault
use Rattle.program_statements.specs.declared.statement.Section.TheVariants as section
use Rattle.task_descriptor.specs.declared.program.BuildFault.TheVariants.{TooMany}
use Rattle.canonical_text.proofs.Operations.{found_passes}
use Rattle.canonical_text.proofs.Meanings.{target_named, target_of, written, written_back}
use Rattle.canonical_text.proofs.SectionItems.{section_alike}
use Rattle.canonical_text.proofs.SourceItems.{item, start_items, behind_one, task_items, behind_tasks, label_items, code_statement, code_items, behind_code, section_items, behind_section, section_behind, items}

-- each task's name is the label at its entry
abbrev pub AreLabelled : Names → List Descriptor → Type 0
AreLabelled labels tasks = All (λ t. (code_label labels t.name ≡ Some t.entry) × (t.entry ≤ 4096)) tasks

abbrev IsLabelled : Names → Descriptor → Type 0
IsLabelled labels t = (code_label labels t.name ≡ Some t.entry) × (t.entry ≤ 4096)

-- a task that is found by a test passes it
found_test : {X : Type 0} (test : X → Bool) (xs : List X) → IfSome (find test xs) (λ x. test x ≡ true)
found_test test [] = tt
found_test test (x ∷ xs) =
    (elim (test x) as (λ b. test x ≡ b → IfSome (cond b (Some x) (find test xs)) (λ x. test x ≡ true)) [
      | true ↦ λ e. e
      | false ↦ λ _. found_test test xs
    ]) refl

-- Places are found again.

place_within : (n place : ℕ) → place ≤ 4096 → place_of n (Some place) ≡ Ok place
place_within n place small = cond-true (nat_le place 4096) (Ok place) (Err (fault.Build TooMany)) (le-leb place 4096 small)

named_place : (labels : Names) (n : ℕ) (at : Option Descriptor) (place : ℕ) → IfSome at (IsLabelled labels) → IfSome at (λ t. (t.entry == place) ≡ true)
    → target_place labels n (target_named at place) ≡ Ok place
named_place labels n None place h e = refl
named_place labels n (Some t) place h e =
    ap (place_of n) h.0 ∙ place_within n t.entry h.1 ∙ ap (λ (x : ℕ). Ok x) (eqb-true t.entry place e)

place_back : (labels : Names) (tasks : List Descriptor) (n place : ℕ) → AreLabelled labels tasks → target_place labels n (target_of tasks place) ≡ Ok place
place_back labels tasks n place h =
    named_place labels n (find (λ t. t.entry == place) tasks) place (found_passes (IsLabelled labels) (λ t. t.entry == place) tasks h) (found_test (λ t. t.entry == place) tasks)

places_back : (labels : Names) (tasks : List Descriptor) (n : ℕ) (places : List ℕ) → AreLabelled labels tasks
    → target_places labels n (map (target_of tasks) places) ≡ Ok places
places_back labels tasks n [] h = refl
places_back labels tasks n (place ∷ places) h =
    ap (λ read. read >>= λ first. target_places labels n (map (target_of tasks) places) >>= λ others. Ok (first ∷ others)) (place_back labels tasks n place h)
    ∙ ap (λ read. read >>= λ others. Ok (place ∷ others)) (places_back labels tasks n places h)

code_back : (labels : Names) (tasks : List Descriptor) (n : ℕ) (o : Op) → AreLabelled labels tasks → spelled labels n (written tasks o) ≡ Ok (o ∷ [])
code_back labels tasks n o h = written_back labels tasks n o (λ place. place_back labels tasks n place h)

-- The parts.

task_back : (labels : Names) (tasks : List Descriptor) (n : ℕ) (t : Descriptor) → AreLabelled labels tasks → IsLabelled labels t
    → descriptor labels n (record { name = t.name; create = t.create; targets = map (target_of tasks) t.targets }) ≡ Ok t
task_back labels tasks n t h is =
    ap (λ read. read >>= λ entry. target_places labels n (map (target_of tasks) t.targets) >>= λ targets. Ok (record { name = t.name; entry = entry; create = t.create; targets = targets }))
    (ap (place_of n) is.0 ∙ place_within n t.entry is.1)
    ∙ ap (λ read. read >>= λ targets. Ok (record { name = t.name; entry = t.entry; create = t.create; targets = targets })) (places_back labels tasks n t.targets h)

tasks_back : (labels : Names) (tasks : List Descriptor) (n : ℕ) (others : List Descriptor) (p : Listing) → AreLabelled labels tasks → AreLabelled labels others
    → parts labels p (task_items tasks n others) ≡ Ok (record p { tasks = p.tasks ++ others })
tasks_back labels tasks n [] p h others = ap (λ (ts : List Descriptor). Ok (record p { tasks = ts })) (sym (append-nil p.tasks))
tasks_back labels tasks n (t ∷ ts) p h others =
    ap (λ read. (read >>= λ new. Ok (record p { tasks = p.tasks ++ new ∷ [] })) >>= λ next. parts labels next (task_items tasks (n + 1) ts)) (task_back labels tasks n t h others.0)
    ∙ tasks_back labels tasks (n + 1) ts (record p { tasks = p.tasks ++ t ∷ [] }) h others.1
    ∙ ap (λ (all : List Descriptor). Ok (record p { tasks = all })) (append_assoc p.tasks (t ∷ []) ts)

instruction_back : (labels : Names) (tasks : List Descriptor) (n : ℕ) (m : Marked) (rest : List PlacedStatement) (p : Listing) → AreLabelled labels tasks
    → parts labels p (item n section.Text (code_statement tasks m) ∷ rest) ≡ parts labels (record p { code = p.code ++ m ∷ [] }) rest
instruction_back labels tasks n m rest p h =
    ap (λ read. (read >>= λ code. Ok (record p { code = p.code ++ all_marked (record { forward = m.forward; stop = m.stop }) code })) >>= λ next. parts labels next rest) (code_back labels tasks n m.op h)

line_back : (labels : Names) (tasks : List Descriptor) (n : ℕ) (at : Option Descriptor) (m : Marked) (rest : List PlacedStatement) (p : Listing) → AreLabelled labels tasks
    → parts labels p ((label_items n at ++ (item (behind_one n at) section.Text (code_statement tasks m) ∷ [])) ++ rest) ≡ parts labels (record p { code = p.code ++ m ∷ [] }) rest
line_back labels tasks n None m rest p h = instruction_back labels tasks n m rest p h
line_back labels tasks n (Some t) m rest p h = instruction_back labels tasks (n + 1) m rest p h

codes_back : (labels : Names) (tasks : List Descriptor) (n index : ℕ) (code : List Marked) (p : Listing) → AreLabelled labels tasks
    → parts labels p (code_items tasks n index code) ≡ Ok (record p { code = p.code ++ code })
codes_back labels tasks n index [] p h = ap (λ (all : List Marked). Ok (record p { code = all })) (sym (append-nil p.code))
codes_back labels tasks n index (m ∷ code) p h =
    let at = find (λ t. t.entry == index) tasks in
    line_back labels tasks n at m (code_items tasks (behind_one n at + 1) (index + 1) code) p h
    ∙ codes_back labels tasks (behind_one n at + 1) (index + 1) code (record p { code = p.code ++ m ∷ [] }) h
    ∙ ap (λ (all : List Marked). Ok (record p { code = all })) (append_assoc p.code (m ∷ []) code)

no_data : (p : Listing) (here : Section) → p ≡ with_data p here []
no_data p section.Text = refl
no_data p section.Data = ap (λ (all : List ℕ). record p { bytes = all }) (sym (append-nil p.bytes))
no_data p section.Rodata = ap (λ (all : List ℕ). record p { fixed = all }) (sym (append-nil p.fixed))

section_back : (labels : Names) (n : ℕ) (before here : Section) (bytes : List ℕ) (p : Listing)
    → parts labels p (section_items n before here bytes) ≡ Ok (with_data p here bytes)
section_back labels n before here [] p = ap (λ (q : Listing). Ok q) (no_data p here)
section_back labels n before here (b ∷ bytes) p = sym ((section_alike n before here b bytes).program labels p)

start_back : (labels : Names) (n start : ℕ) (at : Option Descriptor) (p : Listing) → is_some at ≡ true → IfSome at (IsLabelled labels) → IfSome at (λ t. (t.entry == start) ≡ true)
    → parts labels p (start_items n at) ≡ Ok (record p { start = start })
start_back labels n start None p some h e = absurd cc
start_back labels n start (Some t) p some h e =
    ap (λ read. (read >>= λ place. Ok (record p { start = place })) >>= λ next. parts labels next []) (ap (place_of n) h.0 ∙ place_within n t.entry h.1)
    ∙ ap (λ place. Ok (record p { start = place })) (eqb-true t.entry start e)

then_parts : (labels : Names) (p q : Listing) (xs ys : List PlacedStatement) (last : Result Listing AsmFault) → parts labels p xs ≡ Ok q → parts labels q ys ≡ last → parts labels p (xs ++ ys) ≡ last
then_parts labels p q xs ys last first second = parts_append labels p xs ys ∙ ap (λ (r : Result Listing AsmFault). r >>= λ next. parts labels next ys) first ∙ second

pub program_back : (p : Listing) (labels : Names) → AreLabelled labels p.tasks → is_some (find (λ t. t.entry == p.start) p.tasks) ≡ true
    → parts labels no_parts (items p) ≡ Ok p
program_back p labels h some =
    let start = find (λ t. t.entry == p.start) p.tasks in
    let tasks_at = behind_one 1 start in
    let code_at = behind_tasks tasks_at p.tasks in
    let data_at = behind_code p.tasks code_at 0 p.code in
    let before = section_behind section.Text section.Data p.bytes in
    let p1 : Listing = record { code = []; bytes = []; fixed = []; tasks = []; start = p.start } in
    let p2 : Listing = record { code = []; bytes = []; fixed = []; tasks = p.tasks; start = p.start } in
    let p3 : Listing = record { code = p.code; bytes = []; fixed = []; tasks = p.tasks; start = p.start } in
    let p4 : Listing = record { code = p.code; bytes = p.bytes; fixed = []; tasks = p.tasks; start = p.start } in
    then_parts labels no_parts p1 (start_items 1 start) _ _
    (start_back labels 1 p.start start no_parts some (found_passes (IsLabelled labels) (λ t. t.entry == p.start) p.tasks h) (found_test (λ t. t.entry == p.start) p.tasks))
    (then_parts labels p1 p2 (task_items p.tasks tasks_at p.tasks) _ _ (tasks_back labels p.tasks tasks_at p.tasks p1 h h)
    (then_parts labels p2 p3 (code_items p.tasks code_at 0 p.code) _ _ (codes_back labels p.tasks code_at 0 p.code p2 h)
    (then_parts labels p3 p4 (section_items data_at section.Text section.Data p.bytes) _ _ (section_back labels data_at section.Text section.Data p.bytes p3)
    (section_back labels (behind_section data_at p.bytes) before section.Rodata p.fixed p4))))
