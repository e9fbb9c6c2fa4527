-- The canonical text of a well-formed program is read back as that program.
use Rattle.canonical_text.proofs.Imports.{◌≡◌, ℕ, suc, ◌+◌, ◌<◌, ◌≤◌, ◌^◌, List, [], ◌∷◌, Bool, true, false, cond, Some, None, Result, Ok, Err, length, arith, refl, ap, sym, ◌∙◌, inl, inr, ◌==◌, ◌&&◌, ◌||◌, not, find, slice_get, is_some, nat_lt, list_any, position, position_or_len, or_parts, cond-false, le-ltb, cases_lt, lt-ltb, cond-true, not-false, recursion_from_All, is_name, Listing, IsWellFormed, is_bad_mark, release_fits, stop_fits, has_destination, Descriptor, Marked, lines, canonical_text, ◌>>=◌, items_from, laid, no_layout, index_of_symbol, code_label, AsmFault, Layout, PlacedStatement, IsInRange, IsTaskInRange}
use Rattle.std.specs.List.{All as AllAt, AllByRecursion as All}
use Rattle.task_descriptor.specs.WellFormed.{passes, limits, entry_below, start_is_entry}
use Rattle.annotated_asm.specs.ProgramText.{built, program_of, parse}
use Rattle.annotated_asm.specs.declared.fault.AsmFault.TheVariants as fault
use Rattle.program_statements.specs.declared.statement.Section.TheVariants as section
use Rattle.annotated_asm.proofs.Knowns.{built_of}
use Rattle.canonical_text.proofs.Layouts.{rows, lookup_rows}
use Rattle.canonical_text.proofs.SourceItems.{items}
use Rattle.canonical_text.proofs.TextItems.{IsSpellable, text_items}
use Rattle.canonical_text.proofs.LaidOut.{final_layout, laid_out, within_limits}
use Rattle.canonical_text.proofs.Resolved.{AreLabelled, program_back}
use Rattle.canonical_text.proofs.Lengths.{length-canonical}

all_from_gets : {X : Type 0} (P : X → Type 0) (xs : List X) → ((k : ℕ) (x : X) → slice_get xs k ≡ Some x → P x) → All P xs
all_from_gets P [] each = tt
all_from_gets P (x ∷ xs) each = (each 0 x refl, all_from_gets P xs (λ k y at. each (suc k) y at))

-- Each instruction's marks fit, so that a `release` names a register.

none_passes : {X : Type 0} (test : X → Bool) (xs : List X) → length xs ≤ position_or_len test xs → All (λ x. test x ≡ false) xs
none_passes test [] h = tt
none_passes test (x ∷ xs) h =
    (elim (test x) as (λ b. test x ≡ b → length (x ∷ xs) ≤ cond (not b) (1 + position_or_len test xs) 0 → All (λ x. test x ≡ false) (x ∷ xs)) [
      | true ↦ λ e k. absurd (omega arith)
      | false ↦ λ e k. (e, none_passes test xs (omega arith))
    ]) refl h

past_the_end : {X : Type 0} (test : X → Bool) (xs : List X) → position test xs ≡ None → length xs ≤ position_or_len test xs
past_the_end test xs h =
    elim (cases_lt (position_or_len test xs) (length xs)) [
      | inl inside ↦
          let there : Some (position_or_len test xs) ≡ None = sym (cond-true (nat_lt (position_or_len test xs) (length xs)) (Some (position_or_len test xs)) None (lt-ltb (position_or_len test xs) (length xs) inside)) ∙ h in
          absurd cc
      | inr past ↦ past
    ]

release_of : (m : Marked) → is_bad_mark m ≡ false → release_fits m.op ≡ true
release_of m h = not-false (release_fits m.op) (or_parts (m.forward && not (has_destination m.op) || not (stop_fits m.stop m.op)) (not (release_fits m.op)) h).1

releases_of : (code : List Marked) → All (λ m. is_bad_mark m ≡ false) code → All (λ m. release_fits m.op ≡ true) code
releases_of [] h = tt
releases_of (m ∷ code) h = (release_of m h.0, releases_of code h.1)

-- A task begins at the start.

some_found : {X : Type 0} (test : X → Bool) (xs : List X) → list_any test xs ≡ true → is_some (find test xs) ≡ true
some_found test [] h = absurd cc
some_found test (x ∷ xs) h =
    (elim (test x) as (λ b. (b || list_any test xs) ≡ true → is_some (cond b (Some x) (find test xs)) ≡ true) [
      | true ↦ λ _. refl
      | false ↦ λ e. some_found test xs e
    ]) h

-- Labels.

labelled : (p : Listing) → IsWellFormed p → AreLabelled (rows p.tasks 0 p.code) p.tasks
labelled p h = all_from_gets (λ t. (code_label (rows p.tasks 0 p.code) t.name ≡ Some t.entry) × (t.entry ≤ 4096)) p.tasks (λ k t there.
    let below = entry_below p h k t there in
    (ap index_of_symbol (lookup_rows p.tasks (passes p h).distinct k t there 0 p.code (omega arith) (omega arith)), omega (arith, below, (limits p h).code)))

-- What the types say, task by task.

names_of : (tasks : List Descriptor) → All IsTaskInRange tasks → All (λ t. is_name t.name ≡ true) tasks
names_of [] h = tt
names_of (t ∷ tasks) h = (h.0.name, names_of tasks h.1)

creates_of : (tasks : List Descriptor) → All IsTaskInRange tasks → All (λ t. t.create < 2 ^ 34) tasks
creates_of [] h = tt
creates_of (t ∷ tasks) h = (h.0.create, creates_of tasks h.1)

targets_of : (tasks : List Descriptor) → All IsTaskInRange tasks → All (λ t. All (λ place. place ≤ 4096) t.targets) tasks
targets_of [] h = tt
targets_of (t ∷ tasks) h = (recursion_from_All (λ place. place ≤ 4096) t.targets h.0.targets, targets_of tasks h.1)

-- The program of the items.

program_is : (p : Listing) (started : Bool) → IsWellFormed p → program_of (items p) (final_layout p started) ≡ Ok p
program_is p started h =
    let limit = limits p h in
    let some = some_found (λ t. t.entry == p.start) p.tasks (start_is_entry p h) in
    built_of (items p) (final_layout p started) p (within_limits p limit.code limit.bytes limit.fixed) (program_back p (rows p.tasks 0 p.code) (labelled p h) some)
    ∙ ap (built p) h.passes

parsed : (p : Listing) → IsWellFormed p → IsSpellable p → parse (canonical_text p) ≡ Ok p
unfolding parse
parsed p h is =
    let limit = limits p h in
    let short = length-canonical p is limit.code limit.bytes limit.fixed limit.tasks (all_from_gets (λ t. length t.targets ≤ 16) p.tasks limit.targets) in
    let started = is_some (find (λ t. t.entry == p.start) p.tasks) in
    cond-false (nat_lt 4194304 (length (canonical_text p))) (Err fault.TooLong) (items_from 1 section.Text (lines (canonical_text p)) >>= λ items. laid no_layout items >>= λ layout. program_of items layout) (le-ltb 4194304 (length (canonical_text p)) short)
    ∙ ap (λ (read : Result (List PlacedStatement) AsmFault). read >>= λ items. laid no_layout items >>= λ layout. program_of items layout) (text_items p is)
    ∙ ap (λ (read : Result Layout AsmFault). read >>= λ layout. program_of (items p) layout) (laid_out p (passes p h).distinct limit.code)
    ∙ program_is p started h

pub reads_back : (p : Listing) → IsWellFormed p → AllAt IsTaskInRange p.tasks → AllAt (λ m. IsInRange m.op) p.code
    → AllAt (λ b. b < 256) p.bytes → AllAt (λ b. b < 256) p.fixed → parse (canonical_text p) ≡ Ok p
reads_back p h tasks code bytes fixed =
    let each = recursion_from_All IsTaskInRange p.tasks tasks in
    parsed p h (record {
      names = names_of p.tasks each;
      creates = creates_of p.tasks each;
      targets = targets_of p.tasks each;
      code = recursion_from_All (λ m. IsInRange m.op) p.code code;
      releases = releases_of p.code (none_passes is_bad_mark p.code (past_the_end is_bad_mark p.code (passes p h).marks));
      bytes = recursion_from_All (λ b. b < 256) p.bytes bytes;
      fixed = recursion_from_All (λ b. b < 256) p.fixed fixed;
    })
