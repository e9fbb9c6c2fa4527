-- Items that become parts name labels of the wanted kinds alone.
use Rattle.std.specs.Prelude.{◌≡◌, ℕ, Bool, true, false, ◌&&◌, List, [], ◌∷◌, ◌++◌, Option, Some, None, is_some, Result, Ok, Err, ◌/◌, ◌%◌, ◌^◌, if◌then◌else◌}
use Rattle.std.specs.List.{list_all}
use Rattle.std.proofs.Common.{refl, ap, ◌∙◌}
use Rattle.std.proofs.lemmas.Bool.{false≢true}
use Rattle.mips_instructions.specs.declared.instruction.Op.TheVariants as op
use Rattle.mips_instructions.specs.declared.instruction.LogicKind.TheVariants.{Ori}
use Rattle.task_descriptor.specs.Listing.{Listing, build_fault}
use Rattle.task_descriptor.specs.declared.program.BuildFault.{BuildFault}
use Rattle.task_descriptor.specs.declared.program.BuildFault.TheVariants.{TooMany}
use Rattle.task_descriptor.specs.declared.descriptor.Descriptor.{Descriptor}
use Rattle.program_statements.specs.Steps.{◌>>=◌}
use Rattle.program_statements.specs.declared.statement.Section.{Section}
use Rattle.program_statements.specs.declared.statement.Target.{Target}
use Rattle.program_statements.specs.declared.statement.Target.TheVariants as target
use Rattle.program_statements.specs.declared.statement.Instruction.{Instruction}
use Rattle.program_statements.specs.declared.statement.Instruction.TheVariants as instruction
use Rattle.program_statements.specs.declared.statement.Statement.{Statement}
use Rattle.program_statements.specs.declared.statement.Statement.TheVariants as statement
use Rattle.program_statements.specs.declared.statement.Task.{Task}
use Rattle.annotated_asm.specs.Tables.{Names, lookup}
use Rattle.annotated_asm.specs.Resolve.{code_label, is_known_target, is_known_instruction, is_known, known, place_of, target_place, label_address, spelled, all_marked, target_places, with_code, descriptor, with_part, parts, no_parts}
use Rattle.annotated_asm.specs.declared.fault.AsmFault.{AsmFault}
use Rattle.annotated_asm.specs.declared.fault.AsmFault.TheVariants as fault
use Rattle.annotated_asm.specs.declared.item.PlacedStatement.{PlacedStatement}
use Rattle.annotated_asm.specs.declared.layout.Layout.{Layout}
use Rattle.annotated_asm.specs.Layout.{is_beyond}
use Rattle.annotated_asm.specs.ProgramText.{built, program_of}
use Rattle.annotated_asm.specs.Steps.{Answers}
use Rattle.annotated_asm.specs.declared.table.Symbol.{Symbol}

-- a stage without a fault
abbrev pub succeeds : {A F : Type 0} → Result A F → Bool
succeeds (Ok x) = true
succeeds (Err e) = false

first_does : {A B F : Type 0} (r : Result A F) (f : A → Result B F) → succeeds (r >>= f) ≡ true → succeeds r ≡ true
first_does (Ok x) f h = refl
first_does (Err e) f h = h

second_does : {A B C F : Type 0} (r : Result A F) (s : Result B F) (g : A → B → Result C F)
    → succeeds (r >>= λ x. s >>= g x) ≡ true → succeeds s ≡ true
second_does (Ok x) s g h = first_does s (g x) h
second_does (Err e) s g h = absurd (false≢true h)

rest_does : {A B F : Type 0} (r : Result A F) (f : A → Result B F) → succeeds (r >>= f) ≡ true → (x : A) × (succeeds (f x) ≡ true)
rest_does (Ok x) f h = (x, h)
rest_does (Err e) f h = absurd (false≢true h)

place_known : (n : ℕ) (index : Option ℕ) → succeeds (place_of n index) ≡ true → is_some index ≡ true
place_known n None h = h
place_known n (Some index) h = refl

target_known : (labels : Names) (n : ℕ) (t : Target) → succeeds (target_place labels n t) ≡ true → is_known_target labels t ≡ true
target_known labels n (target.Label name) h = place_known n (code_label labels name) h
target_known labels n (target.Index index) h = refl

address_known : (n : ℕ) (symbol : Option Symbol) → succeeds (label_address n symbol) ≡ true → is_some symbol ≡ true
address_known n None h = h
address_known n (Some symbol) h = refl

instruction_known : (labels : Names) (n : ℕ) (i : Instruction) → succeeds (spelled labels n i) ≡ true → is_known_instruction labels i ≡ true
instruction_known labels n (instruction.One o) h = refl
instruction_known labels n (instruction.Two a b) h = refl
instruction_known labels n (instruction.BranchTwo kind rs rt t) h =
    target_known labels n t (first_does (target_place labels n t) (λ place. Ok (op.BranchTwo kind rs rt place ∷ [])) h)
instruction_known labels n (instruction.BranchOne kind rs t) h =
    target_known labels n t (first_does (target_place labels n t) (λ place. Ok (op.BranchOne kind rs place ∷ [])) h)
instruction_known labels n (instruction.Jump t) h =
    target_known labels n t (first_does (target_place labels n t) (λ place. Ok (op.Jump place ∷ [])) h)
instruction_known labels n (instruction.JumpLink t) h =
    target_known labels n t (first_does (target_place labels n t) (λ place. Ok (op.JumpLink place ∷ [])) h)
instruction_known labels n (instruction.LoadAddress rd name) h =
    address_known n (lookup labels name) (first_does (label_address n (lookup labels name)) (λ at. Ok (op.Lui rd (at / 2 ^ 16) ∷ op.Logic Ori rd rd (at % 2 ^ 16) ∷ [])) h)

targets_known : (labels : Names) (n : ℕ) (ts : List Target) → succeeds (target_places labels n ts) ≡ true → list_all (is_known_target labels) ts ≡ true
targets_known labels n [] h = refl
targets_known labels n (t ∷ ts) h =
    let here = target_known labels n t (first_does (target_place labels n t) (λ first. target_places labels n ts >>= λ others. Ok (first ∷ others)) h) in
    let behind = targets_known labels n ts (second_does (target_place labels n t) (target_places labels n ts) (λ first others. Ok (first ∷ others)) h) in
    λ i. here i && behind i

descriptor_known : (labels : Names) (n : ℕ) (task : Task) → succeeds (descriptor labels n task) ≡ true
    → is_some (code_label labels task.name) && list_all (is_known_target labels) task.targets ≡ true
descriptor_known labels n task h =
    let made : ℕ → List ℕ → Result Descriptor AsmFault = λ entry targets. Ok (record { name = task.name; entry = entry; create = task.create; targets = targets }) in
    let named = place_known n (code_label labels task.name) (first_does (place_of n (code_label labels task.name)) (λ entry. target_places labels n task.targets >>= made entry) h) in
    let aimed = targets_known labels n task.targets (second_does (place_of n (code_label labels task.name)) (target_places labels n task.targets) made h) in
    λ i. named i && aimed i

part_known : (labels : Names) (p : Listing) (line : ℕ) (section : Section) (s : Statement)
    → succeeds (with_part labels p (record { line = line; section = section; statement = s })) ≡ true → is_known labels s ≡ true
part_known labels p line section (statement.Start name) h =
    place_known line (code_label labels name) (first_does (place_of line (code_label labels name)) (λ place. Ok (record p { start = place })) h)
part_known labels p line section (statement.Task task) h =
    descriptor_known labels line task (first_does (descriptor labels line task) (λ new. Ok (record p { tasks = p.tasks ++ new ∷ [] })) h)
part_known labels p line section (statement.Bytes bytes) h = refl
part_known labels p line section (statement.Space size) h = refl
part_known labels p line section (statement.Code i marks) h =
    instruction_known labels line i (first_does (spelled labels line i) (λ code. Ok (with_code p (all_marked marks code))) h)
part_known labels p line section statement.Empty h = refl
part_known labels p line section (statement.Label name) h = refl
part_known labels p line section (statement.Section other) h = refl

parts_known_if : (labels : Names) (p : Listing) (items : List PlacedStatement) → succeeds (parts labels p items) ≡ true → known labels items ≡ Ok tt
parts_known_if labels p [] h = refl
parts_known_if labels p (item ∷ items) h =
    let here = part_known labels p item.line item.section item.statement (first_does (with_part labels p item) (λ next. parts labels next items) h) in
    let behind = rest_does (with_part labels p item) (λ next. parts labels next items) h in
    ap (λ b. if b then known labels items else Err (fault.Unknown item.line)) here
    ∙ parts_known_if labels behind.0 items behind.1

parts_known : (labels : Names) (p made : Listing) (items : List PlacedStatement) → parts labels p items ≡ Ok made → known labels items ≡ Ok tt
parts_known labels p made items h = parts_known_if labels p items (ap succeeds h)

-- where there are parts, no name has to be looked up for a fault
pub built_of : (items : List PlacedStatement) (layout : Layout) (made : Listing) → is_beyond layout.sizes ≡ false → parts layout.labels no_parts items ≡ Ok made
    → program_of items layout ≡ built made (build_fault made)
unfolding program_of
built_of items layout made within h =
    ap (λ (r : Result (Unit {0}) AsmFault). r >>= λ _. if is_beyond layout.sizes then Err (fault.Build TooMany) else (parts layout.labels no_parts items >>= λ p. built p (build_fault p))) (parts_known layout.labels no_parts made items h)
    ∙ (ap (λ b. if b then Err (fault.Build TooMany) else (parts layout.labels no_parts items >>= λ p. built p (build_fault p))) within
    ∙ ap (λ (r : Result Listing AsmFault). r >>= λ p. built p (build_fault p)) h)

-- what the last stage gives is an answer to itself
pub built_answers : (p : Listing) (f : Option BuildFault) → Answers (λ q. q) (built p f) (built p f)
built_answers p None = refl
built_answers p (Some f) = refl
