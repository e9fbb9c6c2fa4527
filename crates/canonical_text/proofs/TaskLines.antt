-- The line of a task is read as that task.
use Rattle.canonical_text.proofs.Imports.{◌≡◌, ℕ, ◌≤◌, ◌<◌, ◌^◌, List, [], ◌∷◌, ◌++◌, true, Option, Some, None, Result, Ok, map, refl, ap, sym, ◌∙◌, append_assoc, ◌==◌, find, nat_le, pos, codes, list_all, and_from, le-leb, append-nil, list_all-append, is_name, Descriptor, kind_of, token_of, Token, Small, line, listed, register_text, members, place_text, task_line, ◌>>=◌, registers_at, with_registers, places_of, targets_of, create_at, targets_at, task_of, with_marks, statement_of, StatementFault, Target, Statement}
use Rattle.std.specs.List.{AllByRecursion as All}
use Rattle.program_tokens.specs.declared.token.Token.TheVariants as token
use Rattle.program_tokens.specs.declared.token.Directive.TheVariants as directive
use Rattle.program_statements.specs.declared.operand.Operand.{Operand}
use Rattle.program_statements.specs.declared.operand.Operand.TheVariants as operand
use Rattle.program_statements.specs.declared.statement.Section.TheVariants as section
use Rattle.program_statements.specs.declared.statement.Target.TheVariants as target
use Rattle.canonical_text.proofs.Spelling.{Reads, blank, joined, directive_stops, token as one_token}
use Rattle.canonical_text.proofs.PiecesReadBack.{name_reads, equals, minus}
use Rattle.canonical_text.proofs.Operations.{ReadEach, done, more, comma_tokens, commas_read, register_tokens, registers_read, members_below, place_token_named, place_token, place_reads}
use Rattle.canonical_text.proofs.SetTexts.{registers_back, members_back}
use Rattle.canonical_text.proofs.Meanings.{target_named, target_of}
use Rattle.canonical_text.proofs.MarkedLines.{marked_statement}
use Rattle.canonical_text.proofs.CodeLines.{is_plain, plain_unmarked, place_plain, registers_plain}
use Rattle.canonical_text.proofs.SourceItems.{task_statement}

-- Lists that may be empty.

abbrev pub listed_tokens : List (List Token) → List Token
listed_tokens [] = token.Minus ∷ []
listed_tokens (first ∷ others) = comma_tokens (first ∷ others)

pub listed_reads : {texts : List (List ℕ)} {tokens : List (List Token)} → ReadEach texts tokens → Reads (listed texts) (listed_tokens tokens)
listed_reads done = minus
listed_reads (more r others) = commas_read (more r others)

-- Registers.

create_back : (rs : List ℕ) (name : List ℕ) (rest : List Token)
    → create_at (listed_tokens (register_tokens rs) ++ (token.Name name ∷ rest)) ≡ Ok (with_registers 0 rs, token.Name name ∷ rest)
unfolding registers_at
create_back [] name rest = refl
create_back (r ∷ []) name rest =
    ap (λ read. read >>= λ x. Ok (with_registers 0 x.0, x.1)) (registers_back r [] (token.Name name ∷ rest) refl)
create_back (r ∷ q ∷ rs) name rest =
    ap (λ read. read >>= λ x. Ok (with_registers 0 x.0, x.1)) (registers_back r (q ∷ rs) (token.Name name ∷ rest) refl)

-- Places.

abbrev pub place_tokens : List Descriptor → List ℕ → List (List Token)
place_tokens tasks places = map (λ place. place_token tasks place ∷ []) places

abbrev operand_named : Option Descriptor → ℕ → Operand
operand_named (Some task) place = operand.Label task.name
operand_named None place = operand.Index (Small (pos place))

abbrev operand_at : List Descriptor → ℕ → Operand
operand_at tasks place = operand_named (find (λ t. t.entry == place) tasks) place

last_place : (at : Option Descriptor) (place : ℕ) → places_of (place_token_named at place ∷ []) ≡ Ok (operand_named at place ∷ [])
unfolding places_of
last_place (Some task) place = refl
last_place None place = refl

next_place : (at : Option Descriptor) (place : ℕ) (rest : List Token)
    → places_of (place_token_named at place ∷ token.Comma ∷ rest) ≡ (places_of rest >>= λ others. Ok (operand_named at place ∷ others))
unfolding places_of
next_place (Some task) place rest = refl
next_place None place rest = refl

places_back : (tasks : List Descriptor) (place : ℕ) (places : List ℕ)
    → places_of (comma_tokens (place_tokens tasks (place ∷ places))) ≡ Ok (map (operand_at tasks) (place ∷ places))
places_back tasks place [] = last_place (find (λ t. t.entry == place) tasks) place
places_back tasks place (second ∷ places) =
    next_place (find (λ t. t.entry == place) tasks) place (comma_tokens (place_tokens tasks (second ∷ places)))
    ∙ ap (λ read. read >>= λ others. Ok (operand_at tasks place ∷ others)) (places_back tasks second places)

no_dash : (at : Option Descriptor) (place : ℕ) (rest : List Token) → targets_at (place_token_named at place ∷ rest) ≡ places_of (place_token_named at place ∷ rest)
no_dash (Some task) place rest = refl
no_dash None place rest = refl

one_target : (at : Option Descriptor) (place : ℕ) (others : List Operand) (targets : List Target) → place ≤ 4096 → targets_of others ≡ Ok targets
    → targets_of (operand_named at place ∷ others) ≡ Ok (target_named at place ∷ targets)
unfolding targets_of
one_target (Some task) place others targets within is = ap (λ read. read >>= λ others. Ok (target.Label task.name ∷ others)) is
one_target None place others targets within is =
    let test : nat_le place 4096 ≡ true = le-leb place 4096 within in
    rw test (ap (λ read. read >>= λ others. Ok (target.Index place ∷ others)) is)

all_targets : (tasks : List Descriptor) (places : List ℕ) → All (λ place. place ≤ 4096) places
    → targets_of (map (operand_at tasks) places) ≡ Ok (map (target_of tasks) places)
unfolding targets_of
all_targets tasks [] h = refl
all_targets tasks (place ∷ places) h =
    one_target (find (λ t. t.entry == place) tasks) place (map (operand_at tasks) places) (map (target_of tasks) places) h.0 (all_targets tasks places h.1)

operands_back : (tasks : List Descriptor) (places : List ℕ) → targets_at (listed_tokens (place_tokens tasks places)) ≡ Ok (map (operand_at tasks) places)
operands_back tasks [] = refl
operands_back tasks (place ∷ []) = no_dash (find (λ t. t.entry == place) tasks) place [] ∙ places_back tasks place []
operands_back tasks (place ∷ second ∷ places) =
    no_dash (find (λ t. t.entry == place) tasks) place (token.Comma ∷ comma_tokens (place_tokens tasks (second ∷ places))) ∙ places_back tasks place (second ∷ places)

-- The whole line.

abbrev pub task_operands : List Descriptor → Descriptor → List Token
task_operands tasks task =
    token.Name task.name ∷ token.Name (codes "create") ∷ token.Equals ∷ (listed_tokens (register_tokens (members task.create))
    ++ (token.Name (codes "targets") ∷ token.Equals ∷ listed_tokens (place_tokens tasks task.targets)))

abbrev pub task_text : List Descriptor → Descriptor → List ℕ
task_text tasks task =
    codes ".task " ++ (task.name ++ (codes " create=" ++ (listed (map register_text (members task.create))
    ++ (codes " targets=" ++ listed (map (place_text tasks) task.targets)))))

pub task_line_is : (tasks : List Descriptor) (task : Descriptor) → task_line tasks task ≡ line (task_text tasks task)
task_line_is tasks task = simp append_assoc

directive_reads : Reads (codes ".task") (token.Directive directive.Task ∷ [])
unfolding kind_of token_of
directive_reads = one_token 46 46 (codes "task") (token.Directive directive.Task) directive_stops (λ rest _. refl) refl refl refl refl refl refl

places_read : (tasks : List Descriptor) (places : List ℕ) → All (λ t. is_name t.name ≡ true) tasks → All (λ place. place ≤ 4096) places
    → ReadEach (map (place_text tasks) places) (place_tokens tasks places)
places_read tasks [] named h = done
places_read tasks (place ∷ places) named h = more (place_reads tasks place named h.0) (places_read tasks places named h.1)

pub task_reads : (tasks : List Descriptor) (task : Descriptor) → All (λ t. is_name t.name ≡ true) tasks → is_name task.name ≡ true → All (λ place. place ≤ 4096) task.targets
    → Reads (task_text tasks task) (token.Directive directive.Task ∷ task_operands tasks task)
task_reads tasks task all named within =
    joined 32 refl directive_reads (blank (joined 32 refl (name_reads task.name named) (blank (joined 61 refl (name_reads (codes "create") refl)
    (equals (joined 32 refl (listed_reads (registers_read (members task.create) (members_below task.create)))
    (blank (joined 61 refl (name_reads (codes "targets") refl) (equals (listed_reads (places_read tasks task.targets all within)))))))))))

task_means : (tasks : List Descriptor) (task : Descriptor) → task.create < 2 ^ 34 → All (λ place. place ≤ 4096) task.targets
    → task_of (task_operands tasks task) ≡ Ok (task_statement tasks task)
unfolding task_of
task_means tasks task small within =
    let create = create_back (members task.create) (codes "targets") (token.Equals ∷ listed_tokens (place_tokens tasks task.targets)) in
    let set = members_back task.create small in
    let operands = operands_back tasks task.targets in
    let targets = all_targets tasks task.targets within in
    rw (create, operands, targets, set) refl

places_plain : (tasks : List Descriptor) (places : List ℕ) → list_all is_plain (comma_tokens (place_tokens tasks places)) ≡ true
places_plain tasks [] = refl
places_plain tasks (place ∷ []) = and_from _ true (place_plain (find (λ t. t.entry == place) tasks) place) refl
places_plain tasks (place ∷ second ∷ places) = and_from _ _ (place_plain (find (λ t. t.entry == place) tasks) place) (places_plain tasks (second ∷ places))

listed_plain : (tokens : List (List Token)) → list_all is_plain (comma_tokens tokens) ≡ true → list_all is_plain (listed_tokens tokens) ≡ true
listed_plain [] h = refl
listed_plain (t ∷ ts) h = h

task_plain : (tasks : List Descriptor) (task : Descriptor) → list_all is_plain (token.Directive directive.Task ∷ task_operands tasks task) ≡ true
task_plain tasks task =
    list_all-append is_plain (listed_tokens (register_tokens (members task.create))) (token.Name (codes "targets") ∷ token.Equals ∷ listed_tokens (place_tokens tasks task.targets))
    ∙ and_from _ _ (listed_plain (register_tokens (members task.create)) (registers_plain (members task.create)))
    (listed_plain (place_tokens tasks task.targets) (places_plain tasks task.targets))

pub task_said : (tasks : List Descriptor) (task : Descriptor) → task.create < 2 ^ 34 → All (λ place. place ≤ 4096) task.targets
    → statement_of section.Text (token.Directive directive.Task ∷ task_operands tasks task) ≡ Ok (task_statement tasks task)
task_said tasks task small within =
    ap (λ (ts : List Token). statement_of section.Text ts) (sym (append-nil (token.Directive directive.Task ∷ task_operands tasks task)))
    ∙ marked_statement section.Text (token.Directive directive.Task) (task_operands tasks task) [] (plain_unmarked (token.Directive directive.Task ∷ task_operands tasks task) (task_plain tasks task)) refl refl
    ∙ ap (λ (r : Result Statement StatementFault). r >>= with_marks []) (task_means tasks task small within)
