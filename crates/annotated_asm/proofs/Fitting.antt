-- Where a text spells a program, its map has a place for each instruction and each task: line by line the
-- map grows as the program does.
use Rattle.std.proofs.Common.{◌≡◌, ℕ, suc, ◌+◌, ◌-◌, ◌*◌, ◌/◌, ◌%◌, ◌^◌, Bool, true, false, if◌then◌else◌, List, [], ◌∷◌, ◌++◌, length, drop, map, replicate, Option, Some, None, Result, Ok, Err, refl, ap, sym, ◌∙◌, subst, length-append, arith}
use Rattle.std.specs.Prelude.{nat_lt}
use Rattle.std.proofs.lemmas.List.{length-replicate}
use Rattle.mips_instructions.specs.declared.instruction.Op.{Op}
use Rattle.mips_instructions.specs.declared.instruction.Op.TheVariants as op
use Rattle.mips_instructions.specs.declared.instruction.LogicKind.TheVariants.{Ori}
use Rattle.task_descriptor.specs.Listing.{Listing, build_fault}
use Rattle.task_descriptor.specs.declared.program.BuildFault.{BuildFault}
use Rattle.program_tokens.specs.Lines.{lines}
use Rattle.program_tokens.specs.Grammar.{line_tokens}
use Rattle.program_tokens.specs.Spans.{line_spans}
use Rattle.program_statements.specs.Steps.{◌>>=◌}
use Rattle.program_statements.specs.Statements.{statement_of}
use Rattle.program_statements.specs.declared.statement.Section.{Section}
use Rattle.program_statements.specs.declared.statement.Section.TheVariants as section
use Rattle.program_statements.specs.declared.statement.Marks.{Marks}
use Rattle.program_statements.specs.declared.statement.Instruction.{Instruction}
use Rattle.program_statements.specs.declared.statement.Instruction.TheVariants as instruction
use Rattle.program_statements.specs.declared.statement.Statement.{Statement}
use Rattle.program_statements.specs.declared.statement.Statement.TheVariants as statement
use Rattle.annotated_asm.specs.Items.{labels_of, after_labels, on_line, tokens_on_line, section_after, label_item, statement_items, line_items, items_from}
use Rattle.annotated_asm.specs.Layout.{instruction_count, laid, no_layout, is_beyond}
use Rattle.annotated_asm.specs.Resolve.{code_label, place_of, target_place, label_address, spelled, all_marked, with_data, with_code, descriptor, with_part, parts, no_parts, known}
use Rattle.annotated_asm.specs.ProgramText.{built, program_of, parse}
use Rattle.annotated_asm.specs.Tables.{Names, lookup}
use Rattle.annotated_asm.specs.declared.fault.AsmFault.{AsmFault}
use Rattle.annotated_asm.specs.declared.fault.AsmFault.TheVariants as fault
use Rattle.annotated_asm.specs.declared.item.PlacedStatement.{PlacedStatement}
use Rattle.task_descriptor.specs.declared.program.BuildFault.TheVariants.{TooMany}
use Rattle.annotated_asm.proofs.Runs.{parts_append}
use Rattle.program_tokens.specs.declared.span.TokenSpan.{TokenSpan}
use Rattle.program_tokens.specs.declared.token.Token.{Token}
use Rattle.annotated_asm.specs.declared.position.LabelSource.{LabelSource}
use Rattle.annotated_asm.specs.Sources.{Sources, HasPlacesOf, no_sources, token_position, width_between, task_lists, targets_number, target_stretches, label_sources, with_labels, with_statement, with_line, with_lines, sources_of}
use Rattle.annotated_asm.proofs.LineSteps.{line_read, line_more}

-- a stage that gives a value comes after one that does
first_ok : {A B F : Type 0} (r : Result A F) (f : A → Result B F) (b : B) → (r >>= f) ≡ Ok b → (a : A) × (r ≡ Ok a) × (f a ≡ Ok b)
first_ok (Ok a) f b h = (a, refl, h)
first_ok (Err e) f b h = absurd cc

-- what is said of the value of two stages, where it is so of each value of the second
after_ok : {A B F : Type 0} (P : B → Type 0) (r : Result A F) (f : A → B) (b : B) → ((a : A) → P (f a)) → (r >>= λ a. Ok (f a)) ≡ Ok b → P b
after_ok P (Ok a) f b each h = let same : f a ≡ b = cc in subst P same (each a)
after_ok P (Err e) f b each h = absurd cc

-- how many instructions of the machine an instruction is
spelled_count : (labels : Names) (n : ℕ) (i : Instruction) (code : List Op) → spelled labels n i ≡ Ok code → length code ≡ instruction_count i
spelled_count labels n (instruction.One o) code h = let same : o ∷ [] ≡ code = cc in ap length (sym same)
spelled_count labels n (instruction.Two a b) code h = let same : a ∷ b ∷ [] ≡ code = cc in ap length (sym same)
spelled_count labels n (instruction.BranchTwo kind rs rt target) code h =
    after_ok (λ (os : List Op). length os ≡ 1) (target_place labels n target) (λ place. op.BranchTwo kind rs rt place ∷ []) code (λ place. refl) h
spelled_count labels n (instruction.BranchOne kind rs target) code h =
    after_ok (λ (os : List Op). length os ≡ 1) (target_place labels n target) (λ place. op.BranchOne kind rs place ∷ []) code (λ place. refl) h
spelled_count labels n (instruction.Jump target) code h =
    after_ok (λ (os : List Op). length os ≡ 1) (target_place labels n target) (λ place. op.Jump place ∷ []) code (λ place. refl) h
spelled_count labels n (instruction.JumpLink target) code h =
    after_ok (λ (os : List Op). length os ≡ 1) (target_place labels n target) (λ place. op.JumpLink place ∷ []) code (λ place. refl) h
spelled_count labels n (instruction.LoadAddress rd name) code h =
    after_ok (λ (os : List Op). length os ≡ 2) (label_address n (lookup labels name))
    (λ at. op.Lui rd (at / 2 ^ 16) ∷ op.Logic Ori rd rd (at % 2 ^ 16) ∷ []) code (λ at. refl) h

all_marked_count : (marks : Marks) (os : List Op) → length (all_marked marks os) ≡ length os
all_marked_count marks [] = refl
all_marked_count marks (o ∷ []) = refl
all_marked_count marks (o ∷ more ∷ os) = ap (λ n. suc n) (all_marked_count marks (more ∷ os))

with_data_fits : (s : Sources) (p : Listing) (here : Section) (bytes : List ℕ) → HasPlacesOf s p → HasPlacesOf s (with_data p here bytes)
with_data_fits s p section.Text bytes fits = fits
with_data_fits s p section.Data bytes fits = record { code = fits.code; widths = fits.widths; tasks = fits.tasks; lists = fits.lists; targets = fits.targets }
with_data_fits s p section.Rodata bytes fits = record { code = fits.code; widths = fits.widths; tasks = fits.tasks; lists = fits.lists; targets = fits.targets }

data_fits : (s : Sources) (p next : Listing) (here : Section) (bytes : List ℕ) → HasPlacesOf s p → (let made : Result Listing AsmFault = Ok (with_data p here bytes) in made ≡ Ok next) → HasPlacesOf s next
data_fits s p next here bytes fits h =
    let same : with_data p here bytes ≡ next = cc in subst (HasPlacesOf s) same (with_data_fits s p here bytes fits)

grown_by : {X Y : Type 0} (xs more : List X) (ys others : List Y) → length xs ≡ length ys → length more ≡ length others → length (xs ++ more) ≡ length (ys ++ others)
grown_by xs more ys others e f = omega (arith, length-append xs more, length-append ys others)

part_fits : (labels : Names) (s : Sources) (p next : Listing) (n : ℕ) (here : Section) (ss : List TokenSpan) (ts : List Token) (said : Statement) → HasPlacesOf s p
    → with_part labels p (record { line = n; section = here; statement = said }) ≡ Ok next → HasPlacesOf (with_statement s n ss ts here said) next
part_fits labels s p next n here ss ts (statement.Code i marks) fits h =
    let code = first_ok (spelled labels n i) (λ code. Ok (with_code p (all_marked marks code))) next h in
    let same : with_code p (all_marked marks code.0) ≡ next = let e = code.2 in cc in
    let count : instruction_count i ≡ length (all_marked marks code.0) = sym (all_marked_count marks code.0 ∙ spelled_count labels n i code.0 code.1) in
    let at = token_position n ss 0 in
    let width = width_between ss 0 (length ss - 1) in
    subst (HasPlacesOf (with_statement s n ss ts here (statement.Code i marks))) same (record {
      code = grown_by s.code (replicate (instruction_count i) at) p.code (all_marked marks code.0) fits.code (length-replicate (instruction_count i) at ∙ count);
      widths = grown_by s.widths (replicate (instruction_count i) width) p.code (all_marked marks code.0) fits.widths (length-replicate (instruction_count i) width ∙ count);
      tasks = fits.tasks;
      lists = fits.lists;
      targets = fits.targets;
    })
part_fits labels s p next n here ss ts (statement.Task task) fits h =
    after_ok (HasPlacesOf (with_statement s n ss ts here (statement.Task task))) (descriptor labels n task) (λ new. record p { tasks = p.tasks ++ new ∷ [] }) next
    (λ new. record {
      code = fits.code;
      widths = fits.widths;
      tasks = grown_by s.tasks (token_position n ss 0 ∷ []) p.tasks (new ∷ []) fits.tasks refl;
      lists = grown_by s.lists (task_lists n ss ts ∷ []) p.tasks (new ∷ []) fits.lists refl;
      targets = grown_by s.targets (target_stretches n (drop (targets_number ts + 2) ss) ∷ []) p.tasks (new ∷ []) fits.targets refl;
    }) h
part_fits labels s p next n here ss ts (statement.Start name) fits h =
    after_ok (HasPlacesOf (with_statement s n ss ts here (statement.Start name))) (place_of n (code_label labels name)) (λ place. record p { start = place }) next
    (λ place. record { code = fits.code; widths = fits.widths; tasks = fits.tasks; lists = fits.lists; targets = fits.targets }) h
part_fits labels s p next n here ss ts (statement.Bytes bytes) fits h =
    let kept = data_fits s p next here bytes fits h in record { code = kept.code; widths = kept.widths; tasks = kept.tasks; lists = kept.lists; targets = kept.targets }
part_fits labels s p next n here ss ts (statement.Space size) fits h =
    let kept = data_fits s p next here (replicate size 0) fits h in record { code = kept.code; widths = kept.widths; tasks = kept.tasks; lists = kept.lists; targets = kept.targets }
part_fits labels s p next n here ss ts statement.Empty fits h = let same : p ≡ next = cc in subst (HasPlacesOf s) same fits
part_fits labels s p next n here ss ts (statement.Label name) fits h = let same : p ≡ next = cc in subst (HasPlacesOf s) same fits
part_fits labels s p next n here ss ts (statement.Section other) fits h = let same : p ≡ next = cc in subst (HasPlacesOf s) same fits

statement_fits : (labels : Names) (s : Sources) (p next : Listing) (n : ℕ) (here : Section) (ss : List TokenSpan) (ts : List Token) (said : Statement) → HasPlacesOf s p
    → parts labels p (statement_items n here said) ≡ Ok next → HasPlacesOf (with_statement s n ss ts here said) next
statement_fits labels s p next n here ss ts statement.Empty fits h = let same : p ≡ next = cc in subst (HasPlacesOf s) same fits
statement_fits labels s p next n here ss ts said fits h =
    let k = first_ok (with_part labels p (record { line = n; section = here; statement = said })) (λ last. parts labels last []) next h in
    let same : k.0 ≡ next = let e = k.2 in cc in
    part_fits labels s p next n here ss ts said fits (k.1 ∙ ap (λ (q : Listing). let made : Result Listing AsmFault = Ok q in made) same)

-- labels add nothing to the program
labels_part : (labels : Names) (p : Listing) (n : ℕ) (here : Section) (names : List (List ℕ)) → parts labels p (map (label_item n here) names) ≡ Ok p
labels_part labels p n here [] = refl
labels_part labels p n here (name ∷ names) = labels_part labels p n here names

line_fits : (labels : Names) (s : Sources) (p next : Listing) (n : ℕ) (here : Section) (names : List (List ℕ)) (found : List LabelSource) (ss : List TokenSpan) (ts : List Token) (said : Statement)
    → HasPlacesOf s p → parts labels p (map (label_item n here) names ++ statement_items n here said) ≡ Ok next
    → HasPlacesOf (with_statement (with_labels s found) n ss ts here said) next
line_fits labels s p next n here names found ss ts said fits h =
    let split = sym (parts_append labels p (map (label_item n here) names) (statement_items n here said)) ∙ h in
    let behind = ap (λ (r : Result Listing AsmFault). r >>= λ q. parts labels q (statement_items n here said)) (sym (labels_part labels p n here names)) ∙ split in
    statement_fits labels (with_labels s found) p next n here ss ts said (record { code = fits.code; widths = fits.widths; tasks = fits.tasks; lists = fits.lists; targets = fits.targets }) behind

-- a map of these lines that fits the program
pub record Made (s : Sources) (n : ℕ) (here : Section) (ls : List (List ℕ)) (p : Listing) : Type 0 where
  pub sources : Sources
  pub made : with_lines s n here ls ≡ Ok sources
  pub fits : HasPlacesOf sources p

lines_fit : (labels : Names) (s : Sources) (p made : Listing) (n : ℕ) (here : Section) (ls : List (List ℕ)) (items : List PlacedStatement)
    → HasPlacesOf s p → items_from n here ls ≡ Ok items → parts labels p items ≡ Ok made → Made s n here ls made
unfolding with_lines items_from with_line line_items
lines_fit labels s p made n here [] items fits read built =
    let none : [] ≡ items = cc in
    let same : p ≡ made = (let e = ap (λ (xs : List PlacedStatement). parts labels p xs) none ∙ built in cc) in
    record { sources = s; made = refl; fits = subst (HasPlacesOf s) same fits }
lines_fit labels s p made n here (line ∷ ls) items fits read built =
    let first = first_ok (line_items n here line) (λ x. items_from (n + 1) x.1 ls >>= λ others. Ok (x.0 ++ others)) items read in
    let others = first_ok (items_from (n + 1) first.0.1 ls) (λ ys. Ok (first.0.0 ++ ys)) items first.2 in
    let tokens = first_ok (tokens_on_line n (line_tokens line)) (λ ts. on_line n (statement_of here (after_labels ts)) >>= λ said. Ok (map (label_item n here) (labels_of ts) ++ statement_items n here said, section_after here said)) first.0 first.1 in
    let said = first_ok (on_line n (statement_of here (after_labels tokens.0))) (λ x. Ok (map (label_item n here) (labels_of tokens.0) ++ statement_items n here x, section_after here x)) first.0 tokens.2 in
    let front : List PlacedStatement = map (label_item n here) (labels_of tokens.0) ++ statement_items n here said.0 in
    let is_first : (front, section_after here said.0) ≡ first.0 = (let e = said.2 in cc) in
    let all : front ++ others.0 ≡ items = (let e = others.2 in ap (λ (x : List PlacedStatement × Section). x.0 ++ others.0) is_first ∙ cc) in
    let split = first_ok (parts labels p front) (λ q. parts labels q others.0) made (sym (parts_append labels p front others.0) ∙ ap (λ (xs : List PlacedStatement). parts labels p xs) all ∙ built) in
    let found = label_sources n (line_spans line) 0 tokens.0 in
    let own = drop (2 * length (labels_of tokens.0)) (line_spans line) in
    let next = with_statement (with_labels s found) n own (after_labels tokens.0) here said.0 in
    let is_line : with_line s n here line ≡ Ok (next, section_after here said.0) = line_read s n here line tokens.0 said.0 tokens.1 said.1 in
    let rest = lines_fit labels next split.0 made (n + 1) (section_after here said.0) ls others.0
    (line_fits labels s p split.0 n here (labels_of tokens.0) found own (after_labels tokens.0) said.0 fits split.1)
    (ap (λ (x : List PlacedStatement × Section). items_from (n + 1) x.1 ls) is_first ∙ others.1) split.2 in
    record {
      sources = rest.sources;
      made = line_more s next n here (section_after here said.0) line ls is_line ∙ rest.made;
      fits = rest.fits;
    }

-- a choice that gives a value
chosen : {A F : Type 0} (b : Bool) (e : F) (r : Result A F) (x : A) → (if b then Err e else r) ≡ Ok x → (b ≡ false) × (r ≡ Ok x)
chosen true e r x h = absurd cc
chosen false e r x h = (refl, h)

built_is : (q p : Listing) (f : Option BuildFault) → built q f ≡ Ok p → q ≡ p
built_is q p None h = cc
built_is q p (Some f) h = absurd cc

pub text_fits : (text : List ℕ) (p : Listing) → parse text ≡ Ok p
    → (s : Sources) × (sources_of text ≡ Ok s) × HasPlacesOf s p
unfolding parse program_of sources_of
text_fits text p h =
    let short = chosen (nat_lt 4194304 (length text)) fault.TooLong (items_from 1 section.Text (lines text) >>= λ xs. laid no_layout xs >>= λ made. program_of xs made) p h in
    let items = first_ok (items_from 1 section.Text (lines text)) (λ xs. laid no_layout xs >>= λ made. program_of xs made) p short.1 in
    let layout = first_ok (laid no_layout items.0) (λ made. program_of items.0 made) p items.2 in
    let names = first_ok (known layout.0.labels items.0) (λ _. if is_beyond layout.0.sizes then Err (fault.Build TooMany) else (parts layout.0.labels no_parts items.0 >>= λ q. built q (build_fault q))) p layout.2 in
    let within = chosen (is_beyond layout.0.sizes) (fault.Build TooMany) (parts layout.0.labels no_parts items.0 >>= λ q. built q (build_fault q)) p names.2 in
    let made = first_ok (parts layout.0.labels no_parts items.0) (λ q. built q (build_fault q)) p within.1 in
    let same = built_is made.0 p (build_fault made.0) made.2 in
    let map = lines_fit layout.0.labels no_sources no_parts made.0 1 section.Text (lines text) items.0 (record { code = refl; widths = refl; tasks = refl; lists = refl; targets = refl }) items.1 made.1 in
    let fits = subst (HasPlacesOf map.sources) same map.fits in
    (map.sources, ap (λ (b : Bool). if b then Err fault.TooLong else with_lines no_sources 1 section.Text (lines text)) short.0 ∙ map.made, fits)
