-- The operands of a line of code are its tokens before the marks.
use Rattle.std.proofs.Common.{◌≡◌, ℕ, suc, ◌+◌, ◌-◌, ◌≤◌, ◌↔◌, List, [], ◌∷◌, ◌++◌, Bool, true, false, cond, length, take, drop, Option, Some, None, Result, Ok, Err, arith, refl, ap, sym, ◌∙◌}
use Rattle.std.specs.Prelude.{reverse}
use Rattle.std.specs.List.{prefix_len}
use Rattle.std.proofs.lemmas.Bool.{cond-false}
use Rattle.std.proofs.lemmas.List.{reverse-append, length-take-le, length-reverse}
use Rattle.std.proofs.lemmas.List.Sums.{prefix_len-le-length}
use Rattle.program_tokens.specs.declared.token.Token.{Token}
use Rattle.program_tokens.specs.declared.token.Token.TheVariants as token
use Rattle.program_tokens.specs.declared.token.Mark.TheVariants as mark
use Rattle.task_descriptor.specs.declared.descriptor.Stop.{Stop}
use Rattle.task_descriptor.specs.declared.descriptor.Stop.TheVariants as stop
use Rattle.mips_instructions.specs.declared.instruction.Mnemonic.{Mnemonic}
use Rattle.mips_instructions.specs.InstructionTable.{mnemonic_named, mnemonics}
use Rattle.program_statements.specs.Steps.{◌>>=◌}
use Rattle.program_statements.specs.Statements.{is_mark, mark_count, instruction_of, of_mnemonic, no_marks, with_stop, with_mark, marks_after, unmarked, with_marks, statement_of}
use Rattle.program_statements.specs.declared.fault.StatementFault.{StatementFault}
use Rattle.program_statements.specs.declared.fault.StatementFault.TheVariants as fault
use Rattle.program_statements.specs.declared.statement.Section.TheVariants as section
use Rattle.program_statements.specs.declared.statement.Marks.{Marks}
use Rattle.program_statements.specs.declared.statement.Instruction.{Instruction}
use Rattle.program_statements.specs.declared.statement.Statement.{Statement}
use Rattle.program_statements.specs.declared.statement.Statement.TheVariants as statement
use Rattle.operand_forms.specs.Meant.{without_marks}
use Rattle.operand_forms.specs.OperandForms.{instruction_fault, fault_of}
use Rattle.operand_forms.proofs.AllMnemonics.{agrees}

-- How many marks stand at the end: a name before all adds none.

counted : (ts : List Token) → mark_count ts ≡ prefix_len is_mark (reverse ts)
counted ts = length-take-le (prefix_len is_mark (reverse ts)) (reverse ts) (prefix_len-le-length is_mark (reverse ts))

no_more : (ts : List Token) (t : Token) → is_mark t ≡ false → prefix_len is_mark (ts ++ t ∷ []) ≡ prefix_len is_mark ts
no_more [] t e = cond-false (is_mark t) (1 + 0) 0 e
no_more (u ∷ ts) t e = ap (λ n. cond (is_mark u) (1 + n) 0) (no_more ts t e)

after_name : (name : List ℕ) (ts : List Token) → mark_count (token.Name name ∷ ts) ≡ mark_count ts
after_name name ts =
    counted (token.Name name ∷ ts)
    ∙ (ap (prefix_len is_mark) (reverse-append (token.Name name ∷ []) ts) ∙ (no_more (reverse ts) (token.Name name) refl ∙ sym (counted ts)))

few_marks : (ts : List Token) → mark_count ts ≤ length ts
few_marks ts = let few = prefix_len-le-length is_mark (reverse ts) in omega (arith, counted ts, length-reverse ts)

before_marks : (name : List ℕ) (ts : List Token) → length (token.Name name ∷ ts) - mark_count (token.Name name ∷ ts) ≡ suc (length ts - mark_count ts)
before_marks name ts = omega (arith, after_name name ts, few_marks ts)

-- What is wrong with marks is no fault of operands.

abbrev OnlyMark : Result Marks StatementFault → Type 0
OnlyMark (Ok marks) = Unit {0}
OnlyMark (Err f) = f ≡ fault.Mark

abbrev stopped : Marks → Stop → Stop → Result Marks StatementFault
stopped marks new old = elim old [
  | stop.None ↦ Ok (record { forward = marks.forward; stop = new })
  | stop.Always ↦ Err fault.Mark
  | stop.Taken ↦ Err fault.Mark
  | stop.NotTaken ↦ Err fault.Mark
]

stop_only : (marks : Marks) (new : Stop) → OnlyMark (with_stop marks new)
stop_only marks new = elim marks.stop as (λ old. OnlyMark (stopped marks new old)) [ stop.None ↦ tt | stop.Always ↦ refl | stop.Taken ↦ refl | stop.NotTaken ↦ refl ]

abbrev forwarded : Marks → Bool → Result Marks StatementFault
forwarded marks already = cond already (Err fault.Mark) (Ok (record { forward = true; stop = marks.stop }))

mark_only : (marks : Marks) (t : Token) → OnlyMark (with_mark marks t)
mark_only marks (token.Mark mark.Forward) = elim marks.forward as (λ already. OnlyMark (forwarded marks already)) [ true ↦ refl | false ↦ tt ]
mark_only marks (token.Mark mark.Always) = stop_only marks stop.Always
mark_only marks (token.Mark mark.Taken) = stop_only marks stop.Taken
mark_only marks (token.Mark mark.NotTaken) = stop_only marks stop.NotTaken
mark_only marks t = refl

after_only : (marks : Marks) (ts : List Token) → OnlyMark (marks_after marks ts)
after_only marks [] = tt
after_only marks (t ∷ ts) =
    (elim (with_mark marks t) as (λ r. OnlyMark r → OnlyMark (r >>= λ more. marks_after more ts))
    [ Ok more ↦ λ _. after_only more ts | Err f ↦ λ e. e ]) (mark_only marks t)

with_it : (i : Instruction) (r : Result Marks StatementFault) (f : StatementFault) → OnlyMark r → (r >>= λ all. Ok (statement.Code i all)) ≡ Err f → f ≡ fault.Mark
with_it i (Ok all) f only e = absurd cc
with_it i (Err g) f only e = let same : Some g ≡ Some f = ap fault_of e in cc

-- The line.

abbrev as_result : Option StatementFault → Result Statement StatementFault
as_result None = Ok statement.Empty
as_result (Some f) = Err f

abbrev code_with : List Token → Result Instruction StatementFault → Result Statement StatementFault
code_with marks read = (read >>= λ i. Ok (statement.Code i no_marks)) >>= with_marks marks

told : (marks : List Token) (f : StatementFault) → (f ≡ fault.Mark → ⊥) → (read : Result Instruction StatementFault)
    → (code_with marks read ≡ Err f) ↔ (fault_of read ≡ Some f)
told marks f other (Ok i) = (λ e. absurd (other (with_it i (marks_after no_marks marks) f (after_only no_marks marks) e)), λ e. absurd cc)
told marks f other (Err g) = (λ e. ap fault_of e, λ e. ap as_result e)

abbrev its_marks : List Token → List Token
its_marks ts = drop (length ts - mark_count ts) ts

line_read : (name : List ℕ) (m : Mnemonic) (ts : List Token) → mnemonic_named name mnemonics ≡ Some m
    → statement_of section.Text (token.Name name ∷ ts) ≡ code_with (its_marks ts) (instruction_of m (without_marks ts))
line_read name m ts found =
    ap (λ n. unmarked section.Text (take n (token.Name name ∷ ts)) >>= with_marks (drop n (token.Name name ∷ ts))) (before_marks name ts)
    ∙ ap (λ (o : Option Mnemonic). of_mnemonic o (without_marks ts) >>= with_marks (its_marks ts)) found

pub line_agrees : (name : List ℕ) (m : Mnemonic) (ts : List Token) (f : StatementFault) → mnemonic_named name mnemonics ≡ Some m → (f ≡ fault.Mark → ⊥)
    → (statement_of section.Text (token.Name name ∷ ts) ≡ Err f) ↔ (instruction_fault m (without_marks ts) ≡ Some f)
line_agrees name m ts f found other =
    let read = line_read name m ts found in
    let both = told (its_marks ts) f other (instruction_of m (without_marks ts)) in
    (λ e. sym (agrees m (without_marks ts)) ∙ both.0 (sym read ∙ e), λ e. read ∙ both.1 (agrees m (without_marks ts) ∙ e))
