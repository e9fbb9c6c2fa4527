-- A line of code, with its marks, is read as that instruction.
use Rattle.canonical_text.proofs.Imports.{◌≡◌, ℕ, List, [], ◌∷◌, ◌++◌, Bool, true, false, Option, Some, None, Result, Ok, map, refl, ap, ◌∙◌, ◌==◌, find, reverse, list_all, list_any, and_parts, and_from, or_from, false≢true, list_all-append, name_of, operands, InstructionOperand, Place, Registers, release_fits, Descriptor, Marked, Stop, Token, members, ◌>>=◌, is_mark, no_marks, unmarked, with_marks, statement_of, labels_of, after_labels, StatementFault, Instruction, Statement, IsInRange}
use Rattle.std.specs.Prelude.{length}
use Rattle.task_descriptor.specs.declared.descriptor.Stop.TheVariants as stop
use Rattle.program_tokens.specs.declared.token.Token.TheVariants as token
use Rattle.program_statements.specs.declared.statement.Section.TheVariants as section
use Rattle.program_statements.specs.declared.statement.Marks.{Marks}
use Rattle.program_statements.specs.declared.statement.Statement.TheVariants as statement
use Rattle.canonical_text.proofs.Operations.{comma_tokens, register_tokens, place_token_named, operand_tokens, behind_name, op_tokens, mark_tokens}
use Rattle.canonical_text.proofs.Meanings.{written, op_means}
use Rattle.canonical_text.proofs.MarkedLines.{marked_statement}
use Rattle.canonical_text.proofs.SourceItems.{code_statement}

-- neither a mark nor a colon
abbrev pub is_plain : Token → Bool
is_plain (token.Mark m) = false
is_plain token.Colon = false
is_plain t = true

no_mark : (t : Token) → is_plain t ≡ true → is_mark t ≡ false
no_mark (token.Mark m) h = absurd (false≢true h)
no_mark t h = refl

pub plain_unmarked : (ts : List Token) → list_all is_plain ts ≡ true → list_any is_mark ts ≡ false
plain_unmarked [] h = refl
plain_unmarked (t ∷ ts) h =
    let parts = and_parts (is_plain t) (list_all is_plain ts) h in
    or_from (is_mark t) (list_any is_mark ts) (no_mark t parts.0) (plain_unmarked ts parts.1)

pub place_plain : (at : Option Descriptor) (place : ℕ) → is_plain (place_token_named at place) ≡ true
place_plain (Some task) place = refl
place_plain None place = refl

pub registers_plain : (rs : List ℕ) → list_all is_plain (comma_tokens (register_tokens rs)) ≡ true
registers_plain [] = refl
registers_plain (r ∷ []) = refl
registers_plain (r ∷ q ∷ rs) = registers_plain (q ∷ rs)

operand_plain : (tasks : List Descriptor) (operand : InstructionOperand) → list_all is_plain (operand_tokens tasks operand) ≡ true
operand_plain tasks (Place place) = and_from _ true (place_plain (find (λ t. t.entry == place) tasks) place) refl
operand_plain tasks (Registers set) = registers_plain (members set)
operand_plain tasks _ = refl

operands_plain : (tasks : List Descriptor) (os : List InstructionOperand) → list_all is_plain (comma_tokens (map (operand_tokens tasks) os)) ≡ true
operands_plain tasks [] = refl
operands_plain tasks (o ∷ []) = operand_plain tasks o
operands_plain tasks (o ∷ p ∷ os) =
    list_all-append is_plain (operand_tokens tasks o) (token.Comma ∷ comma_tokens (map (operand_tokens tasks) (p ∷ os)))
    ∙ and_from _ _ (operand_plain tasks o) (operands_plain tasks (p ∷ os))

-- Nothing before it is a label.

no_colon_marks : (forward : Bool) (s : Stop) (name : List ℕ) → (labels_of (token.Name name ∷ mark_tokens forward s) ≡ []) × (after_labels (token.Name name ∷ mark_tokens forward s) ≡ token.Name name ∷ mark_tokens forward s)
no_colon_marks false stop.None name = (refl, refl)
no_colon_marks false _ name = (refl, refl)
no_colon_marks true stop.None name = (refl, refl)
no_colon_marks true _ name = (refl, refl)

no_label : (name : List ℕ) (t : Token) (rest : List Token) → is_plain t ≡ true
    → (labels_of (token.Name name ∷ t ∷ rest) ≡ []) × (after_labels (token.Name name ∷ t ∷ rest) ≡ token.Name name ∷ t ∷ rest)
no_label name token.Colon rest h = absurd (false≢true h)
no_label name t rest h = (refl, refl)

unlabelled : (name : List ℕ) (operands : List Token) (forward : Bool) (s : Stop) → list_all is_plain operands ≡ true
    → (labels_of ((token.Name name ∷ operands) ++ mark_tokens forward s) ≡ []) × (after_labels ((token.Name name ∷ operands) ++ mark_tokens forward s) ≡ (token.Name name ∷ operands) ++ mark_tokens forward s)
unlabelled name [] forward s h = no_colon_marks forward s name
unlabelled name (t ∷ ts) forward s h = no_label name t (ts ++ mark_tokens forward s) (and_parts (is_plain t) (list_all is_plain ts) h).0

-- Marks.

marks_are : (forward : Bool) (s : Stop) → list_all is_mark (reverse (mark_tokens forward s)) ≡ true
marks_are false stop.None = refl
marks_are false _ = refl
marks_are true stop.None = refl
marks_are true _ = refl

as_many : (forward : Bool) (s : Stop) → length (reverse (mark_tokens forward s)) ≡ length (mark_tokens forward s)
as_many false stop.None = refl
as_many false _ = refl
as_many true stop.None = refl
as_many true _ = refl

abbrev marks : Bool → Stop → Marks
marks forward s = record { forward = forward; stop = s }

marked_code : (i : Instruction) (forward : Bool) (s : Stop) → with_marks (mark_tokens forward s) (statement.Code i no_marks) ≡ Ok (statement.Code i (marks forward s))
marked_code i false stop.None = refl
marked_code i false _ = refl
marked_code i true stop.None = refl
marked_code i true _ = refl

code_of : (name : List ℕ) (operands : List Token) (i : Instruction) (forward : Bool) (s : Stop) → list_all is_plain operands ≡ true
    → unmarked section.Text (token.Name name ∷ operands) ≡ Ok (statement.Code i no_marks)
    → statement_of section.Text (after_labels ((token.Name name ∷ operands) ++ mark_tokens forward s)) ≡ Ok (statement.Code i (marks forward s))
code_of name operands i forward s plain means =
    ap (statement_of section.Text) (unlabelled name operands forward s plain).1
    ∙ marked_statement section.Text (token.Name name) operands (mark_tokens forward s) (plain_unmarked operands plain) (marks_are forward s) (as_many forward s)
    ∙ ap (λ (r : Result Statement StatementFault). r >>= with_marks (mark_tokens forward s)) means
    ∙ marked_code i forward s

-- What the tokens of a line of code say: no label, and the instruction with its marks.
pub code_said : (tasks : List Descriptor) (m : Marked) → IsInRange m.op → release_fits m.op ≡ true
    → (labels_of (op_tokens tasks m.op ++ mark_tokens m.forward m.stop) ≡ []) × (statement_of section.Text (after_labels (op_tokens tasks m.op ++ mark_tokens m.forward m.stop)) ≡ Ok (code_statement tasks m))
code_said tasks m range fits =
    let plain = operands_plain tasks (operands m.op) in (
      (unlabelled (name_of m.op) (behind_name tasks m.op) m.forward m.stop plain).0,
      code_of (name_of m.op) (behind_name tasks m.op) (written tasks m.op) m.forward m.stop plain (op_means tasks m.op range fits),
    )
