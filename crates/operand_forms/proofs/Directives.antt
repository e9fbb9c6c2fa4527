-- The law, for each directive.
use Rattle.std.proofs.Common.{◌≡◌, ℕ, List, [], ◌∷◌, Bool, true, false, cond, codes, Option, Some, None, refl, sym, ap, ◌∙◌}
use Rattle.std.specs.Prelude.{pos}
use Rattle.std.specs.Str.{bytes_eq}
use Rattle.std.proofs.lemmas.Bool.Decides.{same_from_decides, Decides-like}
use Rattle.std.proofs.lemmas.Slice.Eq.{bytes_eq-Decides}
use Rattle.program_tokens.specs.Grammar.{directive_of as directive_named}
use Rattle.program_tokens.specs.declared.token.Token.{Token}
use Rattle.program_tokens.specs.declared.token.Token.TheVariants as token
use Rattle.program_tokens.specs.declared.token.Directive.{Directive}
use Rattle.program_tokens.specs.declared.token.Directive.TheVariants as directive
use Rattle.program_statements.specs.Ranges.{natural}
use Rattle.program_statements.specs.Statements.{start_of, no_operands, space_of, directive_of}
use Rattle.program_statements.specs.declared.statement.Section.TheVariants as section
use Rattle.program_statements.specs.declared.statement.Statement.{Statement}
use Rattle.program_statements.specs.declared.statement.Statement.TheVariants as statement
use Rattle.operand_forms.specs.declared.shape.OperandShape.{OperandShape}
use Rattle.operand_forms.specs.declared.shape.OperandShape.TheVariants as shape
use Rattle.operand_forms.specs.Shapes.{shape_of, range}
use Rattle.operand_forms.specs.Meant.{is_within}
use Rattle.operand_forms.specs.OperandForms.{directive_shape, shape_fault, fault_of}
use Rattle.operand_forms.proofs.RangeTests.{carried, natural_fault, one_number}
use Rattle.operand_forms.proofs.DataLists.{words_agree, bytes_agree}
use Rattle.operand_forms.proofs.TaskLine.{task_agrees}

start_agrees : (ts : List Token) → fault_of (start_of ts) ≡ shape_fault (Some shape.Start) ts
start_agrees (token.Name name ∷ []) = refl
start_agrees ts = refl

nothing_agrees : (s : Statement) (ts : List Token) → fault_of (no_operands s ts) ≡ shape_fault (Some shape.Nothing) ts
nothing_agrees s [] = refl
nothing_agrees s (t ∷ ts) = refl

space_agrees : (ts : List Token) → fault_of (space_of ts) ≡ shape_fault (Some shape.Space) ts
space_agrees (token.Number n ∷ []) =
    carried (natural 65536 n) (λ size. statement.Space size) ∙ (natural_fault 65536 n ∙ one_number (is_within (range (pos 0) (pos 65536)) n))
space_agrees ts = refl

abbrev own_shape : Directive → Option OperandShape
own_shape directive.Start = Some shape.Start
own_shape directive.Task = Some shape.Task
own_shape directive.Text = Some shape.Nothing
own_shape directive.Data = Some shape.Nothing
own_shape directive.Rodata = Some shape.Nothing
own_shape directive.Word = Some shape.Words
own_shape directive.Byte = Some shape.Bytes
own_shape directive.Space = Some shape.Space
own_shape directive.Unknown = None

read_so : (d : Directive) (ts : List Token) → fault_of (directive_of section.Data d ts) ≡ shape_fault (own_shape d) ts
read_so directive.Start ts = start_agrees ts
read_so directive.Task ts = task_agrees ts
read_so directive.Text ts = nothing_agrees (statement.Section section.Text) ts
read_so directive.Data ts = nothing_agrees (statement.Section section.Data) ts
read_so directive.Rodata ts = nothing_agrees (statement.Section section.Rodata) ts
read_so directive.Word ts = words_agree ts
read_so directive.Byte ts = bytes_agree ts
read_so directive.Space ts = space_agrees ts
read_so directive.Unknown ts = refl

-- the words of both tables

swapped : (a b : List ℕ) → bytes_eq a b ≡ bytes_eq b a
swapped a b = same_from_decides (bytes_eq a b) (bytes_eq b a) (bytes_eq-Decides a b) (Decides-like (bytes_eq b a) (λ e. sym e) (λ e. sym e) (bytes_eq-Decides b a))

-- a row, and the rows after it
row_so : (word letters : List ℕ) (d : Directive) (others : Directive) (later : Option OperandShape) → later ≡ own_shape others
    → cond (bytes_eq word letters) (own_shape d) later ≡ own_shape (cond (bytes_eq letters word) d others)
row_so word letters d others later e =
    elim (bytes_eq letters word) as (λ b. bytes_eq word letters ≡ b → cond (bytes_eq word letters) (own_shape d) later ≡ own_shape (cond b d others))
    [ true ↦ λ same. ap (λ (b : Bool). cond b (own_shape d) later) same | false ↦ λ other. ap (λ (b : Bool). cond b (own_shape d) later) other ∙ e ] (swapped word letters)

shape_so : (letters : List ℕ) → directive_shape letters ≡ own_shape (directive_named letters)
unfolding shape_of
shape_so letters =
    row_so (codes "start") letters directive.Start _ _ (row_so (codes "task") letters directive.Task _ _ (row_so (codes "text") letters directive.Text _ _
    (row_so (codes "data") letters directive.Data _ _ (row_so (codes "rodata") letters directive.Rodata _ _ (row_so (codes "word") letters directive.Word _ _
    (row_so (codes "byte") letters directive.Byte _ _ (row_so (codes "space") letters directive.Space directive.Unknown None refl)))))))

pub agrees : (letters : List ℕ) (ts : List Token) → fault_of (directive_of section.Data (directive_named letters) ts) ≡ shape_fault (directive_shape letters) ts
agrees letters ts = read_so (directive_named letters) ts ∙ ap (λ s. shape_fault s ts) (sym (shape_so letters))
