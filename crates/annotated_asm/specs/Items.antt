-- The items of a text: its labels and statements in order, each with its line, counted from 1,
-- and the section of that line. Each line is judged by itself and its section; the first line with a
-- fault is reported.
use Rattle.std.specs.Prelude.{ℕ, ◌+◌, List, [], ◌∷◌, ◌++◌, map, Result, Ok, Err}
use Rattle.program_tokens.specs.Grammar.{line_tokens}
use Rattle.program_tokens.specs.declared.token.Token.{Token}
use Rattle.program_tokens.specs.declared.token.Token.TheVariants as token
use Rattle.program_tokens.specs.declared.token.LineFault.{LineFault as TokenFault}
use Rattle.program_tokens.specs.declared.token.LineFault.TheVariants as token_fault
use Rattle.program_statements.specs.Steps.{◌>>=◌}
use Rattle.program_statements.specs.Statements.{statement_of}
use Rattle.program_statements.specs.declared.fault.StatementFault.{StatementFault}
use Rattle.program_statements.specs.declared.fault.StatementFault.TheVariants as statement_fault
use Rattle.annotated_asm.specs.declared.fault.AsmFault.{AsmFault}
use Rattle.annotated_asm.specs.declared.fault.AsmFault.TheVariants as fault
use Rattle.program_statements.specs.declared.statement.Section.{Section}
use Rattle.program_statements.specs.declared.statement.Statement.{Statement}
use Rattle.program_statements.specs.declared.statement.Statement.TheVariants as statement
use Rattle.annotated_asm.specs.declared.item.PlacedStatement.{PlacedStatement}

-- the names before the statement, each with a colon, and the tokens after them
abbrev pub labels_of : List Token → List (List ℕ)
labels_of (token.Name name ∷ token.Colon ∷ rest) = name ∷ labels_of rest
labels_of _ = []

abbrev pub after_labels : List Token → List Token
after_labels (token.Name name ∷ token.Colon ∷ rest) = after_labels rest
after_labels tokens = tokens

-- a statement's fault, as a fault of the text
abbrev pub at_line : ℕ → StatementFault → AsmFault
at_line n statement_fault.Mnemonic = fault.Mnemonic n
at_line n statement_fault.Operand = fault.Operand n
at_line n statement_fault.Number = fault.Number n
at_line n statement_fault.Mark = fault.Mark n

abbrev pub on_line : {A : Type 0} → ℕ → Result A StatementFault → Result A AsmFault
on_line n (Ok x) = Ok x
on_line n (Err f) = Err (at_line n f)

abbrev pub tokens_on_line : ℕ → Result (List Token) TokenFault → Result (List Token) AsmFault
tokens_on_line n (Ok tokens) = Ok tokens
tokens_on_line n (Err token_fault.NotAscii) = Err (fault.NotAscii n)
tokens_on_line n (Err token_fault.Token) = Err (fault.Token n)

abbrev pub label_item : ℕ → Section → List ℕ → PlacedStatement
label_item n here name = record { line = n; section = here; statement = statement.Label name }

abbrev pub blob : ℕ → Section → List ℕ → PlacedStatement
blob n here bytes = record { line = n; section = here; statement = statement.Bytes bytes }

-- an empty statement makes no item
abbrev pub statement_items : ℕ → Section → Statement → List PlacedStatement
statement_items n here statement.Empty = []
statement_items n here s = record { line = n; section = here; statement = s } ∷ []

-- the section of the lines after a statement
abbrev pub section_after : Section → Statement → Section
section_after here (statement.Section next) = next
section_after here _ = here

-- the items of one line, and the section after it
unfoldable pub line_items : ℕ → Section → List ℕ → Result (List PlacedStatement × Section) AsmFault
line_items n here line = do
  tokens ← tokens_on_line n (line_tokens line)
  s ← on_line n (statement_of here (after_labels tokens))
  Ok (map (label_item n here) (labels_of tokens) ++ statement_items n here s, section_after here s)

-- the items of these lines, the first of which has this number and section
unfoldable pub items_from : ℕ → Section → List (List ℕ) → Result (List PlacedStatement) AsmFault
items_from n here [] = Ok []
items_from n here (line ∷ lines) = do
  first ← line_items n here line
  others ← items_from (n + 1) first.1 lines
  Ok (first.0 ++ others)

-- a line's items after those of the lines before it
abbrev pub with_items : List PlacedStatement → Result (List PlacedStatement × Section) AsmFault → Result (List PlacedStatement × Section) AsmFault
with_items front read = read >>= λ x. Ok (front ++ x.0, x.1)
