-- What is said of a line that cannot be read: at the token that is to blame, with a text in its place only where that
-- mends the line.
use Rattle.std.specs.Prelude.{◌≡◌, ℕ, ◌+◌, ◌-◌, ◌^◌, min, Bool, true, false, not, ◌&&◌, ◌||◌, List, ◌++◌, length, take, drop, codes, nat_le, is_none, Option, Some, None, Result, Ok, Err, IfSome}
use Rattle.std.specs.List.{All}
use Rattle.std.specs.Str.{bytes_eq}
use Rattle.program_tokens.specs.Grammar.{line_tokens}
use Rattle.program_tokens.specs.declared.span.TokenSpan.{TokenSpan}
use Rattle.program_tokens.specs.declared.token.Token.{Token}
use Rattle.program_tokens.specs.declared.token.LineFault.{LineFault as TokenFault}
use Rattle.program_statements.specs.Statements.{statement_of}
use Rattle.program_statements.specs.declared.fault.StatementFault.{StatementFault}
use Rattle.program_statements.specs.declared.statement.Section.{Section}
use Rattle.program_statements.specs.declared.statement.Statement.{Statement}
use Rattle.operand_forms.specs.LineFaults.{kind_of_fault, kind_of_tokens, fault_at}
use Rattle.operand_forms.specs.declared.line_fault.LineFaultKind.{LineFaultKind}
use Rattle.operand_forms.specs.declared.line_fault.LineFaultKind.TheVariants as kind
use Rattle.operand_forms.specs.Bytes.{span}
use Rattle.operand_forms.specs.Meant.{label_tokens, operand_span}
use Rattle.operand_forms.specs.Rows.{reading_of}
use Rattle.operand_forms.specs.LinePlaces.{word_in, shape_named, line_place}
use Rattle.diagnostics.specs.declared.diagnostic.Diagnostic.{Diagnostic}
use Rattle.diagnostics.specs.declared.diagnostic.Replacement.{Replacement}
use Rattle.diagnostics.specs.declared.diagnostic.Severity.TheVariants.{Error}
use Rattle.diagnostics.specs.declared.diagnostic.Source.TheVariants.{Program}
use Rattle.text_diagnostics.specs.Refusals.{told_as, span_in}

-- What makes a line unreadable in a section, if something does.

abbrev pub fault_of_statement : Result Statement StatementFault → Option LineFaultKind
fault_of_statement (Ok s) = None
fault_of_statement (Err f) = Some (kind_of_fault f)

abbrev pub fault_of_tokens : Section → Result (List Token) TokenFault → Option LineFaultKind
fault_of_tokens here (Ok tokens) = fault_of_statement (statement_of here (drop (label_tokens tokens) tokens))
fault_of_tokens here (Err f) = Some (kind_of_tokens f)

unfoldable pub fault_in : Section → (line : List ℕ) → Option LineFaultKind
fault_in here line = fault_of_tokens here (line_tokens line)

-- a line can be read in a section
abbrev pub reads : Section → (line : List ℕ) → Bool
reads here line = is_none (fault_in here line)

-- a line with a text in place of a part
abbrev pub replaced : (line : List ℕ) → TokenSpan → (text : List ℕ) → List ℕ
replaced line at text = take (at.column - 1) line ++ (text ++ drop at.len (drop (at.column - 1) line))

-- the first token of a line that is no operand stands after a part of it
unfoldable pub goes_further : TokenSpan → (line : List ℕ) → Bool
goes_further at line =
    let r = reading_of line in
    nat_le (min (at.column + at.len) (2 ^ 64 - 1)) (operand_span (shape_named (word_in line r)) r.tokens r.places).column

-- the place of a text that begins where another place does
abbrev pub taken_by : TokenSpan → (text : List ℕ) → TokenSpan
taken_by at text = span at.column (length text)

-- A text mends a line where the line then can be read; of several wrong operands, also where all of the text is then right,
-- if it is more than a space.
abbrev pub is_righted : LineFaultKind → TokenSpan → (text mended : List ℕ) → Bool
is_righted kind.Operand at text line = not (bytes_eq text (codes " ")) && goes_further at line
is_righted _ at text line = false

abbrev pub mends : LineFaultKind → Section → (line : List ℕ) → TokenSpan → (text : List ℕ) → Bool
mends k here line at text = reads here (replaced line at text) || is_righted k (taken_by at text) text (replaced line at text)

-- a replacement does
abbrev pub Mends : LineFaultKind → Section → (line : List ℕ) → Replacement → Type 0
Mends k here line r = mends k here line (span r.span.column r.span.width) r.text ≡ true

-- the error of line n, which cannot be read in this section: at the token that is to blame
pub record IsLineError (k : LineFaultKind) (n : ℕ) (here : Section) (line : List ℕ) (d : Diagnostic) : Type 0 where
  pub severity : d.severity ≡ Error
  pub source : d.source ≡ Program
  pub code : d.code ≡ (told_as (fault_at n k)).0
  pub place : d.span ≡ Some (span_in n (line_place k line (reading_of line)))
  pub mended : IfSome d.help (λ help. All (Mends k here line) help.replacements)
