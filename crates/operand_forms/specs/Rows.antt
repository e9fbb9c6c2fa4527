-- The lines of a text, and what is read of one.
use Rattle.std.specs.Prelude.{ℕ, ◌-◌, List, [], Result, Ok, Err, slice_index_or}
use Rattle.program_tokens.specs.Grammar.{line_tokens}
use Rattle.program_tokens.specs.Spans.{line_spans}
use Rattle.program_tokens.specs.declared.token.Token.{Token}
use Rattle.program_tokens.specs.declared.token.LineFault.{LineFault as TokenFault}
use Rattle.operand_forms.specs.declared.rows.Reading.{Reading}

-- the line of this number, from 1 on
abbrev pub line_at : (rows : List (List ℕ)) → (n : ℕ) → List ℕ
line_at rows n = slice_index_or rows (n - 1) []

abbrev pub tokens_or_none : Result (List Token) TokenFault → List Token
tokens_or_none (Ok tokens) = tokens
tokens_or_none (Err fault) = []

-- its tokens, if each of its bytes is of one, and where they stand
abbrev pub reading_of : (line : List ℕ) → Reading
reading_of line = record { tokens = tokens_or_none (line_tokens line); places = line_spans line }
