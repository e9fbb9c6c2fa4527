-- Which bytes of a line are meant by its fault.
use Rattle.std.specs.Prelude.{ℕ, Bool, List, ◌∷◌, ◌&&◌, codes, unwrap_or, if◌then◌else◌}
use Rattle.std.specs.Str.{bytes_eq}
use Rattle.program_tokens.specs.Grammar.{is_name_start}
use Rattle.program_tokens.specs.declared.span.TokenSpan.{TokenSpan}
use Rattle.operand_forms.specs.declared.shape.OperandShape.{OperandShape}
use Rattle.operand_forms.specs.declared.shape.OperandShape.TheVariants.{Nothing}
use Rattle.operand_forms.specs.Shapes.{shape_of}
use Rattle.operand_forms.specs.Bytes.{bytes_at, byte_at, byte_span, token_span, whole_word}
use Rattle.operand_forms.specs.Meant.{span_at, operand_span, number_index, mark_index}
use Rattle.operand_forms.specs.declared.line_fault.LineFaultKind.{LineFaultKind}
use Rattle.operand_forms.specs.declared.line_fault.LineFaultKind.TheVariants as kind
use Rattle.operand_forms.specs.declared.rows.Reading.{Reading}

-- a name and a colon
abbrev pub is_label : (line : List ℕ) → (name colon : TokenSpan) → Bool
is_label line a b = is_name_start (byte_at line a) && bytes_eq (bytes_at line b) (codes ":")

-- what stands after a line's labels
abbrev pub after_labels : (line : List ℕ) → List TokenSpan → List TokenSpan
after_labels line (a ∷ b ∷ rest) = if is_label line a b then after_labels line rest else a ∷ b ∷ rest
after_labels line places = places

-- the first word of a line's statement
abbrev pub word_place : (line : List ℕ) → List TokenSpan → TokenSpan
word_place line places = span_at (after_labels line places) 0

abbrev pub word_in : (line : List ℕ) → Reading → List ℕ
word_in line r = bytes_at line (word_place line r.places)

-- the operands that follow a word
abbrev pub shape_named : (word : List ℕ) → OperandShape
shape_named word = unwrap_or (shape_of word) Nothing

-- the first byte that no text has; the whole word that is no token, or that begins the statement; the first token that is
-- no operand; the first number out of its range; the first mark that cannot stand where it does
unfoldable pub line_place : LineFaultKind → (line : List ℕ) → Reading → TokenSpan
line_place kind.NotAscii line r = byte_span line
line_place kind.Token line r = whole_word line (token_span line)
line_place kind.Mnemonic line r = whole_word line (word_place line r.places)
line_place kind.Operand line r = operand_span (shape_named (word_in line r)) r.tokens r.places
line_place kind.Number line r = span_at r.places (number_index (shape_named (word_in line r)) r.tokens)
line_place kind.Mark line r = span_at r.places (mark_index r.tokens)
