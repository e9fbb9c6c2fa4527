-- Which token of a line is meant by a fault of its statement.
use Rattle.std.specs.Prelude.{ℕ, ◌+◌, ◌-◌, ◌^◌, min, pos, List, [], ◌∷◌, Bool, true, false, not, length, take, drop, slice_get, unwrap_or, int_le, if◌then◌else◌, ◌==◌, ◌&&◌, ◌||◌}
use Rattle.std.specs.List.{position}
use Rattle.program_tokens.specs.declared.span.TokenSpan.{TokenSpan}
use Rattle.program_tokens.specs.declared.token.Number.{Number}
use Rattle.program_tokens.specs.declared.token.Number.TheVariants.{Small, Large}
use Rattle.program_tokens.specs.declared.token.Token.{Token}
use Rattle.program_tokens.specs.declared.token.Token.TheVariants as token
use Rattle.program_tokens.specs.declared.token.Mark.TheVariants as mark
use Rattle.program_statements.specs.Statements.{mark_count}
use Rattle.operand_forms.specs.declared.shape.OperandShape.{OperandShape}
use Rattle.operand_forms.specs.declared.shape.Range.{Range}
use Rattle.operand_forms.specs.declared.form.Inside.TheVariants.{Before}
use Rattle.operand_forms.specs.Shapes.{range, range_of}
use Rattle.operand_forms.specs.Forms.{form_of, fitting}
use Rattle.operand_forms.specs.Bytes.{span}

-- how many tokens the labels at the front of a line are: a name and a colon each
abbrev pub label_tokens : List Token → ℕ
label_tokens (token.Name name ∷ token.Colon ∷ rest) = label_tokens rest + 2
label_tokens _ = 0

-- the place of the token with this index
abbrev pub span_at : List TokenSpan → (index : ℕ) → TokenSpan
span_at spans index = unwrap_or (slice_get spans index) (span 1 1)

-- the place after another one, which has no bytes
abbrev pub place_after : TokenSpan → TokenSpan
place_after at = span (min (at.column + at.len) (2 ^ 64 - 1)) 0

-- Operands.

-- what stands before the marks at the end
abbrev pub without_marks : List Token → List Token
without_marks tokens = take (length tokens - mark_count tokens) tokens

-- what stands between the statement's first token and its marks
abbrev pub operands : List Token → List Token
operands tokens = without_marks (drop 1 (drop (label_tokens tokens) tokens))

-- how many of the operands fit the shape
abbrev pub fitting_operands : OperandShape → List Token → ℕ
fitting_operands shape tokens = fitting Before (form_of shape) (operands tokens)

-- all of them fit, so that more is wanted
abbrev pub is_early : OperandShape → List Token → Bool
is_early shape tokens = fitting_operands shape tokens == length (operands tokens)

-- the last token that fits, the statement's first among them
abbrev pub last_fitting : OperandShape → List Token → ℕ
last_fitting shape tokens = min (label_tokens tokens + fitting_operands shape tokens) (2 ^ 64 - 1)

-- the first token that does not fit, or after the last that does
unfoldable pub operand_span : OperandShape → List Token → List TokenSpan → TokenSpan
operand_span shape tokens spans =
    if is_early shape tokens then place_after (span_at spans (last_fitting shape tokens))
    else span_at spans (min (last_fitting shape tokens + 1) (2 ^ 64 - 1))

-- Numbers.

abbrev pub is_within : Range → Number → Bool
is_within numbers (Small n) = int_le numbers.low n && int_le n numbers.high
is_within numbers Large = false

-- a number out of the range, or an index that no place has
abbrev pub is_beyond : Range → Token → Bool
is_beyond numbers (token.Number n) = not (is_within numbers n)
is_beyond numbers (token.Index n) = not (is_within (range (pos 0) (pos 4096)) n)
is_beyond numbers _ = false

-- the first such token
unfoldable pub number_index : OperandShape → List Token → ℕ
number_index shape tokens = unwrap_or (position (is_beyond (range_of shape)) tokens) 0

-- Marks.

-- a mark that cannot stand after others, of which one is `!f`, or one a stop
abbrev pub is_bad_mark : (forward stop : Bool) → Token → Bool
is_bad_mark forward stop (token.Mark mark.Forward) = forward
is_bad_mark forward stop (token.Mark mark.Always) = stop
is_bad_mark forward stop (token.Mark mark.Taken) = stop
is_bad_mark forward stop (token.Mark mark.NotTaken) = stop
is_bad_mark forward stop _ = true

abbrev pub is_forward : Token → Bool
is_forward (token.Mark mark.Forward) = true
is_forward _ = false

-- the first such mark
abbrev pub bad_mark : (forward stop : Bool) → List Token → ℕ
bad_mark forward stop [] = 0
bad_mark forward stop (t ∷ ts) =
    if is_bad_mark forward stop t then 0
    else bad_mark (forward || is_forward t) (stop || not (is_forward t)) ts + 1

abbrev pub begins_with_directive : List Token → Bool
begins_with_directive (token.Directive d ∷ rest) = true
begins_with_directive _ = false

abbrev pub is_directive : List Token → Bool
is_directive tokens = begins_with_directive (drop (label_tokens tokens) tokens)

-- the first mark that cannot stand where it does: on a directive none can
unfoldable pub mark_index : List Token → ℕ
mark_index tokens =
    let start = length tokens - mark_count tokens in
    if is_directive tokens then start else min (start + bad_mark false false (drop start tokens)) (2 ^ 64 - 1)
