-- Bytes of a line: those of a place, of a whole word, the first that no text has, and the first that form no token.
use Rattle.std.specs.Prelude.{ℕ, ◌+◌, ◌-◌, ◌^◌, min, List, [], ◌∷◌, Bool, not, length, take, take_while, drop, slice_get, Option, Some, None, unwrap_or, is_ok, if◌then◌else◌, ◌==◌, ◌||◌}
use Rattle.std.specs.List.{position}
use Rattle.std.specs.Str.{byte}
use Rattle.std.specs.Str.Lines.{strip_carriage_return}
use Rattle.program_tokens.specs.Grammar.{is_text_byte, is_name_byte, line_tokens}
use Rattle.program_tokens.specs.Spans.{line_spans}
use Rattle.program_tokens.specs.declared.span.TokenSpan.{TokenSpan}

abbrev pub span : (column len : ℕ) → TokenSpan
span column len = record { column = column; len = len }

-- the bytes of a place of a line
abbrev pub bytes_at : (line : List ℕ) → TokenSpan → List ℕ
bytes_at line at = take at.len (drop (at.column - 1) line)

-- the byte where a place begins
abbrev pub byte_at : (line : List ℕ) → TokenSpan → ℕ
byte_at line at = unwrap_or (slice_get line (at.column - 1)) 0

-- A directive and a mark end before a capital letter, a digit and _: the whole word has these, too.

abbrev pub is_cut : (first : ℕ) → Bool
is_cut b = b == byte "." || b == byte "!"

-- how many bytes of a name follow a place
abbrev pub more_letters : (line : List ℕ) → TokenSpan → ℕ
more_letters line at = length (take_while is_name_byte (drop at.len (drop (at.column - 1) line)))

unfoldable pub whole_word : (line : List ℕ) → TokenSpan → TokenSpan
whole_word line at =
    if is_cut (byte_at line at) then span at.column (min (at.len + more_letters line at) (2 ^ 64 - 1)) else at

-- what no line may have
abbrev pub is_bad_byte : ℕ → Bool
is_bad_byte b = not (is_text_byte b)

-- the place of the byte with this index; where there is none, the line's first
abbrev pub byte_place : Option ℕ → TokenSpan
byte_place None = span 1 1
byte_place (Some index) = span (min (index + 1) (2 ^ 64 - 1)) 1

-- the first byte of a line that no text has
unfoldable pub byte_span : (line : List ℕ) → TokenSpan
byte_span line = byte_place (position is_bad_byte (strip_carriage_return line))

-- the first of these places whose bytes, as a line of their own, cannot be read
abbrev pub token_from : (line : List ℕ) → List TokenSpan → TokenSpan
token_from line [] = span 1 1
token_from line (at ∷ places) = if is_ok (line_tokens (bytes_at line at)) then token_from line places else at

-- the first bytes of a line that form no token
unfoldable pub token_span : (line : List ℕ) → TokenSpan
token_span line = token_from line (line_spans line)
