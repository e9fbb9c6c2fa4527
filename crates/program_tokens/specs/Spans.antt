-- Where the tokens of a line stand: the tokens are those of the grammar, taken from left to
-- right in the same way.
use Rattle.std.specs.Prelude.{ℕ, zero, suc, ◌+◌, List, [], ◌∷◌, length, if◌then◌else◌, ◌==◌, take_while}
use Rattle.std.specs.Str.{byte}
use Rattle.std.specs.Str.Lines.{strip_carriage_return}
use Rattle.program_tokens.specs.Grammar.{is_blank, kind_of, goes_on}
use Rattle.program_tokens.specs.declared.span.TokenSpan.{TokenSpan}

-- The places of the tokens of a text after its first `taken` bytes, which belong to a token before them;
-- `column` is that of the text's first byte. What is no token has a place as well.
unfoldable pub spans_after : (column taken : ℕ) → List ℕ → List TokenSpan
spans_after column taken [] = []
spans_after column (suc taken) (b ∷ bs) = spans_after (column + 1) taken bs
spans_after column zero (b ∷ bs) =
    if is_blank b then spans_after (column + 1) 0 bs
    else (if b == byte "#" then []
    else (let others = length (take_while (goes_on (kind_of b bs)) bs) in
    record { column = column; len = 1 + others } ∷ spans_after (column + 1) others bs))

-- The places of a line's tokens: columns are counted in bytes, from 1.
abbrev pub line_spans : List ℕ → List TokenSpan
line_spans line = spans_after 1 0 (strip_carriage_return line)
