-- A token ends within its line: a token takes bytes of what it is taken from, and none twice.
use Rattle.std.proofs.Common.{ℕ, zero, suc, ◌+◌, ◌-◌, ◌<◌, ◌≤◌, ◌^◌, Bool, true, false, List, [], ◌∷◌, length, take, arith, if◌then◌else◌}
use Rattle.std.specs.Prelude.{◌==◌, take_while, slice_index}
use Rattle.std.specs.List.{All, prefix_len}
use Rattle.std.specs.Str.{byte}
use Rattle.std.specs.Str.Lines.{strip_carriage_return}
use Rattle.std.proofs.lemmas.List.{length-take-le}
use Rattle.std.proofs.lemmas.List.Elements.{All-nil, All-cons}
use Rattle.std.proofs.lemmas.List.Sums.{prefix_len-le-length}
use Rattle.program_tokens.specs.Grammar.{is_blank, kind_of, goes_on}
use Rattle.program_tokens.specs.Spans.{spans_after, line_spans}
use Rattle.program_tokens.specs.declared.span.TokenSpan.{TokenSpan}

-- each place ends at this column or before it
abbrev EndBy : ℕ → List TokenSpan → Type 0
EndBy limit spans = All (λ (span : TokenSpan). span.column + span.len ≤ limit) spans

chosen : (b : Bool) (xs ys : List TokenSpan) (limit : ℕ) → EndBy limit xs → EndBy limit ys → EndBy limit (if b then xs else ys)
chosen true xs ys limit here there = here
chosen false xs ys limit here there = there

run-le : (p : ℕ → Bool) (bs : List ℕ) → length (take_while p bs) ≤ length bs
run-le p bs = omega (arith, length-take-le (prefix_len p bs) bs (prefix_len-le-length p bs), prefix_len-le-length p bs)

ends_within : (column taken limit : ℕ) (bs : List ℕ) → column + length bs ≤ limit → EndBy limit (spans_after column taken bs)
unfolding spans_after
ends_within column zero limit [] within = All-nil (λ (span : TokenSpan). span.column + span.len ≤ limit)
ends_within column (suc taken) limit [] within = All-nil (λ (span : TokenSpan). span.column + span.len ≤ limit)
ends_within column (suc taken) limit (b ∷ bs) within = ends_within (column + 1) taken limit bs (omega arith)
ends_within column zero limit (b ∷ bs) within =
    let others = length (take_while (goes_on (kind_of b bs)) bs) in
    let here : TokenSpan = record { column = column; len = 1 + others } in
    let ends : column + (1 + others) ≤ limit = omega (arith, run-le (goes_on (kind_of b bs)) bs) in
    chosen (is_blank b) (spans_after (column + 1) 0 bs) (if b == byte "#" then [] else here ∷ spans_after (column + 1) others bs) limit
    (ends_within (column + 1) 0 limit bs (omega arith))
    (chosen (b == byte "#") [] (here ∷ spans_after (column + 1) others bs) limit
    (All-nil (λ (span : TokenSpan). span.column + span.len ≤ limit))
    (All-cons (λ (span : TokenSpan). span.column + span.len ≤ limit) here (spans_after (column + 1) others bs) ends (ends_within (column + 1) others limit bs (omega arith))))

shorter : (line : List ℕ) (b : Bool) → length (if b then take (length line - 1) line else line) ≤ length line
shorter line true = omega (arith, length-take-le (length line - 1) line (omega arith))
shorter line false = omega arith

-- the places of a line that memory holds
pub line_ends : (line : List ℕ) → length line < 2 ^ 63 → All (λ (span : TokenSpan). span.column + span.len < 2 ^ 64) (line_spans line)
line_ends line within =
    let text = strip_carriage_return line in
    let less : length text ≤ length line = shorter line (slice_index line (length line - 1) == 13) in
    let ends = ends_within 1 0 (1 + length text) text (omega arith) in
    λ k d here. omega (arith, ends k d here)
