-- The places so far, and those of the tokens of what is left, are those of the text.
use Rattle.std.proofs.Common.{◌≡◌, ◌+◌, ◌++◌, length}
use Rattle.program_tokens.specs.Spans.{spans_after}
use Rattle.program_tokens.proofs.span.read_spans.Given as goal

abbrev pub invariant-loop-first : goal.invariant-loop-first
invariant-loop-first l = record {
  placed : l.spans.items ++ spans_after l.column 0 l.rest ≡ spans_after 1 0 l.initial.rest;
  counted : l.column + length l.rest ≡ 1 + length l.initial.rest;
}

abbrev pub decreases-loop-first : goal.decreases-loop-first
decreases-loop-first l = length l.rest
